use Rattle.std.proofs.Common.{◌≡◌, ◌∙◌, sym, ap, subst}
use Rattle.ras_machine.specs.Machine.{StackMachine, machine_stepped}
use Rattle.ras_machine.specs.TwoRuns.{StaysInStep}
use Rattle.ras_machine.proofs.Machines.{stepped_stays}
use Rattle.ras_machine.specs.Schedule.{given_by}
use Rattle.ras_machine.proofs.machine.Machine.step.Goals as goal

pub returns-clause-two_runs : goal.returns-clause-two_runs
returns-clause-two_runs c =
    let m : StackMachine = c.args.self.now in
    let after : c.step_once.new.self ≡ machine_stepped (given_by c.args.input.now c.args.schedule.now) c.args.script.now.lines m =
    c.step_once.ensures.after ∙ ap (λ lines. machine_stepped (given_by c.args.input.now c.args.schedule.now) lines m) c.lines.ensures in
    λ image it.
    subst (λ (m : StackMachine). StaysInStep image (given_by c.args.input.now c.args.schedule.now) c.args.script.now.lines m) (sym after) (stepped_stays image (given_by c.args.input.now c.args.schedule.now) c.args.script.now.lines m it)
