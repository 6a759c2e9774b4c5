use Rattle.std.proofs.Common.{◌≡◌, ◌≤◌, ◌∙◌, Some, sym, ap, subst}
use Rattle.ras_machine.specs.Machine.{StackMachine}
use Rattle.ras_machine.proofs.Machines.{run_ended, run_next}
use Rattle.ras_machine.specs.Schedule.{given_by}
use Rattle.ras_machine.proofs.machine.Machine.run_on.Goals as goal

pub returns-in-Some-clause-after : goal.returns-in-Some-clause-after
returns-in-Some-clause-after c =
    let ended : c.loop-self.self.ended ≡ Some c.in-Some.ending = ap (λ (m : StackMachine). m.ended) (sym c.self-in-loop-self.view_is) ∙ c.in-Some.is in
    sym (c.loop-self.invariant.left ∙ run_ended (given_by c.args.input.now c.args.schedule.now) c.args.lines.now c.loop-self.self c.in-Some.ending ended)

pub loop-self-preserved : goal.loop-self-preserved
loop-self-preserved c =
    let low : c.loop-self.self.state.steps ≤ c.loop-self.self.settings.budget =
    subst (λ (m : StackMachine). m.state.steps ≤ m.settings.budget) c.self-in-loop-self.view_is c.self-in-loop-self.invariant.1 in
    record {
      left = c.loop-self.invariant.left
          ∙ run_next (given_by c.args.input.now c.args.schedule.now) c.args.lines.now c.loop-self.self c.go_on.new.self c.go_on.ensures.after low c.go_on.ensures.completed
          ∙ c.go_on_undisturbed.ensures.left;
      settings = c.go_on_undisturbed.ensures.settings ∙ c.go_on.ensures.settings ∙ c.loop-self.invariant.settings;
      first = c.go_on_undisturbed.ensures.first;
    }
