use Rattle.std.proofs.Common.{◌≡◌, ◌≤◌, ◌∙◌, sym, ap, subst}
use Rattle.ras_bits.specs.declared.map.TheConstants.{LAST_STEP}
use Rattle.ras_machine.specs.Flat.{flat_made}
use Rattle.ras_machine.specs.declared.settings.Settings.{Settings}
use Rattle.ras_machine.specs.Machine.{StackMachine, machine_run}
use Rattle.ras_machine.specs.Ways.{EndsBy, KeepsToFlat}
use Rattle.ras_machine.specs.TwoRuns.{StaysInStep}
use Rattle.ras_machine.proofs.Accounts.{emits_on_run}
use Rattle.ras_machine.proofs.Machines.{run_stays, run_settings}
use Rattle.ras_machine.specs.Schedule.{given_by}
use Rattle.ras_machine.proofs.machine.Machine.run.Goals as goal

pub returns-clause-two_runs : goal.returns-clause-two_runs
returns-clause-two_runs c =
    let m : StackMachine = c.args.self.now in
    let after : c.run_on.new.self ≡ machine_run (given_by c.args.input.now c.args.schedule.now) c.args.script.now.lines m =
    c.run_on.ensures.after ∙ ap (λ lines. machine_run (given_by c.args.input.now c.args.schedule.now) lines m) c.lines.ensures in
    λ image it.
    subst (λ (m : StackMachine). StaysInStep image (given_by c.args.input.now c.args.schedule.now) c.args.script.now.lines m) (sym after) (run_stays image (given_by c.args.input.now c.args.schedule.now) c.args.script.now.lines m it)

pub returns-clause-keeps : goal.returns-clause-keeps
returns-clause-keeps c =
    let m : StackMachine = c.args.self.now in
    let given = (given_by c.args.input.now c.args.schedule.now) in
    let script = c.args.script.now.lines in
    let new : StackMachine = c.run_on.new.self in
    let after : new ≡ machine_run given script m = c.run_on.ensures.after ∙ ap (λ lines. machine_run given lines m) c.lines.ensures in
    let settings : new.settings ≡ m.settings = ap (λ (m : StackMachine). m.settings) after ∙ run_settings given script m in
    λ image it.
    let stays : StaysInStep image given script new = subst (λ (m : StackMachine). StaysInStep image given script m) (sym after) (run_stays image given script m it) in
    subst (λ (s : Settings). KeepsToFlat new.state.beyond script (EndsBy given (flat_made image s.budget s.harts) script c.run_on.result new.state)) settings
    (stays.over c.run_on.result c.run_on.ensures.ending)

pub returns-clause-accounted : goal.returns-clause-accounted
returns-clause-accounted c =
    let m : StackMachine = c.args.self.now in
    let given = (given_by c.args.input.now c.args.schedule.now) in
    let script = c.args.script.now.lines in
    let low : m.settings.budget ≤ LAST_STEP =
    subst (λ (s : Settings). s.budget ≤ LAST_STEP) c.settings-in_range.ensures.settings c.settings-in_range.ensures.range.budget in
    λ image on.
    emits_on_run image given script m c.run_on.new.self c.run_on.result low on
    (c.run_on.ensures.after ∙ ap (λ lines. machine_run given lines m) c.lines.ensures) c.run_on.ensures.ending
