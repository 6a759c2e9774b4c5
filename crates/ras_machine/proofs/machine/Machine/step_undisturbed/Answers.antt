use Rattle.std.proofs.Common.{◌∙◌, sym}
use Rattle.ras_machine.specs.Machine.{StackMachine}
use Rattle.ras_machine.specs.Schedule.{given_by}
use Rattle.ras_machine.proofs.Alone.{stepped_alone, left_calm}
use Rattle.ras_machine.proofs.machine.Machine.step_undisturbed.Goals as goal

pub returns-clause-after : goal.returns-clause-after
returns-clause-after c lines alone calm =
    let inside : StackMachine = record { state = c.self.inside.state; settings = c.self.inside.settings; ended = c.self.inside.ended } in
    stepped_alone (given_by c.args.input.now c.args.schedule.now) lines inside c.args.self.now c.step_undisturbed.new.self c.step_undisturbed.new.ending c.self.view_is c.requires.going alone calm
    c.step_undisturbed.ensures.after c.step_undisturbed.ensures.ending

pub returns-clause-calm : goal.returns-clause-calm
returns-clause-calm c calm none =
    let inside : StackMachine = record { state = c.self.inside.state; settings = c.self.inside.settings; ended = c.self.inside.ended } in
    left_calm (given_by c.args.input.now c.args.schedule.now) inside c.args.self.now c.step_undisturbed.new.self c.self.view_is calm c.step_undisturbed.ensures.after (sym c.step_undisturbed.ensures.ending ∙ none)
