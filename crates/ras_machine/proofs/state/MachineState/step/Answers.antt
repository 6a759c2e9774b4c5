use Rattle.std.proofs.Common.{◌∙◌, sym, ap}
use Rattle.ras_machine.specs.Acted.{ending_at}
use Rattle.ras_machine.specs.Actions.{at_stop}
use Rattle.ras_machine.proofs.Made.{step_spent, step_fatal, step_made}
use Rattle.ras_machine.specs.Schedule.{given_by}
use Rattle.ras_machine.proofs.state.MachineState.step.Goals as goal

pub returns-then-self-settings-clause-after : goal.returns-then-self-settings-clause-after
returns-then-self-settings-clause-after g c =
    c.stop.ensures.after
    ∙ ap (λ p. at_stop p.1 p.0)
    (sym (step_spent g.B.Bus.meaning g.B.FlipBus.flips (given_by c.args.input.now c.args.schedule.now) c.args.settings.now c.args.lines.now c.args.self.now c.if-self-settings.true))

pub returns-then-self-settings-clause-ending : goal.returns-then-self-settings-clause-ending
returns-then-self-settings-clause-ending g c =
    c.stop.ensures.ending
    ∙ ap (λ p. ending_at p.1 p.0.steps)
    (sym (step_spent g.B.Bus.meaning g.B.FlipBus.flips (given_by c.args.input.now c.args.schedule.now) c.args.settings.now c.args.lines.now c.args.self.now c.if-self-settings.true))

pub returns-in-Some-clause-after : goal.returns-in-Some-clause-after
returns-in-Some-clause-after g c =
    c.stop-in-Some.ensures.after
    ∙ ap (λ p. at_stop p.1 p.0)
    (sym (step_fatal g.B.Bus.meaning g.B.FlipBus.flips (given_by c.args.input.now c.args.schedule.now) c.args.settings.now c.args.lines.now c.args.self.now c.if-self-settings.false c.prepare.new.self c.prepare.ensures.after
    c.in-Some.bank c.in-Some.rec (sym c.first_critical.ensures ∙ c.in-Some.is)))

pub returns-in-Some-clause-ending : goal.returns-in-Some-clause-ending
returns-in-Some-clause-ending g c =
    c.stop-in-Some.ensures.ending
    ∙ ap (λ p. ending_at p.1 p.0.steps)
    (sym (step_fatal g.B.Bus.meaning g.B.FlipBus.flips (given_by c.args.input.now c.args.schedule.now) c.args.settings.now c.args.lines.now c.args.self.now c.if-self-settings.false c.prepare.new.self c.prepare.ensures.after
    c.in-Some.bank c.in-Some.rec (sym c.first_critical.ensures ∙ c.in-Some.is)))

pub returns-in-None-clause-after : goal.returns-in-None-clause-after
returns-in-None-clause-after g c =
    c.step_hart.ensures.after
    ∙ ap (λ p. at_stop p.1 p.0)
    (sym (step_made g.B.Bus.meaning g.B.FlipBus.flips (given_by c.args.input.now c.args.schedule.now) c.args.settings.now c.args.lines.now c.args.self.now c.if-self-settings.false c.prepare.new.self c.drain.new.self
    c.prepare.ensures.after (sym c.first_critical.ensures ∙ c.in-None.is) c.drain.ensures))

pub returns-in-None-clause-ending : goal.returns-in-None-clause-ending
returns-in-None-clause-ending g c =
    c.step_hart.ensures.ending
    ∙ ap (λ p. ending_at p.1 p.0.steps)
    (sym (step_made g.B.Bus.meaning g.B.FlipBus.flips (given_by c.args.input.now c.args.schedule.now) c.args.settings.now c.args.lines.now c.args.self.now c.if-self-settings.false c.prepare.new.self c.drain.new.self
    c.prepare.ensures.after (sym c.first_critical.ensures ∙ c.in-None.is) c.drain.ensures))
