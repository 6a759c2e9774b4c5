use Rattle.std.proofs.Common.{◌∙◌, length, ap, sym, refl}
use Rattle.ras_machine.specs.Flat.{FlatState, flat_turn, flat_step, acting}
use Rattle.ras_machine.specs.Schedule.{given_by}
use Rattle.ras_machine.proofs.HartCount.{step_count}
use Rattle.ras_machine.proofs.Steps.{flat_turn_taken, step_moves, never_poisoned}
use Rattle.ras_machine.proofs.flat.FlatParts.advance.Goals as goal

pub ending_by-requires-clause-unpoisoned : goal.ending_by-requires-clause-unpoisoned
ending_by-requires-clause-unpoisoned c =
    let given = given_by c.args.input.now c.args.schedule.now in
    let a = c.self.inside in
    let s : FlatState = record { harts = a.harts.harts; place = a.place; ram = a.harts.memory; console = a.console } in
    never_poisoned _ (acting given c.args.n s.harts) (flat_turn given c.args.n s) s _ _
    (flat_turn_taken _ c.args.input.now c.args.schedule.now c.args.n s _ _ _ _ c.pick-i.ensures.pick c.count.ensures.count c.step-answer.ensures)

pub returns-clause-step : goal.returns-clause-step
returns-clause-step c =
    let given = given_by c.args.input.now c.args.schedule.now in
    let a = c.self.inside in
    let s : FlatState = record { harts = a.harts.harts; place = a.place; ram = a.harts.memory; console = a.console } in
    ap (λ (s : FlatState). flat_step given c.args.n s) (sym c.self.view_is)
    ∙ step_moves _ given c.args.n s _ _
    (flat_turn_taken _ c.args.input.now c.args.schedule.now c.args.n s _ _ _ _ c.pick-i.ensures.pick c.count.ensures.count c.step-answer.ensures)
    ∙ rw c.ending_by.ensures.ending refl

pub returns-clause-harts : goal.returns-clause-harts
returns-clause-harts c =
    let given = given_by c.args.input.now c.args.schedule.now in
    let a = c.self.inside in
    let s : FlatState = record { harts = a.harts.harts; place = a.place; ram = a.harts.memory; console = a.console } in
    ap (λ t. length t.after.harts)
    (sym (flat_turn_taken _ c.args.input.now c.args.schedule.now c.args.n s _ _ _ _ c.pick-i.ensures.pick c.count.ensures.count c.step-answer.ensures))
    ∙ step_count _ _ (acting given c.args.n s.harts) _ (flat_turn given c.args.n s)
    ∙ ap (λ (s : FlatState). length s.harts) c.self.view_is
