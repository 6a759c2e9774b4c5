use Rattle.std.proofs.Common.{◌≡◌, ◌∙◌, ◌≤◌, ◌<◌, None, ap, sym, subst, arith}
use Rattle.ras_machine.specs.Machine.{StackMachine, machine_stepped}
use Rattle.ras_machine.specs.declared.settings.Settings.{Settings}
use Rattle.ras_machine.specs.Schedule.{given_by}
use Rattle.ras_machine.proofs.Alone.{alone_too, not_ended}
use Rattle.ras_machine.proofs.Machines.{run_next}
use Rattle.ras_machine.proofs.machine.Machine.go_on_undisturbed.Goals as goal

pub loop-self-preserved : goal.loop-self-preserved
loop-self-preserved c =
    let m = c.loop-self.self in
    let it = c.loop-self.invariant in
    let given = given_by c.args.input.now c.args.schedule.now in
    let going : m.ended ≡ None = ap (λ (m : StackMachine). m.ended) (sym c.self-in-loop-self.view_is) ∙ not_ended c.self-in-loop-self.inside.ended c.is_none.result c.is_none.ensures c.loop-self-test.true in
    let low : m.state.steps < c.undisturbed_until-until.result = subst (λ (m : StackMachine). m.state.steps < c.undisturbed_until-until.result) c.self-in-loop-self.view_is c.if-self-until.true in
    let same = ap (λ (s : Settings). s.budget) it.settings in
    let high = c.undisturbed_until-until.ensures.high in
    let calm = it.calm going low in
    let seen = sym c.self.view_is in
    let up = subst (λ (first : StackMachine). first.state.steps ≤ m.state.steps) seen (it.low going) in
    let budget = same ∙ ap (λ (first : StackMachine). first.settings.budget) seen in
    let poll = it.poll ∙ ap (λ (first : StackMachine). first.state.poll) seen in
    let patrol = it.patrol ∙ ap (λ (first : StackMachine). first.state.patrol) seen in
    let after : c.step_undisturbed.new.self ≡ machine_stepped given c.args.lines.now m =
    c.step_undisturbed.ensures.after c.args.lines.now (alone_too c.args.lines.now _ _ _ _ _ _ m.state.steps budget poll patrol (c.undisturbed_until-until.ensures.alone m.state.steps up low)) calm in
    record {
      left = it.left ∙ run_next given c.args.lines.now m c.step_undisturbed.new.self after (omega arith) c.step_undisturbed.ensures.completed;
      settings = c.step_undisturbed.ensures.settings ∙ it.settings;
      poll = c.step_undisturbed.ensures.poll ∙ it.poll;
      patrol = c.step_undisturbed.ensures.patrol ∙ it.patrol;
      low = λ none. let more = c.step_undisturbed.ensures.completed none in let before = it.low going in omega arith;
      high = λ none. let more = c.step_undisturbed.ensures.completed none in omega arith;
      calm = λ none near. c.step_undisturbed.ensures.calm calm none;
    }
