use Rattle.std.proofs.Common.{◌≡◌, ℕ, List, [], arith, ap, ◌∙◌, sym, refl}
use Rattle.std.proofs.lemmas.Grind.{common_steps}
use Rattle.ras_debug.specs.declared.session.Turn.TheVariants as turns
use Rattle.ras_cli.specs.DebugPlan.{session_pieces}
use Rattle.ras_cli.proofs.DebugLemmas.{none_written, one_written, all_written, reply_cut}
use Rattle.ras_cli.proofs.WritesLemmas.{any_error}
use Rattle.ras_cli.proofs.debugging.write_replies.Goals as goal

pub loop-rest-init : goal.loop-rest-init
loop-rest-init g c = record { written = none_written _ _; later = omega arith }

pub returns-in_err-out-clause-cut : goal.returns-in_err-out-clause-cut
returns-in_err-out-clause-cut g c =
    any_error _ (reply_cut _ _ _ _ c.loop-rest.rest.now c.cut_line.result.0.now c.cut_line.result.1.now c.loop-rest.session c.answer-turn.new.self c.reply.result.now c.cut_line.ensures.lines c.answer-turn.ensures.after c.reply.ensures c.loop-rest.invariant.written c.in_err-out.ensures.err)

pub returns-in_err-out-clause-later : goal.returns-in_err-out-clause-later
returns-in_err-out-clause-later g c = omega (arith, c.loop-rest.invariant.later, c.out.ensures.later)

pub loop-rest-preserved : goal.loop-rest-preserved
loop-rest-preserved g c =
    record {
      written = one_written _ _ _ _ c.loop-rest.rest.now c.cut_line.result.0.now c.cut_line.result.1.now c.loop-rest.session c.answer-turn.new.self c.reply.result.now turns.More c.cut_line.ensures.lines c.answer-turn.ensures.after c.reply.ensures
          (sym c.in-More.is ∙ c.answer-turn.ensures.turn) c.loop-rest.invariant.written c.in_ok-out.ensures.ok;
      later = omega (arith, c.loop-rest.invariant.later, c.out.ensures.later);
    }

pub returns-in-Quit-clause-made : goal.returns-in-Quit-clause-made
returns-in-Quit-clause-made g c =
    all_written _ _ _ _ refl
    (one_written _ _ _ _ c.loop-rest.rest.now c.cut_line.result.0.now c.cut_line.result.1.now c.loop-rest.session c.answer-turn.new.self c.reply.result.now turns.Quit c.cut_line.ensures.lines c.answer-turn.ensures.after c.reply.ensures
    (sym c.in-Quit.is ∙ c.answer-turn.ensures.turn) c.loop-rest.invariant.written c.in_ok-out.ensures.ok)

pub returns-in-Quit-clause-later : goal.returns-in-Quit-clause-later
returns-in-Quit-clause-later g c = omega (arith, c.loop-rest.invariant.later, c.out.ensures.later)

pub returns-clause-made : goal.returns-clause-made
returns-clause-made g c =
    let none : c.loop-rest.rest.now ≡ [] = grind (arith, common_steps) in
    all_written _ _ _ _ (ap (λ (l : List ℕ). session_pieces l c.loop-rest.session) none) c.loop-rest.invariant.written
