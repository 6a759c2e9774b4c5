use Rattle.std.proofs.Common.{◌≡◌, ◌∙◌, ◌<◌, ◌≤◌, length, refl, sym, subst, arith, slice_index}
use Rattle.mem_stack.specs.StackLaws.{loaded_stands}
use Rattle.mem_stack.specs.StackStands.{StackStands}
use Rattle.ras_machine.proofs.Resets.{one_more_loaded, all_loaded}
use Rattle.ras_machine.proofs.reset.reload.Goals as goal

pub loop-w-preserved : goal.loop-w-preserved
loop-w-preserved c =
    let count : c.words-count.result ≡ length c.args.words.now = c.words-count.ensures ∙ c.forget_all.ensures.words ∙ sym c.requires.count in
    let inside : c.loop-w.w < length c.args.words.now = let less = c.loop-w-test.true in omega arith in
    one_more_loaded c.args.words.now c.loop-w.w (slice_index c.args.words.now c.loop-w.w) c.loop-w.stack c.load.new.self c.loop-w.invariant inside refl c.load.ensures.after

pub returns-clause-stands : goal.returns-clause-stands
returns-clause-stands c = λ q.
    let words = c.args.words.now in
    let count : c.words-count.result ≡ length words = c.words-count.ensures ∙ c.forget_all.ensures.words ∙ sym c.requires.count in
    let all : length words ≤ c.loop-w.w = let over = c.loop-w-test.false in omega arith in
    subst (λ s. StackStands s (slice_index words) q) (sym (all_loaded words c.loop-w.w c.loop-w.stack c.loop-w.invariant all))
    (loaded_stands words q c.requires.lines (λ w inside. let fits = c.type_inv.words w in omega arith))
