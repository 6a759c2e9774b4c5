use Rattle.std.proofs.Common.{◌<◌, ◌≤◌, List, ℕ, length, arith, ap, ◌∙◌}
use Rattle.mem_stack.specs.Stack.{loaded_stack}
use Rattle.mem_stack.specs.StackLaws.{loaded_words, loaded_stands}
use Rattle.ras_machine.proofs.Filled.{filled, filled-length, one_more_filled, zero_filled, all_filled}
use Rattle.ras_machine.proofs.loading.stack_of.Goals as goal
use Rattle.ras_machine.proofs.loading.stack_of.Goals.{then-words-w-ne0, else-words-w-ne0}

pub load-requires : goal.load-requires
load-requires c =
    let inside : c.loop-w.w < length c.args.words.now = c.loop-w-test.true in
    rw (c.loop-w.invariant, loaded_words (filled c.args.words.now c.loop-w.w), filled-length c.args.words.now c.loop-w.w) inside

pub loop-w-preserved : goal.loop-w-preserved
loop-w-preserved c =
    let words = c.args.words.now in
    let inside : c.loop-w.w < length words = c.loop-w-test.true in
    elim c.if-words-w-ne0.branch [
      | then-words-w-ne0 w ↦ w.stack-is ∙ w.load.ensures.loaded (filled words c.loop-w.w) c.loop-w.invariant ∙ ap (λ (l : List ℕ). loaded_stack l) (one_more_filled words c.loop-w.w 0 inside)
      | else-words-w-ne0 w ↦ w.stack-is ∙ c.loop-w.invariant ∙ ap (λ (l : List ℕ). loaded_stack l) (zero_filled words c.loop-w.w 0 inside w.if-words-w-ne0.false)
    ]

pub returns-clause-loaded : goal.returns-clause-loaded
returns-clause-loaded c =
    let over : length c.args.words.now ≤ c.loop-w.w = let no_more = c.loop-w-test.false in omega arith in
    c.loop-w.invariant ∙ ap (λ (words : List ℕ). loaded_stack words) (all_filled c.args.words.now c.loop-w.w over)

pub returns-clause-stands : goal.returns-clause-stands
returns-clause-stands c = λ q.
    let words = c.args.words.now in
    rw (c.loop-w.invariant, all_filled words c.loop-w.w (let over = c.loop-w-test.false in omega arith))
    (loaded_stands words q c.requires.lines (λ w inside. let fits = c.type_inv.words w in omega arith))
