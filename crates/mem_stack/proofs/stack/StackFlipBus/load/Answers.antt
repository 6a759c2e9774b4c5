use Rattle.std.proofs.Common.{◌∙◌, ◌≡◌, ◌%◌, ◌^◌, ap, sym, subst, arith, length, slice_index, slice_set}
use Rattle.std.proofs.lemmas.List.{map-set, length-map, length-set}
use Rattle.ecc_memory.specs.Word.{codeword_of}
use Rattle.mem_stack.specs.Stack.{stack_calls, fresh_stack}
use Rattle.mem_stack.specs.StackStands.{StackStands}
use Rattle.mem_stack.specs.StackLaws.{loaded_stands}
use Rattle.mem_stack.proofs.Loaded.{set_below}
use Rattle.mem_stack.proofs.stack.StackFlipBus.load.Goals as goal

pub returns-clause-loaded : goal.returns-clause-loaded
returns-clause-loaded c = λ words fresh.
    c.load.ensures.after ∙ ap (λ s. stack_calls.load s c.args.w c.args.v) (c.self.view_is ∙ fresh)
    ∙ ap fresh_stack (sym (map-set codeword_of words c.args.w c.args.v))

pub returns-clause-stands : goal.returns-clause-stands
returns-clause-stands c = λ words q fresh small.
    let whole : length words % 8 ≡ 0 = rw (c.self.view_is ∙ fresh, length-map words codeword_of) at c.self.invariant.0 in
    subst (λ s. StackStands s (slice_index (slice_set words c.args.w c.args.v)) q) (sym (returns-clause-loaded c words fresh))
    (loaded_stands (slice_set words c.args.w c.args.v) q (rw (length-set words c.args.w c.args.v) whole) (set_below words c.args.w c.args.v (2 ^ 64) (omega arith) small))
