use Rattle.std.proofs.Common.{◌∙◌, ap, ap₂, sym, arith, bit_xor, ◌*◌, ◌/◌, ◌^◌}
use Rattle.std.proofs.lemmas.Nat.{and_mask}
use Rattle.hsiao_code.specs.Code.{column_at, xor_of, check_bits, check_of_byte}
use Rattle.hsiao_code.specs.LinearLaws.{xor_of-zero}
use Rattle.hsiao_code.specs.ReadingLaws.{byte_more}
use Rattle.hsiao_code.proofs.codeword.check_of.Goals as goal

pub loop-k-init : goal.loop-k-init
loop-k-init c = sym (xor_of-zero column_at c.args.v)

pub loop-k-preserved : goal.loop-k-preserved
loop-k-preserved c =
    ap₂ bit_xor c.loop-k.invariant
    (c.check_entry-check.ensures ∙ ap (check_of_byte c.loop-k.k) (and_mask (c.args.v / 2 ^ (8 * c.loop-k.k)) 8))
    ∙ byte_more c.args.v c.loop-k.k

pub returns : goal.returns
unfolding check_bits
returns c = c.loop-k.invariant ∙ ap (xor_of column_at c.args.v) (omega arith)
