use Rattle.std.proofs.Common.{arith}
use Rattle.ras_bits.proofs.Parts.{replaced, with_field_lt}
use Rattle.ras_bits.proofs.bits.put_field.Goals as goal

pub overflow_add-result : goal.overflow_add-result
overflow_add-result c =
    rw c.get_field.ensures
    (omega (arith, replaced c.args.v c.args.lo c.args.len c.args.x (omega arith) (omega arith), with_field_lt c.args.v c.args.lo c.args.len c.args.x 64 (omega arith) (omega arith) (omega arith)))

pub returns : goal.returns
returns c = rw c.get_field.ensures (replaced c.args.v c.args.lo c.args.len c.args.x (omega arith) (omega arith))
