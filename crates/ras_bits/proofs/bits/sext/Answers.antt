use Rattle.std.proofs.Common.{arith, refl, ◌*◌, ◌%◌, ◌^◌, ◌-◌}
use Rattle.ras_bits.proofs.Parts.{sign_taken}
use Rattle.ras_bits.proofs.bits.sext.Goals as goal

pub returns-else-low-sign : goal.returns-else-low-sign
returns-else-low-sign c =
    sign_taken c.args.v c.args.bits c.get_field-low.result (1 * 2 ^ (c.args.bits - 1) % 2 ^ 64) (omega arith) (omega arith) c.get_field-low.ensures refl c.if-low-sign.false
