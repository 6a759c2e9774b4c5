use Rattle.std.proofs.Common.{arith, ◌/◌, ◌^◌}
use Rattle.ras_bits.proofs.Parts.{and_ones}
use Rattle.ras_bits.proofs.bits.get_field.Goals as goal

pub returns : goal.returns
returns c = and_ones (c.args.v / 2 ^ c.args.lo) c.args.len (omega arith)
