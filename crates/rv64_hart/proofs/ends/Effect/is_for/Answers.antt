use Rattle.std.proofs.Common.{◌≡◌, false, arith}
use Rattle.std.proofs.lemmas.Bool.Decides.{nat_tests}
use Rattle.ras_bits.specs.Bits.{has_bit}
use Rattle.rv64_hart.proofs.HartsLemmas.{beyond_mask}
use Rattle.rv64_hart.proofs.ends.Effect.is_for.Goals as goal

pub returns-else-number-lt8 : goal.returns-else-number-lt8
returns-else-number-lt8 c =
    let none : has_bit c.args.harts c.args.number ≡ false = beyond_mask c.args.harts c.args.number (omega arith) (omega arith) in
    rw none (grind (arith, nat_tests))
