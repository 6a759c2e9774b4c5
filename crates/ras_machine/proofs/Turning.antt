-- The place in rounds of steps.
use Rattle.std.proofs.Common.{◌≡◌, ℕ, ◌-◌, ◌%◌, ◌<◌, arith}
use Rattle.std.proofs.lemmas.Bool.Decides.{nat_tests}
use Rattle.std.proofs.Math.Nat.{mod-lt}
use Rattle.scrubber.specs.Interval.{left_in}

-- what is not left of a round
pub place_in : (round n : ℕ) → 0 < round → round - left_in round n ≡ n % round
place_in round n some = let below = mod-lt n some in grind (arith, nat_tests)
