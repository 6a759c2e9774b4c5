-- Facts on truth values and intervals.
use Rattle.std.proofs.Common.{◌≡◌, ◌≢◌, ◌≤◌, ℕ, zero, suc, arith, Bool, true, false, cond, refl, inl, inr}
use Rattle.ras_bits.specs.declared.map.TheConstants.{LAST_STEP}
use Rattle.ras_machine.specs.Settings.{IsPoll}

pub same_cond : {X : Type 0} (b : Bool) (x : X) → cond b x x ≡ x
same_cond true x = refl
same_cond false x = refl

-- a number that isn't 1 is the interval of a drain
pub is_poll : (poll : ℕ) → poll ≢ 1 → poll ≤ LAST_STEP → IsPoll poll
is_poll zero other most = inl refl
is_poll (suc zero) other most = absurd (other refl)
is_poll (suc (suc n)) other most = inr (omega arith, most)
