-- A flag as a number.
use Rattle.std.proofs.Common.{◌≡◌, ◌<◌, ◌==◌, ℕ, zero, suc, Bool, true, false, arith, refl}
use Rattle.std.specs.Int.{from_bool}

pub flag_small : (b : Bool) → from_bool b < 2
flag_small true = omega arith
flag_small false = omega arith

-- a flag is read back from its number
pub flag_back : (b : Bool) → (from_bool b == 1) ≡ b
flag_back true = refl
flag_back false = refl

-- a bit is the number of the flag that it stands for
pub bit_back : (n : ℕ) → n < 2 → from_bool (n == 1) ≡ n
bit_back zero h = refl
bit_back (suc zero) h = refl
bit_back (suc (suc n)) h = absurd (omega arith)
