-- What the checker computes over the columns.
use Rattle.std.specs.Prelude.{ℕ, zero, suc, Bool, true, ◌&&◌}
use Rattle.hsiao_code.specs.Code.{xor_of}

-- a test of each number below n
unfoldable pub all_below : (ℕ → Bool) → ℕ → Bool
all_below p zero = true
all_below p (suc n) = p n && all_below p n

-- 1 where an odd number of the low 8 bits is set
unfoldable pub parity : ℕ → ℕ
parity x = xor_of (λ _. 1) x 8
