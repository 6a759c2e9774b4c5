-- Single bits, and numbers in two's complement.
use Rattle.std.specs.Prelude.{ℕ, ℤ, pos, negsuc, suc, ◌-◌, ◌/◌, ◌%◌, ◌^◌, ◌==◌, Bool, nat_lt, if◌then◌else◌}

-- bit i of n is set
abbrev pub has_bit : ℕ → ℕ → Bool
has_bit n i = n / 2 ^ i % 2 == 1

-- n, a number of so many bits, read as two's complement
abbrev pub signed : ℕ → ℕ → ℤ
signed bits n = if nat_lt n (2 ^ (bits - 1)) then pos n else negsuc (2 ^ bits - suc n)
