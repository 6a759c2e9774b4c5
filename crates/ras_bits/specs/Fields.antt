-- Fields of bits in a number, and numbers in bytes (two's complement: unprivileged manual, "Integer Register-Immediate
-- Instructions").
use Rattle.byteorder.specs.Endian.{little_number}
use Rattle.std.specs.Prelude.{List, drop, ℕ, ◌+◌, ◌-◌, ◌*◌, ◌/◌, ◌%◌, ◌^◌, ◌==◌, Bool, nat_lt, count_ones, if◌then◌else◌}

-- the field of len bits of v whose lowest bit is bit lo
abbrev pub field : ℕ → ℕ → ℕ → ℕ
field v lo len = v / 2 ^ lo % 2 ^ len

-- v with x in place of the field of len bits from bit lo on
abbrev pub with_field : ℕ → ℕ → ℕ → ℕ → ℕ
with_field v lo len x = v / 2 ^ (lo + len) * 2 ^ (lo + len) + x * 2 ^ lo + v % 2 ^ lo

-- the low bits of v, read as two's complement, as a number of 64 bits
abbrev pub sign_extended : ℕ → ℕ → ℕ
sign_extended v bits =
    if nat_lt (v % 2 ^ bits) (2 ^ (bits - 1)) then v % 2 ^ bits else v % 2 ^ bits + (2 ^ 64 - 2 ^ bits)

-- an odd number of bits is set
abbrev pub has_odd_parity : ℕ → Bool
has_odd_parity v = count_ones v % 2 == 1

-- the little-endian number in the n bytes from offset `at` on
unfoldable pub number_at : ℕ → ℕ → List ℕ → ℕ
number_at n at b = little_number n (drop at b)
