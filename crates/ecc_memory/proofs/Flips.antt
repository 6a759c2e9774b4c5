-- A flip of a data bit changes the data alone, and one of a check bit the check bits alone.
use Rattle.std.proofs.Common.{ℕ, ◌+◌, ◌-◌, ◌*◌, ◌/◌, ◌%◌, ◌^◌, ◌<◌, ◌≤◌, ◌≡◌, ◌∙◌, ap, sym, bit_xor, arith}
use Rattle.std.proofs.lemmas.Nat.{xor_lt}
use Rattle.std.proofs.Math.Pow.{pow-lt}
use Rattle.hsiao_code.specs.Code.{code_bits, flip}
use Rattle.hsiao_code.specs.NearLaws.{flip_data, flip_check}

-- the parts of 72 bits
data_part : (y check : ℕ) → y < 2 ^ 64 → y ≡ code_bits y check % 2 ^ 64
data_part y check small = omega arith

check_part : (y check : ℕ) → y < 2 ^ 64 → check ≡ code_bits y check / 2 ^ 64
check_part y check small = omega arith

data_bit : (bit : ℕ) → 2 ^ bit < 2 ^ 64 → 1 * 2 ^ bit % 2 ^ 64 ≡ 2 ^ bit
data_bit bit small = omega arith

check_bit : (bit : ℕ) → 2 ^ bit < 2 ^ 8 → 1 * 2 ^ bit % 256 ≡ 2 ^ bit
check_bit bit small = omega arith

data_xor : (v bit : ℕ) → v < 2 ^ 64 → bit < 64 → bit_xor v (2 ^ bit) < 2 ^ 64
data_xor v bit small fits = xor_lt 64 v (2 ^ bit) small (pow-lt fits)

pub flip_in_data : (v check bit : ℕ) → v < 2 ^ 64 → bit < 64 → bit_xor v (1 * 2 ^ bit % 2 ^ 64) ≡ flip (code_bits v check) bit % 2 ^ 64
flip_in_data v check bit small fits =
    ap (bit_xor v) (data_bit bit (pow-lt fits))
    ∙ data_part (bit_xor v (2 ^ bit)) check (data_xor v bit small fits)
    ∙ ap (λ x. x % 2 ^ 64) (sym (flip_data v check bit small fits))

pub data_flip_keeps_check : (v check bit : ℕ) → v < 2 ^ 64 → bit < 64 → check ≡ flip (code_bits v check) bit / 2 ^ 64
data_flip_keeps_check v check bit small fits =
    check_part (bit_xor v (2 ^ bit)) check (data_xor v bit small fits)
    ∙ ap (λ x. x / 2 ^ 64) (sym (flip_data v check bit small fits))

above : (bit : ℕ) → 64 ≤ bit → 64 + (bit - 64) ≡ bit
above bit high = omega arith

flip_above : (v check bit : ℕ) → v < 2 ^ 64 → 64 ≤ bit → flip (code_bits v check) bit ≡ code_bits v (bit_xor check (2 ^ (bit - 64)))
flip_above v check bit small high = ap (flip (code_bits v check)) (sym (above bit high)) ∙ flip_check v check (bit - 64) small

pub check_flip_keeps_data : (v check bit : ℕ) → v < 2 ^ 64 → 64 ≤ bit → v ≡ flip (code_bits v check) bit % 2 ^ 64
check_flip_keeps_data v check bit small high =
    data_part v (bit_xor check (2 ^ (bit - 64))) small ∙ ap (λ x. x % 2 ^ 64) (sym (flip_above v check bit small high))

pub flip_in_check : (v check bit : ℕ) → v < 2 ^ 64 → 64 ≤ bit → bit < 72 → bit_xor check (1 * 2 ^ (bit - 64) % 256) ≡ flip (code_bits v check) bit / 2 ^ 64
flip_in_check v check bit small high fits =
    ap (bit_xor check) (check_bit (bit - 64) (let P : bit - 64 < 8 = omega arith in pow-lt P))
    ∙ check_part v (bit_xor check (2 ^ (bit - 64))) small
    ∙ ap (λ x. x / 2 ^ 64) (sym (flip_above v check bit small high))
