-- Digits are added up from the left.
use Rattle.std.proofs.Common.{◌≡◌, ℕ, suc, ◌+◌, ◌*◌, ◌^◌, ◌<◌, ◌≤◌, List, [], ◌∷◌, length, drop, get_or, drop-cons, Option, Some, None, refl, ap, sym, ◌∙◌, arith, pow-suc, mul_comm, mul_assoc, add-mul}
use Rattle.std.specs.Prelude.{option_and_then, option_map}
use Rattle.std.proofs.lemmas.Grind.{common_steps}
use Rattle.std.proofs.Math.Nat.{mul-le-mul_left, pow-zero}
use Rattle.ras_numbers.specs.Numbers.{digit_in, digits_in, below, positional, number_in}

-- what further digits give behind those that gave a value
abbrev pub digits_read_on : ℕ → ℕ → List ℕ → Option ℕ
digits_read_on base value [] = below (2 ^ 64) value
digits_read_on base value (byte ∷ bytes) = option_and_then (λ digit. digits_read_on base (value * base + digit) bytes) (digit_in base byte)

shifted : (value base digit k rest : ℕ) → (value * base + digit) * base ^ k + rest ≡ value * base ^ suc k + (digit * base ^ k + rest)
shifted value base digit k rest =
    let swapped : value * base * base ^ k ≡ value * base ^ suc k = mul_assoc value base (base ^ k) ∙ ap (λ n. value * n) (mul_comm base (base ^ k) ∙ sym (pow-suc base k)) in
    omega (arith, add-mul (value * base) digit (base ^ k), swapped)

-- that is the number that the digits stand for in their places
pub read_places : (base value : ℕ) (bytes : List ℕ)
    → digits_read_on base value bytes ≡ option_and_then (below (2 ^ 64)) (option_map (λ digits. value * base ^ length digits + positional base digits) (digits_in base bytes))
read_places base value [] = ap (below 18446744073709551616) (let same : value ≡ value * base ^ 0 + 0 = rw (pow-zero base) (omega arith) in same)
read_places base value (byte ∷ bytes) = by_digit (digit_in base byte) (λ v. read_places base v bytes) where
  more : (digit : ℕ) (digits : Option (List ℕ))
      → option_and_then (below (2 ^ 64)) (option_map (λ ds. (value * base + digit) * base ^ length ds + positional base ds) digits)
      ≡ option_and_then (below (2 ^ 64)) (option_map (λ ds. value * base ^ length ds + positional base ds) (option_map (λ ds. digit ∷ ds) digits))
  more digit None = refl
  more digit (Some ds) = ap (below (2 ^ 64)) (shifted value base digit (length ds) (positional base ds))

  by_digit : (digit : Option ℕ)
      → ((v : ℕ) → digits_read_on base v bytes ≡ option_and_then (below (2 ^ 64)) (option_map (λ ds. v * base ^ length ds + positional base ds) (digits_in base bytes)))
      → option_and_then (λ d. digits_read_on base (value * base + d) bytes) digit
      ≡ option_and_then (below (2 ^ 64)) (option_map (λ ds. value * base ^ length ds + positional base ds) (option_and_then (λ d. option_map (λ ds. d ∷ ds) (digits_in base bytes)) digit))
  by_digit None behind = refl
  by_digit (Some d) behind = behind (value * base + d) ∙ more d (digits_in base bytes)

pub read_whole : (base : ℕ) (bytes : List ℕ) → 0 < length bytes → digits_read_on base 0 bytes ≡ number_in base bytes
read_whole base [] some = absurd (omega arith)
read_whole base (byte ∷ bytes) some = read_places base 0 (byte ∷ bytes) ∙ same (digits_in base (byte ∷ bytes)) where
  same : (digits : Option (List ℕ))
      → option_and_then (below (2 ^ 64)) (option_map (λ ds. 0 * base ^ length ds + positional base ds) digits) ≡ option_and_then (below (2 ^ 64)) (option_map (positional base) digits)
  same None = refl
  same (Some ds) = ap (below (2 ^ 64)) (let none : 0 * base ^ length ds + positional base ds ≡ positional base ds = omega arith in none)

-- a value past the range stays past it, whatever follows
pub read_past : (base value : ℕ) (bytes : List ℕ) → 1 ≤ base → 2 ^ 64 ≤ value → digits_read_on base value bytes ≡ None
read_past base value [] some past = grind (arith, common_steps)
read_past base value (byte ∷ bytes) some past =
    by_digit (digit_in base byte) (λ d. read_past base (value * base + d) bytes some (omega (arith, mul-le-mul_left value some))) where
      by_digit : (digit : Option ℕ) → ((d : ℕ) → digits_read_on base (value * base + d) bytes ≡ None)
          → option_and_then (λ d. digits_read_on base (value * base + d) bytes) digit ≡ None
      by_digit None behind = refl
      by_digit (Some d) behind = behind d

pub read_next : (base value : ℕ) (bytes : List ℕ) (i digit : ℕ) → i < length bytes → digit_in base (get_or bytes i 0) ≡ Some digit
    → digits_read_on base value (drop i bytes) ≡ digits_read_on base (value * base + digit) (drop (suc i) bytes)
read_next base value bytes i digit inside is = rw (drop-cons bytes i 0, is) refl

pub read_over : (base value : ℕ) (bytes : List ℕ) (i digit : ℕ) → i < length bytes → digit_in base (get_or bytes i 0) ≡ Some digit
    → 1 ≤ base → 2 ^ 64 ≤ value * base + digit → digits_read_on base value (drop i bytes) ≡ None
read_over base value bytes i digit inside is some past =
    read_next base value bytes i digit inside is ∙ read_past base (value * base + digit) (drop (suc i) bytes) some past

pub ended : (base value : ℕ) (bytes : List ℕ) (i : ℕ) → length bytes ≤ i → value < 2 ^ 64 → Some value ≡ digits_read_on base value (drop i bytes)
ended base value bytes i past small = rw (drop_past bytes i past) (sym (fits value small)) where
  fits : (n : ℕ) → n < 2 ^ 64 → below (2 ^ 64) n ≡ Some n
  fits n h = grind (arith, common_steps)

  drop_past : (xs : List ℕ) (k : ℕ) → length xs ≤ k → drop k xs ≡ []
  drop_past xs k h = grind (arith, common_steps)
