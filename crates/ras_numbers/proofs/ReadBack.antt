-- What is written of a number is read as it.
use Rattle.std.proofs.Common.{◌≡◌, ℕ, suc, zero, ◌+◌, ◌-◌, ◌*◌, ◌/◌, ◌%◌, ◌^◌, ◌<◌, ◌≤◌, Bool, true, false, cond, ◌==◌, ◌&&◌, List, [], ◌∷◌, ◌++◌, length, take, drop, codes, Option, Some, None, refl, ap, sym, ◌∙◌, arith, subst, decimal, length-append, append_assoc, set, pow-suc, add-mul, mul_assoc}
use Rattle.std.specs.Prelude.{option_and_then, option_map}
use Rattle.std.specs.List.{AllByRecursion}
use Rattle.std.specs.Str.{bytes_eq}
use Rattle.std.proofs.lemmas.Grind.{common_steps}
use Rattle.std.proofs.lemmas.List.{drop-set}
use Rattle.std.proofs.lemmas.Fmt.{decimal_by_steps}
use Rattle.std.proofs.Math.Nat.{pow-zero}
use Rattle.ras_numbers.specs.Numbers.{digit_in, digits_in, below, positional, number_in, number_of, hex_digit, hex_text, address_text}

-- the bytes are one or more digits of the base, and stand for the number
pub record Spells (base : ℕ) (bytes : List ℕ) (n : ℕ) : Type 0 where
  pub digits : List ℕ
  pub spelled : digits_in base bytes ≡ Some digits
  pub value : positional base digits ≡ n
  pub some : 0 < length bytes

-- one more digit

digits_more : (base byte digit : ℕ) (bytes digits : List ℕ) → digit_in base byte ≡ Some digit → digits_in base bytes ≡ Some digits
    → digits_in base (bytes ++ byte ∷ []) ≡ Some (digits ++ digit ∷ [])
digits_more base byte digit [] digits is spelled = rw is (ap (λ ds. Some (ds ++ digit ∷ [])) (let none : [] ≡ digits = cc in none))
digits_more base byte digit (first ∷ bytes) digits is spelled = by_first (digit_in base first) (λ ds e. digits_more base byte digit bytes ds is e) spelled where
  rest : (f : ℕ) (read : Option (List ℕ)) → digits_in base bytes ≡ read
      → ((ds : List ℕ) → digits_in base bytes ≡ Some ds → digits_in base (bytes ++ byte ∷ []) ≡ Some (ds ++ digit ∷ []))
      → option_map (λ ds. f ∷ ds) read ≡ Some digits
      → option_map (λ ds. f ∷ ds) (digits_in base (bytes ++ byte ∷ [])) ≡ Some (digits ++ digit ∷ [])
  rest f None e behind q = absurd cc
  rest f (Some ds) e behind q =
      ap (option_map (λ xs. f ∷ xs)) (behind ds e)
      ∙ ap (λ xs. Some (xs ++ digit ∷ [])) (let same : f ∷ ds ≡ digits = cc in same)

  by_first : (f : Option ℕ)
      → ((ds : List ℕ) → digits_in base bytes ≡ Some ds → digits_in base (bytes ++ byte ∷ []) ≡ Some (ds ++ digit ∷ []))
      → option_and_then (λ d. option_map (λ ds. d ∷ ds) (digits_in base bytes)) f ≡ Some digits
      → option_and_then (λ d. option_map (λ ds. d ∷ ds) (digits_in base (bytes ++ byte ∷ []))) f ≡ Some (digits ++ digit ∷ [])
  by_first None behind q = absurd cc
  by_first (Some f) behind q = rest f (digits_in base bytes) refl behind q

alone : (base digit : ℕ) → digit * base ^ 0 + 0 ≡ digit
alone base digit = rw (pow-zero base) (omega arith)

raised : (first base digit k rest : ℕ) → first * base ^ suc k + (rest * base + digit) ≡ (first * base ^ k + rest) * base + digit
raised first base digit k rest =
    let swapped : first * base ^ suc k ≡ first * base ^ k * base = ap (λ n. first * n) (pow-suc base k) ∙ sym (mul_assoc first (base ^ k) base) in
    omega (arith, add-mul (first * base ^ k) rest base, swapped)

positional_more : (base digit : ℕ) (digits : List ℕ) → positional base (digits ++ digit ∷ []) ≡ positional base digits * base + digit
positional_more base digit [] = alone base digit ∙ (let same : digit ≡ 0 * base + digit = omega arith in same)
positional_more base digit (first ∷ digits) =
    let size : length (digits ++ digit ∷ []) ≡ suc (length digits) = omega (arith, length-append digits (digit ∷ [])) in
    ap (λ k. first * base ^ k + positional base (digits ++ digit ∷ [])) size
    ∙ ap (λ n. first * base ^ suc (length digits) + n) (positional_more base digit digits)
    ∙ raised first base digit (length digits) (positional base digits)

pub spells_more : (base byte digit n : ℕ) (bytes : List ℕ) → digit_in base byte ≡ Some digit → Spells base bytes n → Spells base (bytes ++ byte ∷ []) (n * base + digit)
spells_more base byte digit n bytes is s = record {
  digits = s.digits ++ digit ∷ [];
  spelled = digits_more base byte digit bytes s.digits is s.spelled;
  value = positional_more base digit s.digits ∙ ap (λ v. v * base + digit) s.value;
  some = omega (arith, length-append bytes (byte ∷ []));
}

spells_one : (base byte digit : ℕ) → digit_in base byte ≡ Some digit → Spells base (byte ∷ []) digit
spells_one base byte digit is = record {
  digits = digit ∷ [];
  spelled = rw is refl;
  value = alone base digit;
  some = omega arith;
}

-- decimal text

decimal_digit : (d : ℕ) → d < 10 → digit_in 10 (48 + d) ≡ Some d
decimal_digit d h = grind (arith, common_steps)

pub spells_decimal : (n : ℕ) → n < 2 ^ 64 → Spells 10 (decimal n) n
spells_decimal n h = decimal_by_steps (λ m ds. Spells 10 ds m) one more n h where
  one : (m : ℕ) → m < 10 → Spells 10 ((48 + m) ∷ []) m
  one m small = spells_one 10 (48 + m) m (decimal_digit m small)

  more : (m : ℕ) (ds : List ℕ) → 10 ≤ m → Spells 10 ds (m / 10) → Spells 10 (ds ++ ((48 + m % 10) ∷ [])) m
  more m ds big s =
      let whole : m / 10 * 10 + m % 10 ≡ m = omega arith in
      subst (λ (k : ℕ). Spells 10 (ds ++ ((48 + m % 10) ∷ [])) k) whole (spells_more 10 (48 + m % 10) (m % 10) (m / 10) ds (decimal_digit (m % 10) (omega arith)) s)

-- hexadecimal text

hex_digit_in : (d : ℕ) → d < 16 → digit_in 16 (hex_digit d) ≡ Some d
hex_digit_in d h = grind (arith, common_steps)

pub spells_hex : (width n : ℕ) → n < 16 ^ suc width → Spells 16 (hex_text (suc width) n) n
unfolding hex_text
spells_hex zero n small = spells_one 16 (hex_digit (n % 16)) n (hex_digit_in (n % 16) (omega arith) ∙ ap Some (let same : n % 16 ≡ n = omega arith in same))
spells_hex (suc width) n small =
    let whole : n / 16 * 16 + n % 16 ≡ n = omega arith in
    let part : n / 16 < 16 ^ suc width = omega arith in
    subst (λ (k : ℕ). Spells 16 (hex_text (suc (suc width)) n) k) whole (spells_more 16 (hex_digit (n % 16)) (n % 16) (n / 16) (hex_text (suc width) (n / 16)) (hex_digit_in (n % 16) (omega arith)) (spells_hex width (n / 16) part))

-- numbers

below_some : (n : ℕ) → n < 2 ^ 64 → below (2 ^ 64) n ≡ Some n
below_some n h = grind (arith, common_steps)

pub number_in_spelled : (base n : ℕ) (bytes : List ℕ) → n < 2 ^ 64 → Spells base bytes n → number_in base bytes ≡ Some n
number_in_spelled base n [] h s = absurd (omega (arith, s.some))
number_in_spelled base n (byte ∷ bytes) h s =
    ap (λ ds. option_and_then (below (2 ^ 64)) (option_map (positional base) ds)) s.spelled
    ∙ ap (below (2 ^ 64)) s.value
    ∙ below_some n h

-- decimal digits don't begin with 0x

no_prefix : (bytes digits : List ℕ) → digits_in 10 bytes ≡ Some digits → bytes_eq (take 2 bytes) (codes "0x") ≡ false
no_prefix [] digits e = refl
no_prefix (x ∷ []) digits e = grind (arith, common_steps)
no_prefix (x ∷ y ∷ bytes) digits e = by_second (y == 120) refl where
  by_second : (t : Bool) → (y == 120) ≡ t → bytes_eq (take 2 (x ∷ y ∷ bytes)) (codes "0x") ≡ false
  by_second false q = rw q (either (x == 48)) where
    either : (t : Bool) → (t && false) ≡ false
    either true = refl
    either false = refl
  by_second true q = absurd (clash e) where
    at_second : (first second : Option ℕ) → second ≡ None
        → option_and_then (λ d. option_map (λ ds. d ∷ ds) (option_and_then (λ d. option_map (λ ds. d ∷ ds) (digits_in 10 bytes)) second)) first ≡ None
    at_second None second none = refl
    at_second (Some d) second none = rw none refl

    clash : digits_in 10 (x ∷ y ∷ bytes) ≡ Some digits → ⊥
    clash e =
        let other : digit_in 10 y ≡ None = grind (arith, common_steps) in
        let none : digits_in 10 (x ∷ y ∷ bytes) ≡ None = at_second (digit_in 10 x) (digit_in 10 y) other in
        cc

pub number_of_decimal : (n : ℕ) → n < 2 ^ 64 → number_of (decimal n) ≡ Some n
number_of_decimal n h =
    let s = spells_decimal n h in
    ap (λ t. cond t (number_in 16 (drop 2 (decimal n))) (number_in 10 (decimal n))) (no_prefix (decimal n) s.digits s.spelled)
    ∙ number_in_spelled 10 n (decimal n) h s

pub number_of_hex : (width n : ℕ) → 0 < width → n < 16 ^ width → n < 2 ^ 64 → number_of (codes "0x" ++ hex_text width n) ≡ Some n
number_of_hex zero n some small h = absurd (omega arith)
number_of_hex (suc width) n some small h = number_in_spelled 16 n (hex_text (suc width) n) h (spells_hex width n small)

pub number_of_address : (n : ℕ) → n < 2 ^ 64 → number_of (address_text n) ≡ Some n
unfolding address_text
number_of_address n h = number_of_hex 16 n (omega arith) h h

-- digits set down from the last one on

pub set_down : (width left at digit : ℕ) (text : List ℕ) → 0 < width → at ≡ width - 1 → at < length text → digit ≡ hex_digit (left % 16)
    → hex_text at (left / 16) ++ drop at (set text at digit) ≡ hex_text width left ++ drop width text
unfolding hex_text
set_down zero left at digit text some place inside is = absurd (omega arith)
set_down (suc width) left at digit text some place inside is =
    let here : at ≡ width = omega arith in
    ap (λ rest. hex_text at (left / 16) ++ rest) (drop-set text at digit inside)
    ∙ ap (λ k. hex_text k (left / 16) ++ (digit ∷ drop (k + 1) text)) here
    ∙ ap (λ d. hex_text width (left / 16) ++ (d ∷ drop (width + 1) text)) is
    ∙ sym (append_assoc (hex_text width (left / 16)) (hex_digit (left % 16) ∷ []) (drop (width + 1) text))
    ∙ ap (λ k. (hex_text width (left / 16) ++ hex_digit (left % 16) ∷ []) ++ drop k text) (let one : width + 1 ≡ suc width = omega arith in one)

pub none_left : (width n : ℕ) (text : List ℕ) → width ≡ 0 → hex_text width n ++ drop width text ≡ text
unfolding hex_text
none_left zero n text e = refl
none_left (suc width) n text e = absurd (omega arith)

-- the bytes of digits

abbrev pub IsDigitByte : ℕ → Type 0
IsDigitByte byte = (48 ≤ byte) × (byte ≤ 102)

digit_byte : (base byte digit : ℕ) → digit_in base byte ≡ Some digit → IsDigitByte byte
digit_byte base byte digit is = (grind (arith, common_steps), grind (arith, common_steps))

pub digit_bytes : (base : ℕ) (bytes digits : List ℕ) → digits_in base bytes ≡ Some digits → AllByRecursion IsDigitByte bytes
digit_bytes base [] digits spelled = tt
digit_bytes base (byte ∷ bytes) digits spelled = by_first (digit_in base byte) refl (digit_bytes base bytes) spelled where
  by_first : (first : Option ℕ) → digit_in base byte ≡ first → ((ds : List ℕ) → digits_in base bytes ≡ Some ds → AllByRecursion IsDigitByte bytes)
      → option_and_then (λ d. option_map (λ ds. d ∷ ds) (digits_in base bytes)) first ≡ Some digits → IsDigitByte byte × AllByRecursion IsDigitByte bytes
  by_first None is behind q = absurd cc
  by_first (Some d) is behind q = (digit_byte base byte d is, by_rest (digits_in base bytes) refl behind q) where
    by_rest : (rest : Option (List ℕ)) → digits_in base bytes ≡ rest → ((ds : List ℕ) → digits_in base bytes ≡ Some ds → AllByRecursion IsDigitByte bytes)
        → option_map (λ ds. d ∷ ds) rest ≡ Some digits → AllByRecursion IsDigitByte bytes
    by_rest None e behind q = absurd cc
    by_rest (Some ds) e behind q = behind ds e
