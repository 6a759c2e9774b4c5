-- What `fix` makes of 72 bits, by their syndrome.
use Rattle.std.proofs.Common.{◌≡◌, ◌≢◌, ℕ, zero, suc, ◌+◌, ◌-◌, ◌*◌, ◌/◌, ◌%◌, ◌^◌, ◌<◌, ◌≤◌, bit_xor, refl, sym, ap, ap₂, ◌∙◌, arith, eq-eqb, ne_eqb, one-mul, inl, inr}
use Rattle.std.proofs.lemmas.Bool.{cases_eq, cond-true, cond-false}
use Rattle.std.proofs.lemmas.Nat.{xor_mod, pow-add}
use Rattle.std.proofs.lemmas.Nat.Bits.{bit_at_cat_low}
use Rattle.std.specs.Int.{bit_at}
use Rattle.std.specs.Int.Bits.{xor_assoc, xor_self, xor_zero_l, xor_zero_r}
use Rattle.hsiao_code.specs.declared.codeword.Decoded.{Decoded}
use Rattle.hsiao_code.specs.declared.codeword.Decoded.TheVariants.{Clean, Fixed, Bad}
use Rattle.hsiao_code.specs.Code.{check_of_byte, column_at, xor_of, check_bits, code_bits, code, syndrome_of, flip, data_of, fix_by_flip, fix}
use Rattle.hsiao_code.specs.LinearLaws.{xor_of-xor, xor_of-pow, xor_of_same, xor_of-add, xor_of-pows, xor_of_lt}
use Rattle.hsiao_code.specs.ColumnLaws.{columns_apart, columns_sum, column_set, column_of_check, column_below}

-- the syndrome of a word and its check bits
pub syndrome_of-bits : (v check : ℕ) → v < 2 ^ 64 → check < 2 ^ 8 → syndrome_of (code_bits v check) ≡ bit_xor (check_bits v) check
unfolding syndrome_of check_bits
syndrome_of-bits v check p q =
    xor_of-add column_at (code_bits v check) 64 8
    ∙ ap₂ bit_xor
    (xor_of_same column_at column_at (code_bits v check) v 64 (λ i h. refl) (λ i h. ap (λ n. bit_at n i) (omega arith) ∙ bit_at_cat_low check 64 v i h))
    (ap (λ x. xor_of (λ i. column_at (64 + i)) x 8) (let high : code_bits v check / 2 ^ 64 ≡ check = omega arith in high)
    ∙ xor_of_same (λ i. column_at (64 + i)) (λ i. 2 ^ i) check check 8 column_of_check (λ i h. refl)
    ∙ xor_of-pows check 8
    ∙ (let whole : check % 2 ^ 8 ≡ check = omega arith in whole))

pub syndrome_of-flip : (x j : ℕ) → j < 72 → syndrome_of (flip x j) ≡ bit_xor (syndrome_of x) (column_at j)
unfolding syndrome_of
syndrome_of-flip x j h = xor_of-xor column_at x (2 ^ j) 72 ∙ ap (bit_xor (xor_of column_at x 72)) (xor_of-pow column_at j 72 h)

xor_zero_same : (a b : ℕ) → bit_xor a b ≡ 0 → a ≡ b
xor_zero_same a b e =
    sym (xor_zero_r a) ∙ ap (bit_xor a) (sym (xor_self b)) ∙ sym (xor_assoc a b b) ∙ ap (λ x. bit_xor x b) e ∙ xor_zero_l b

pub fix_clean : (x : ℕ) → syndrome_of x ≡ 0 → fix x ≡ Clean (data_of x)
unfolding fix
fix_clean x e = cond-true _ _ _ (eq-eqb (syndrome_of x) 0 e)

fix_by_flip_hit : (x j n : ℕ) → j < n → n ≤ 72 → syndrome_of x ≡ column_at j → fix_by_flip x n ≡ Fixed (data_of (flip x j)) j
unfolding fix_by_flip
fix_by_flip_hit x j zero h k e = absurd (omega arith)
fix_by_flip_hit x j (suc i) h k e = elim (cases_eq i j) [
  | inl s ↦ rw s (cond-true _ _ _ (eq-eqb (syndrome_of (flip x j)) 0 (syndrome_of-flip x j (omega arith) ∙ ap (λ s. bit_xor s (column_at j)) e ∙ xor_self (column_at j))))
  | inr other ↦
      cond-false _ _ _ (ne_eqb (syndrome_of (flip x i)) 0 (λ z. other (columns_apart i j (omega arith) (omega arith)
      (sym (xor_zero_same (syndrome_of x) (column_at i) (sym (syndrome_of-flip x i (omega arith)) ∙ z)) ∙ e))))
      ∙ fix_by_flip_hit x j i (omega arith) (omega arith) e
]

fix_by_flip_miss : (x n : ℕ) → n ≤ 72 → ((j : ℕ) → j < 72 → syndrome_of x ≢ column_at j) → fix_by_flip x n ≡ Bad
unfolding fix_by_flip
fix_by_flip_miss x zero k none = refl
fix_by_flip_miss x (suc i) k none =
    cond-false _ _ _ (ne_eqb (syndrome_of (flip x i)) 0 (λ z. none i (omega arith) (xor_zero_same (syndrome_of x) (column_at i) (sym (syndrome_of-flip x i (omega arith)) ∙ z))))
    ∙ fix_by_flip_miss x i (omega arith) none

pub fix_hit : (x j : ℕ) → j < 72 → syndrome_of x ≡ column_at j → fix x ≡ Fixed (data_of (flip x j)) j
unfolding fix
fix_hit x j h e =
    cond-false _ _ _ (ne_eqb (syndrome_of x) 0 (λ z. column_set j h (sym e ∙ z))) ∙ fix_by_flip_hit x j 72 h (omega arith) e

pub fix_miss : (x : ℕ) → syndrome_of x ≢ 0 → ((j : ℕ) → j < 72 → syndrome_of x ≢ column_at j) → fix x ≡ Bad
unfolding fix
fix_miss x some none = cond-false _ _ _ (ne_eqb (syndrome_of x) 0 some) ∙ fix_by_flip_miss x 72 (omega arith) none

-- the data of a word with one bit flipped
pub data_flipped : (v check j : ℕ) → v < 2 ^ 64 → data_of (flip (code_bits v check) j) ≡ bit_xor v (2 ^ j % 2 ^ 64)
data_flipped v check j p =
    xor_mod (code_bits v check) (2 ^ j) 64 ∙ ap (λ x. bit_xor x (2 ^ j % 2 ^ 64)) (let low : code_bits v check % 2 ^ 64 ≡ v = omega arith in low)

pub data_kept : (v check j : ℕ) → v < 2 ^ 64 → 64 ≤ j → data_of (flip (code_bits v check) j) ≡ v
data_kept v check j p h =
    data_flipped v check j p
    ∙ ap (bit_xor v) (ap (λ k. 2 ^ k % 2 ^ 64) (let above : j ≡ (j - 64) + 64 = omega arith in above) ∙ ap (λ x. x % 2 ^ 64) (pow-add 2 (j - 64) 64) ∙ (let none : 2 ^ (j - 64) * 2 ^ 64 % 2 ^ 64 ≡ 0 = omega arith in none))
    ∙ xor_zero_r v

check_bits_lt : (v : ℕ) → check_bits v < 2 ^ 8
unfolding check_bits
check_bits_lt v = xor_of_lt column_at 8 v 64 (λ i h. column_below i (omega arith))

pub syndrome_of-code : (v : ℕ) → v < 2 ^ 64 → syndrome_of (code v) ≡ 0
syndrome_of-code v p = syndrome_of-bits v (check_bits v) p (check_bits_lt v) ∙ xor_self (check_bits v)

pub flip_back : (x j : ℕ) → flip (flip x j) j ≡ x
flip_back x j = xor_assoc x (2 ^ j) (2 ^ j) ∙ ap (bit_xor x) (xor_self (2 ^ j)) ∙ xor_zero_r x

pub fix_code : (d : ℕ) → d < 2 ^ 64 → fix (code d) ≡ Clean d
fix_code d p = fix_clean (code d) (syndrome_of-code d p) ∙ ap Clean (omega arith)

-- one flip is taken back
pub fix_one_flip : (d j : ℕ) → d < 2 ^ 64 → j < 72 → fix (flip (code d) j) ≡ Fixed d j
fix_one_flip d j p h =
    fix_hit (flip (code d) j) j h (syndrome_of-flip (code d) j h ∙ ap (λ s. bit_xor s (column_at j)) (syndrome_of-code d p) ∙ xor_zero_l (column_at j))
    ∙ ap (λ x. Fixed (data_of x) j) (flip_back (code d) j)
    ∙ ap (λ x. Fixed x j) (omega arith)

-- two flips are found
pub fix_two_flips : (d i j : ℕ) → d < 2 ^ 64 → i < 72 → j < 72 → i ≢ j → fix (flip (flip (code d) i) j) ≡ Bad
fix_two_flips d i j p h k apart =
    let sum : syndrome_of (flip (flip (code d) i) j) ≡ bit_xor (column_at i) (column_at j) =
    syndrome_of-flip (flip (code d) i) j k
    ∙ ap (λ s. bit_xor s (column_at j)) (syndrome_of-flip (code d) i h ∙ ap (λ s. bit_xor s (column_at i)) (syndrome_of-code d p) ∙ xor_zero_l (column_at i)) in
    fix_miss (flip (flip (code d) i) j)
    (λ z. apart (columns_apart i j h k (xor_zero_same (column_at i) (column_at j) (sym sum ∙ z))))
    (λ m q e. columns_sum i j m h k q (sym sum ∙ e))

-- the same, from the parts of a word
pub fix_parts_clean : (v check : ℕ) → v < 2 ^ 64 → check < 2 ^ 8 → bit_xor (check_bits v) check ≡ 0 → Clean v ≡ fix (code_bits v check)
fix_parts_clean v check p q e =
    sym (fix_clean (code_bits v check) (syndrome_of-bits v check p q ∙ e) ∙ ap Clean (omega arith))

pub fix_parts_data : (v check j : ℕ) → v < 2 ^ 64 → check < 2 ^ 8 → j < 64 → bit_xor (check_bits v) check ≡ column_at j → Fixed (bit_xor v (1 * 2 ^ j % 2 ^ 64)) j ≡ fix (code_bits v check)
fix_parts_data v check j p q h e =
    sym (fix_hit (code_bits v check) j (omega arith) (syndrome_of-bits v check p q ∙ e)
    ∙ ap (λ d. Fixed d j) (data_flipped v check j p ∙ ap (λ x. bit_xor v (x % 2 ^ 64)) (sym (one-mul (2 ^ j)))))

pub fix_parts_check : (v check j : ℕ) → v < 2 ^ 64 → check < 2 ^ 8 → 64 ≤ j → j < 72 → bit_xor (check_bits v) check ≡ column_at j → Fixed v j ≡ fix (code_bits v check)
fix_parts_check v check j p q l h e =
    sym (fix_hit (code_bits v check) j h (syndrome_of-bits v check p q ∙ e) ∙ ap (λ d. Fixed d j) (data_kept v check j p l))

pub fix_parts_bad : (v check : ℕ) → v < 2 ^ 64 → check < 2 ^ 8 → bit_xor (check_bits v) check ≢ 0 → ((j : ℕ) → j < 72 → column_at j ≢ bit_xor (check_bits v) check) → Bad ≡ fix (code_bits v check)
fix_parts_bad v check p q some none =
    sym (fix_miss (code_bits v check) (λ z. some (sym (syndrome_of-bits v check p q) ∙ z)) (λ j h e. none j h (sym e ∙ syndrome_of-bits v check p q)))

-- the laws of the code, at what `fix` makes of a word
pub clean_law : (v check : ℕ) (r : Decoded) → r ≡ fix (code_bits v check) → (d : ℕ) → d < 2 ^ 64 → code_bits v check ≡ code d → r ≡ Clean d
clean_law v check r e d p w = e ∙ ap fix w ∙ fix_code d p

pub one_flip_law : (v check : ℕ) (r : Decoded) → r ≡ fix (code_bits v check) → (d j : ℕ) → d < 2 ^ 64 → j < 72 → code_bits v check ≡ flip (code d) j → r ≡ Fixed d j
one_flip_law v check r e d j p h w = e ∙ ap fix w ∙ fix_one_flip d j p h

pub two_flips_law : (v check : ℕ) (r : Decoded) → r ≡ fix (code_bits v check) → (d i j : ℕ) → d < 2 ^ 64 → i < 72 → j < 72 → i ≢ j → code_bits v check ≡ flip (flip (code d) i) j → r ≡ Bad
two_flips_law v check r e d i j p h k apart w = e ∙ ap fix w ∙ fix_two_flips d i j p h k apart

-- one byte more
pub byte_more : (v k : ℕ) → bit_xor (xor_of column_at v (8 * k)) (check_of_byte k (v / 2 ^ (8 * k) % 2 ^ 8)) ≡ xor_of column_at v (8 * (k + 1))
unfolding check_of_byte
byte_more v k =
    ap (bit_xor (xor_of column_at v (8 * k)))
    (xor_of_same (λ i. column_at (8 * k + i)) (λ i. column_at (8 * k + i)) (v / 2 ^ (8 * k) % 2 ^ 8) (v / 2 ^ (8 * k)) 8 (λ i h. refl)
    (λ i h. ap (λ n. bit_at n i) refl ∙ low_bit (v / 2 ^ (8 * k)) i h))
    ∙ sym (xor_of-add column_at v (8 * k) 8)
    ∙ ap (xor_of column_at v) (omega arith)
  where
    low_bit : (n i : ℕ) → i < 8 → bit_at (n % 2 ^ 8) i ≡ bit_at n i
    low_bit n i h = sym (ap (λ m. bit_at m i) (let whole : n / 2 ^ 8 * 2 ^ 8 + n % 2 ^ 8 ≡ n = omega arith in sym whole) ∙ bit_at_cat_low (n / 2 ^ 8) 8 (n % 2 ^ 8) i h)
