-- What the checker computes over the 72 columns, as rules on each of them.
use Rattle.std.proofs.Common.{◌≡◌, ℕ, zero, suc, ◌+◌, ◌%◌, ◌^◌, ◌<◌, count_ones, ltb, inl, inr, Bool, true, ◌==◌, bit_xor, refl, sym, ap, ap₂, ◌∙◌, arith, eqb-true, ltb-true}
use Rattle.std.specs.Int.Count.{ones}
use Rattle.std.specs.Option.{unwrap_or}
use Rattle.std.proofs.lemmas.Bool.{and_parts, cases_eq}
use Rattle.hsiao_code.specs.Code.{columns, column_at, xor_of, first_index}
use Rattle.hsiao_code.specs.Columns.{all_below, parity}
use Rattle.hsiao_code.specs.LinearLaws.{xor_of-xor}

pub all_below_at : (p : ℕ → Bool) (n i : ℕ) → all_below p n ≡ true → i < n → p i ≡ true
unfolding all_below
all_below_at p zero i e h = absurd (omega arith)
all_below_at p (suc n) i e h = elim (cases_eq i n) [
  | inl s ↦ ap p s ∙ (and_parts (p n) (all_below p n) e).0
  | inr other ↦ all_below_at p n i (and_parts (p n) (all_below p n) e).1 (omega arith)
]

columns_placed : all_below (λ i. unwrap_or (first_index (column_at i) columns) 73 == i) 72 ≡ true
unfolding all_below first_index column_at columns
columns_placed = refl

columns_odd : all_below (λ i. parity (column_at i) == 1) 72 ≡ true
unfolding all_below parity xor_of column_at columns
columns_odd = refl

columns_small : all_below (λ i. ltb (column_at i) (2 ^ 8)) 72 ≡ true
unfolding all_below column_at columns
columns_small = refl

checks_single : all_below (λ i. column_at (64 + i) == 2 ^ i) 8 ≡ true
unfolding all_below column_at columns
checks_single = refl

pub column_of_check : (i : ℕ) → i < 8 → column_at (64 + i) ≡ 2 ^ i
column_of_check i h = eqb-true _ _ (all_below_at (λ k. column_at (64 + k) == 2 ^ k) 8 i checks_single h)

pub columns_apart : (i j : ℕ) → i < 72 → j < 72 → column_at i ≡ column_at j → i ≡ j
columns_apart i j p q e =
    sym (placed i p) ∙ ap (λ c. unwrap_or (first_index c columns) 73) e ∙ placed j q
  where
    placed : (k : ℕ) → k < 72 → unwrap_or (first_index (column_at k) columns) 73 ≡ k
    placed k h = eqb-true _ _ (all_below_at (λ m. unwrap_or (first_index (column_at m) columns) 73 == m) 72 k columns_placed h)

columns_weigh_odd : all_below (λ i. count_ones (column_at i) % 2 == 1) 72 ≡ true
unfolding all_below column_at columns ones
columns_weigh_odd = refl

pub column_weight_odd : (i : ℕ) → i < 72 → count_ones (column_at i) % 2 ≡ 1
column_weight_odd i h = eqb-true _ _ (all_below_at (λ k. count_ones (column_at k) % 2 == 1) 72 i columns_weigh_odd h)

pub column_odd : (i : ℕ) → i < 72 → parity (column_at i) ≡ 1
column_odd i h = eqb-true _ _ (all_below_at (λ k. parity (column_at k) == 1) 72 i columns_odd h)

-- two columns together have an even number of bits, so they are no column
pub columns_sum : (i j k : ℕ) → i < 72 → j < 72 → k < 72 → bit_xor (column_at i) (column_at j) ≡ column_at k → ⊥
unfolding parity
columns_sum i j k p q r e =
    let even : parity (bit_xor (column_at i) (column_at j)) ≡ 0 = xor_of-xor (λ _. 1) (column_at i) (column_at j) 8 ∙ ap₂ bit_xor (column_odd i p) (column_odd j q) in
    let odd : parity (bit_xor (column_at i) (column_at j)) ≡ 1 = ap parity e ∙ column_odd k r in
    omega arith

pub column_set : (i : ℕ) → i < 72 → column_at i ≡ 0 → ⊥
unfolding parity xor_of
column_set i h e =
    let none : parity (column_at i) ≡ 0 = ap parity e in
    let odd : parity (column_at i) ≡ 1 = column_odd i h in
    omega arith

pub column_below : (i : ℕ) → i < 72 → column_at i < 2 ^ 8
column_below i h = ltb-true _ _ (all_below_at (λ k. ltb (column_at k) (2 ^ 8)) 72 i columns_small h)
