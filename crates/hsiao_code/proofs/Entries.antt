-- What the checker computes over the tables, as rules on each entry.
use Rattle.std.proofs.Common.{slice_index, ◌≢◌, ◌≤◌, not, if◌then◌else◌, ◌≡◌, ℕ, ◌<◌, ltb, inl, inr, Bool, true, ◌&&◌, ◌==◌, refl, sym, ◌∙◌, arith, eqb-true}
use Rattle.std.proofs.lemmas.Bool.Decides.{eqb_tells}
use Rattle.std.proofs.lemmas.Bool.{eqb-false, not-true, cases_lt, cond-true, cond-false, lt-ltb, le-ltb, and_parts}
use Rattle.hsiao_code.specs.Code.{columns, column_at, xor_of, check_of_byte, bit_of_syndrome, first_index}
use Rattle.hsiao_code.specs.Columns.{all_below}
use Rattle.hsiao_code.specs.ColumnLaws.{all_below_at}
use Rattle.hsiao_code.specs.declared.tables.TheConstants.{CHECKS_0, CHECKS_1, CHECKS_2, CHECKS_3, CHECKS_4, CHECKS_5, CHECKS_6, CHECKS_7, SYNDROMES}

checks_0 : all_below (λ b. slice_index CHECKS_0 b == check_of_byte 0 b) 256 ≡ true
unfolding all_below check_of_byte xor_of column_at columns
checks_0 = refl

pub entry_0 : (b : ℕ) → b < 256 → slice_index CHECKS_0 b ≡ check_of_byte 0 b
entry_0 b h = eqb-true _ _ (all_below_at (λ n. slice_index CHECKS_0 n == check_of_byte 0 n) 256 b checks_0 h)

checks_1 : all_below (λ b. slice_index CHECKS_1 b == check_of_byte 1 b) 256 ≡ true
unfolding all_below check_of_byte xor_of column_at columns
checks_1 = refl

pub entry_1 : (b : ℕ) → b < 256 → slice_index CHECKS_1 b ≡ check_of_byte 1 b
entry_1 b h = eqb-true _ _ (all_below_at (λ n. slice_index CHECKS_1 n == check_of_byte 1 n) 256 b checks_1 h)

checks_2 : all_below (λ b. slice_index CHECKS_2 b == check_of_byte 2 b) 256 ≡ true
unfolding all_below check_of_byte xor_of column_at columns
checks_2 = refl

pub entry_2 : (b : ℕ) → b < 256 → slice_index CHECKS_2 b ≡ check_of_byte 2 b
entry_2 b h = eqb-true _ _ (all_below_at (λ n. slice_index CHECKS_2 n == check_of_byte 2 n) 256 b checks_2 h)

checks_3 : all_below (λ b. slice_index CHECKS_3 b == check_of_byte 3 b) 256 ≡ true
unfolding all_below check_of_byte xor_of column_at columns
checks_3 = refl

pub entry_3 : (b : ℕ) → b < 256 → slice_index CHECKS_3 b ≡ check_of_byte 3 b
entry_3 b h = eqb-true _ _ (all_below_at (λ n. slice_index CHECKS_3 n == check_of_byte 3 n) 256 b checks_3 h)

checks_4 : all_below (λ b. slice_index CHECKS_4 b == check_of_byte 4 b) 256 ≡ true
unfolding all_below check_of_byte xor_of column_at columns
checks_4 = refl

pub entry_4 : (b : ℕ) → b < 256 → slice_index CHECKS_4 b ≡ check_of_byte 4 b
entry_4 b h = eqb-true _ _ (all_below_at (λ n. slice_index CHECKS_4 n == check_of_byte 4 n) 256 b checks_4 h)

checks_5 : all_below (λ b. slice_index CHECKS_5 b == check_of_byte 5 b) 256 ≡ true
unfolding all_below check_of_byte xor_of column_at columns
checks_5 = refl

pub entry_5 : (b : ℕ) → b < 256 → slice_index CHECKS_5 b ≡ check_of_byte 5 b
entry_5 b h = eqb-true _ _ (all_below_at (λ n. slice_index CHECKS_5 n == check_of_byte 5 n) 256 b checks_5 h)

checks_6 : all_below (λ b. slice_index CHECKS_6 b == check_of_byte 6 b) 256 ≡ true
unfolding all_below check_of_byte xor_of column_at columns
checks_6 = refl

pub entry_6 : (b : ℕ) → b < 256 → slice_index CHECKS_6 b ≡ check_of_byte 6 b
entry_6 b h = eqb-true _ _ (all_below_at (λ n. slice_index CHECKS_6 n == check_of_byte 6 n) 256 b checks_6 h)

checks_7 : all_below (λ b. slice_index CHECKS_7 b == check_of_byte 7 b) 256 ≡ true
unfolding all_below check_of_byte xor_of column_at columns
checks_7 = refl

pub entry_7 : (b : ℕ) → b < 256 → slice_index CHECKS_7 b ≡ check_of_byte 7 b
entry_7 b h = eqb-true _ _ (all_below_at (λ n. slice_index CHECKS_7 n == check_of_byte 7 n) 256 b checks_7 h)

syndromes : all_below (λ s. slice_index SYNDROMES s == bit_of_syndrome s) 256 ≡ true
unfolding all_below bit_of_syndrome first_index columns
syndromes = refl

pub syndrome_at : (s : ℕ) → s < 256 → slice_index SYNDROMES s ≡ bit_of_syndrome s
syndrome_at s h = eqb-true _ _ (all_below_at (λ n. slice_index SYNDROMES n == bit_of_syndrome n) 256 s syndromes h)

-- ---- what an entry of the second table says

-- at 72 the syndrome is 0, below it that bit's column, at 73 neither
pub record IsTableEntry (s e : ℕ) : Type 0 where
  pub clean : e ≡ 72 → s ≡ 0
  pub fixed : e < 72 → column_at e ≡ s
  pub bad : e ≡ 73 → (s ≢ 0) × ((j : ℕ) → j < 72 → column_at j ≢ s)
  pub small : e ≤ 73

abbrev is_entry : ℕ → Bool
is_entry s =
    let e = bit_of_syndrome s in
    if e == 72 then s == 0
    else (if ltb e 72 then column_at e == s
    else (e == 73 && not (s == 0) && all_below (λ j. not (column_at j == s)) 72))

entries : all_below is_entry 256 ≡ true
unfolding all_below bit_of_syndrome first_index column_at columns
entries = refl

entry_from : (s e : ℕ) → (if e == 72 then s == 0 else (if ltb e 72 then column_at e == s else (e == 73 && not (s == 0) && all_below (λ j. not (column_at j == s)) 72))) ≡ true → IsTableEntry s e
entry_from s e h = elim (eqb_tells e 72) [
  | inl t ↦ record {
    clean = λ _. eqb-true s 0 (sym (cond-true _ _ _ t.0) ∙ h);
    fixed = λ l. absurd (omega arith);
    bad = λ b. absurd (omega arith);
    small = omega arith;
  }
  | inr t ↦
      let rest = sym (cond-false (e == 72) (s == 0) (if ltb e 72 then column_at e == s else (e == 73 && not (s == 0) && all_below (λ j. not (column_at j == s)) 72)) t.0) ∙ h in
      elim (cases_lt e 72) [
        | inl l ↦ record {
          clean = λ c. absurd (t.1 c);
          fixed = λ _. eqb-true (column_at e) s (sym (cond-true _ _ _ (lt-ltb e 72 l)) ∙ rest);
          bad = λ b. absurd (omega arith);
          small = omega arith;
        }
        | inr g ↦
            let tests = and_parts (e == 73 && not (s == 0)) (all_below (λ j. not (column_at j == s)) 72) (sym (cond-false _ _ _ (le-ltb e 72 g)) ∙ rest) in
            let first = and_parts (e == 73) (not (s == 0)) tests.0 in
            let last : e ≡ 73 = eqb-true e 73 first.0 in
            record {
              clean = λ c. absurd (t.1 c);
              fixed = λ l. absurd (omega arith);
              bad = λ _. (eqb-false s 0 (not-true _ first.1), λ j l. eqb-false (column_at j) s (not-true _ (all_below_at (λ k. not (column_at k == s)) 72 j tests.1 l)));
              small = omega arith;
            }
      ]
]

pub entry_is : (s : ℕ) → s < 256 → IsTableEntry s (bit_of_syndrome s)
entry_is s h = entry_from s (bit_of_syndrome s) (all_below_at is_entry 256 s entries h)
