-- The lines of a step stand together in rising lines, from the first of them on.
use Rattle.std.proofs.Common.{◌≡◌, ◌≢◌, ℕ, suc, zero, ◌+◌, ◌<◌, ◌≤◌, Bool, true, false, nat_lt, List, [], ◌∷◌, length, get_or, drop, refl, ap, sym, ◌∙◌, subst, arith, drop-cons}
use Rattle.std.specs.List.{AllByRecursion}
use Rattle.std.specs.List.Sorted.{IsNonDecreasingBy}
use Rattle.std.proofs.lemmas.Bool.{lt-ltb}
use Rattle.std.proofs.lemmas.Grind.{common_steps}
use Rattle.fault_script.specs.Steps.{step_of_line, at_step, first_line_of}
use Rattle.fault_script.specs.declared.lines.ScriptLine.{ScriptLine}
use Rattle.fault_script.proofs.SortLemmas.{Rising, rises, none_at, different}

not_earlier : (m n : ℕ) → n ≤ m → nat_lt m n ≡ false
not_earlier m n h = grind (arith, common_steps)

earlier_first : (n : ℕ) (x : ScriptLine) (xs : List ScriptLine) → x.step < n → first_line_of n (x ∷ xs) ≡ suc (first_line_of n xs)
earlier_first n x xs h = rw (lt-ltb x.step n h) refl

later_first : (n : ℕ) (x : ScriptLine) (xs : List ScriptLine) → n ≤ x.step → first_line_of n (x ∷ xs) ≡ first_line_of n xs
later_first n x xs h = rw (not_earlier x.step n h) refl

none_earlier : (n : ℕ) (xs : List ScriptLine) → AllByRecursion (λ y. n ≤ y.step) xs → first_line_of n xs ≡ 0
none_earlier n [] all = refl
none_earlier n (x ∷ xs) all = later_first n x xs all.0 ∙ none_earlier n xs all.1

pub all_later : (n m : ℕ) (xs : List ScriptLine) → n ≤ m → AllByRecursion (λ y. m ≤ y.step) xs → AllByRecursion (λ y. n ≤ y.step) xs
all_later n m [] h all = tt
all_later n m (x ∷ xs) h all = (omega (arith, all.0), all_later n m xs h all.1)

passed : (n : ℕ) (x : ScriptLine) (xs : List ScriptLine) → x.step ≢ n → at_step n (x ∷ xs) ≡ at_step n xs
passed n x xs h = rw (different x.step n h) refl

from_first : (n : ℕ) (xs : List ScriptLine) → Rising xs → at_step n (drop (first_line_of n xs) xs) ≡ at_step n xs
from_first n [] up = refl
from_first n (x ∷ xs) up = by_test (nat_lt x.step n) refl (from_first n xs up.1) where
  by_test : (t : Bool) → nat_lt x.step n ≡ t → at_step n (drop (first_line_of n xs) xs) ≡ at_step n xs
      → at_step n (drop (first_line_of n (x ∷ xs)) (x ∷ xs)) ≡ at_step n (x ∷ xs)
  by_test true e behind =
      let less : x.step < n = grind (arith, common_steps) in
      ap (λ k. at_step n (drop k (x ∷ xs))) (earlier_first n x xs less)
      ∙ behind
      ∙ sym (passed n x xs (λ q. omega arith))
  by_test false e behind =
      let more : n ≤ x.step = grind (arith, common_steps) in
      ap (λ k. at_step n (drop k (x ∷ xs))) (later_first n x xs more ∙ none_earlier n xs (all_later n x.step xs more up.0))

-- the lines of a step are those from its first line on
pub at_step_from_first : (n : ℕ) (lines : List ScriptLine) → IsNonDecreasingBy step_of_line lines → at_step n (drop (first_line_of n lines) lines) ≡ at_step n lines
at_step_from_first n lines up = from_first n lines (rises lines up)

rising_behind : (xs : List ScriptLine) (k : ℕ) → Rising xs → Rising (drop k xs)
rising_behind xs zero up = up
rising_behind [] (suc k) up = tt
rising_behind (x ∷ xs) (suc k) up = rising_behind xs k up.1

-- behind a line of a later step, or behind the last line, none is of the step
pub at_step_over : (n : ℕ) (lines : List ScriptLine) (k : ℕ) (d : ScriptLine) → IsNonDecreasingBy step_of_line lines → k < length lines → n < (get_or lines k d).step
    → at_step n (drop k lines) ≡ []
at_step_over n lines k d up inside later =
    ap (at_step n) cut ∙ over (get_or lines k d) (drop (suc k) lines) later (by_cut (drop k lines) (rising_behind lines k (rises lines up)) cut) where
      cut : drop k lines ≡ get_or lines k d ∷ drop (suc k) lines
      cut = drop-cons lines k d inside

      by_cut : (ys : List ScriptLine) → Rising ys → ys ≡ get_or lines k d ∷ drop (suc k) lines → Rising (get_or lines k d ∷ drop (suc k) lines)
      by_cut ys r e = subst Rising e r

      over : (x : ScriptLine) (xs : List ScriptLine) → n < x.step → Rising (x ∷ xs) → at_step n (x ∷ xs) ≡ []
      over x xs h r = none_at (n + 1) n (x ∷ xs) (omega arith) (omega arith, all_later (n + 1) x.step xs (omega arith) r.0)

-- a line is the first of a step where the line before it is of an earlier step, and it isn't
pub is_first_line_of_step : (n : ℕ) (lines : List ScriptLine) (k : ℕ) (d : ScriptLine) → IsNonDecreasingBy step_of_line lines → k ≤ length lines
    → ((i : ℕ) → i + 1 ≡ k → (get_or lines i d).step < n) → (k < length lines → n ≤ (get_or lines k d).step) → first_line_of n lines ≡ k
is_first_line_of_step n lines k d up inside before at = placed lines k (rises lines up) inside before at where
  placed : (xs : List ScriptLine) (j : ℕ) → Rising xs → j ≤ length xs → ((i : ℕ) → i + 1 ≡ j → (get_or xs i d).step < n) → (j < length xs → n ≤ (get_or xs j d).step) → first_line_of n xs ≡ j
  placed [] zero r i b a = refl
  placed [] (suc j) r i b a = absurd (omega arith)
  placed (x ∷ xs) zero r i b a =
      let here : n ≤ x.step = a (omega arith) in
      none_earlier n (x ∷ xs) (here, all_later n x.step xs here r.0)
  placed (x ∷ xs) (suc zero) r i b a =
      earlier_first n x xs (b 0 (omega arith)) ∙ ap suc (placed xs zero r.1 (omega arith) (λ i e. b (suc i) (omega arith)) (λ h. a (omega arith)))
  placed (x ∷ xs) (suc (suc j)) r i b a =
      let last : (get_or xs j d).step < n = b (suc j) (omega arith) in
      earlier_first n x xs (omega (arith, last, at_least j xs x.step (omega arith) r.0))
      ∙ ap suc (placed xs (suc j) r.1 (omega arith) (λ i e. b (suc i) (omega arith)) (λ h. a (omega arith))) where
        at_least : (j : ℕ) (ys : List ScriptLine) (m : ℕ) → j < length ys → AllByRecursion (λ y. m ≤ y.step) ys → m ≤ (get_or ys j d).step
        at_least j [] m h all = absurd (omega arith)
        at_least zero (y ∷ ys) m h all = all.0
        at_least (suc j) (y ∷ ys) m h all = at_least j ys m (omega arith) all.1
