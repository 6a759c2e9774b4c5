-- A list in rising steps is given by its lines of each step.
use Rattle.std.proofs.Common.{◌≡◌, ◌≢◌, ℕ, suc, ◌<◌, ◌≤◌, Bool, true, false, not, cond, ◌==◌, ◌&&◌, List, [], ◌∷◌, length, get_or, refl, ap, sym, ◌∙◌, arith}
use Rattle.std.specs.List.{AllByRecursion, filter}
use Rattle.std.specs.List.Sorted.{IsNonDecreasingBy, IsStableByKey, IsPermutation}
use Rattle.std.proofs.lemmas.List.Sorted.{All-permutation, length_permutation}
use Rattle.std.proofs.lemmas.List.Elements.{All-from_recursion, recursion_from_All}
use Rattle.fault_script.specs.Fits.{FitsRam, AreReadable, IsScriptFor}
use Rattle.std.specs.Ordering.{nat_cmp, is_lt}
use Rattle.std.proofs.lemmas.Grind.{common_steps}
use Rattle.fault_script.specs.Steps.{step_of_line, at_step, InRisingSteps}
use Rattle.fault_script.specs.declared.lines.ScriptLine.{ScriptLine}
use Rattle.fault_script.specs.declared.lines.Act.TheVariants as act

abbrev pub Rising : List ScriptLine → Type 0
Rising [] = Unit {0}
Rising (x ∷ xs) = AllByRecursion (λ y. x.step ≤ y.step) xs × Rising xs

all_above : (n : ℕ) (xs : List ScriptLine) → ((j : ℕ) (d : ScriptLine) → j < length xs → n ≤ step_of_line (get_or xs j d)) → AllByRecursion (λ y. n ≤ y.step) xs
all_above n [] h = tt
all_above n (y ∷ ys) h = (h 0 y (omega arith), all_above n ys (λ j d inside. h (suc j) d (omega arith)))

pub rises : (xs : List ScriptLine) → IsNonDecreasingBy step_of_line xs → Rising xs
rises [] h = tt
rises (x ∷ xs) h = (all_above x.step xs (λ j d inside. h 0 (suc j) d (omega arith) (omega arith)), rises xs (λ i j d below inside. h (suc i) (suc j) d (omega arith) (omega arith)))

pub different : (m n : ℕ) → m ≢ n → (m == n) ≡ false
different m n h = grind (arith, common_steps)

pub equal : (m n : ℕ) → m ≡ n → (m == n) ≡ true
equal m n h = grind (arith, common_steps)

pub none_at : (n step : ℕ) (xs : List ScriptLine) → step < n → AllByRecursion (λ y. n ≤ y.step) xs → at_step step xs ≡ []
none_at n step [] h all = refl
none_at n step (x ∷ xs) h all = rw (different x.step step (λ e. omega (arith, all.0, e))) (none_at n step xs h all.1)

pub first_at : (x : ScriptLine) (step : ℕ) (xs : List ScriptLine) → x.step ≡ step → at_step step (x ∷ xs) ≡ x ∷ at_step step xs
first_at x step xs h = rw (equal x.step step h) refl

no_less : (x y : ScriptLine) (xs ys : List ScriptLine) → AllByRecursion (λ z. y.step ≤ z.step) ys → at_step x.step (x ∷ xs) ≡ at_step x.step (y ∷ ys) → x.step < y.step → ⊥
no_less x y xs ys above same less =
    clash (sym (first_at x x.step xs refl) ∙ same ∙ none_at y.step x.step (y ∷ ys) less (omega arith, above)) where
      clash : x ∷ at_step x.step xs ≡ [] → ⊥
      clash e = cc

between : (m n : ℕ) → (m < n → ⊥) → (n < m → ⊥) → m ≡ n
between m n p q = omega (arith, p, q)

tail_same : (t : Bool) (x y : ScriptLine) (a b : List ScriptLine) → cond t (x ∷ a) a ≡ cond t (y ∷ b) b → a ≡ b
tail_same true x y a b e = cc
tail_same false x y a b e = e

head_same : (x y : ScriptLine) (a b : List ScriptLine) → x ∷ a ≡ y ∷ b → x ≡ y
head_same x y a b e = cc

both_same : (x y : ScriptLine) (a b : List ScriptLine) → x ≡ y → a ≡ b → x ∷ a ≡ y ∷ b
both_same x y a b p q = cc

unique : (xs ys : List ScriptLine) → Rising xs → Rising ys → ((step : ℕ) → at_step step xs ≡ at_step step ys) → xs ≡ ys
unique [] [] p q same = refl
unique [] (y ∷ ys) p q same = absurd (clash (same y.step ∙ first_at y y.step ys refl)) where
  clash : [] ≡ y ∷ at_step y.step ys → ⊥
  clash e = cc
unique (x ∷ xs) [] p q same = absurd (clash (sym (same x.step) ∙ first_at x x.step xs refl)) where
  clash : [] ≡ x ∷ at_step x.step xs → ⊥
  clash e = cc
unique (x ∷ xs) (y ∷ ys) p q same =
    let e : x.step ≡ y.step = between x.step y.step (no_less x y xs ys q.0 (same x.step)) (no_less y x ys xs p.0 (sym (same y.step))) in
    let head : x ≡ y = head_same x y (at_step x.step xs) (at_step x.step ys) (sym (first_at x x.step xs refl) ∙ same x.step ∙ first_at y x.step ys (sym e)) in
    both_same x y xs ys head (unique xs ys p.1 q.1 (λ step.
    tail_same (x.step == step) x y (at_step step xs) (at_step step ys)
    (same step ∙ ap (λ (n : ℕ). cond (n == step) (y ∷ at_step step ys) (at_step step ys)) (sym e))))

-- a list in rising steps that was sorted again is itself
pub sorted_again : (read lines others : List ScriptLine) → InRisingSteps read lines → InRisingSteps lines others → others ≡ lines
sorted_again read lines others p q = unique others lines (rises others q.rising) (rises lines p.rising) q.same

tie_test : (a b : ℕ) → (not (is_lt (nat_cmp a b)) && not (is_lt (nat_cmp b a))) ≡ (b == a)
tie_test a b = grind (arith, common_steps)

filter_same : (p q : ScriptLine → Bool) → ((y : ScriptLine) → p y ≡ q y) → (xs : List ScriptLine) → filter p xs ≡ filter q xs
filter_same p q h [] = refl
filter_same p q h (x ∷ xs) = ap (λ b. cond b (x ∷ filter p xs) (filter p xs)) (h x) ∙ ap (λ ys. cond (q x) (x ∷ ys) ys) (filter_same p q h xs)

pub by_step : (read lines : List ScriptLine) → IsStableByKey step_of_line nat_cmp read lines → (step : ℕ) → at_step step lines ≡ at_step step read
by_step read lines stable step =
    sym (filter_same _ _ (λ y. tie_test step y.step) lines)
    ∙ stable (record { step = step; act = act.Scrub 0 })
    ∙ filter_same _ _ (λ y. tie_test step y.step) read

-- lines that were moved into rising steps are a script for the same RAM
pub moved_fit : (ram : ℕ) (read lines : List ScriptLine) → AreReadable ram read → IsPermutation read lines → IsNonDecreasingBy step_of_line lines → IsScriptFor ram lines
moved_fit ram read lines fits moved rising = record {
  few = omega (arith, length_permutation read lines moved, fits.0);
  fit = recursion_from_All (FitsRam ram) lines (All-permutation (FitsRam ram) read lines moved (All-from_recursion (FitsRam ram) read fits.1));
  rising = rising;
}
