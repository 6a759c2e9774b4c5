-- A line put into a script or taken out of it.
use Rattle.std.proofs.Common.{◌≡◌, ℕ, zero, suc, ◌+◌, ◌<◌, ◌≤◌, Bool, true, false, not, cond, List, [], ◌∷◌, length, get_or, refl, subst, arith}
use Rattle.std.specs.List.{AllByRecursion, insert, position_or_len}
use Rattle.std.specs.List.Sorted.{IsNonDecreasingBy}
use Rattle.std.proofs.lemmas.List.Edits.{length-insert}
use Rattle.std.proofs.lemmas.Grind.{common_steps}
use Rattle.fault_script.specs.Fits.{FitsRam, IsScriptFor}
use Rattle.fault_script.specs.Scripts.{is_later, with_line_inserted}
use Rattle.fault_script.specs.Steps.{step_of_line}
use Rattle.fault_script.specs.declared.lines.TheConstants.{MOST_LINES}
use Rattle.fault_script.specs.declared.lines.ScriptLine.{ScriptLine}
use Rattle.fault_script.proofs.SortLemmas.{Rising, rises}
use Rattle.fault_script.proofs.StepLemmas.{all_later}
use Rattle.fault_script.proofs.WordLemmas.{within}

all_inserted : (P : ScriptLine → Type 0) (xs : List ScriptLine) (k : ℕ) (y : ScriptLine) → AllByRecursion P xs → P y → AllByRecursion P (insert xs k y)
all_inserted P xs zero y all h = (h, all)
all_inserted P [] (suc k) y all h = (h, tt)
all_inserted P (x ∷ xs) (suc k) y all h = (all.0, all_inserted P xs k y all.1 h)

rising_inserted : (line : ScriptLine) (xs : List ScriptLine) → Rising xs → Rising (with_line_inserted line xs)
rising_inserted line [] up = (tt, tt)
rising_inserted line (x ∷ xs) up = by_test (is_later line.step x) refl (rising_inserted line xs up.1) where
  one_more : (k : ℕ) → Rising (insert xs k line) → x.step ≤ line.step → Rising (insert (x ∷ xs) (1 + k) line)
  one_more k r h =
      let P : ℕ → Type 0 = λ n. Rising (insert (x ∷ xs) n line) in
      let e : suc k ≡ 1 + k = omega arith in
      subst P e (all_inserted (λ y. x.step ≤ y.step) xs k line up.0 h, r)

  by_test : (t : Bool) → is_later line.step x ≡ t → Rising (with_line_inserted line xs)
      → Rising (insert (x ∷ xs) (cond (not t) (1 + position_or_len (is_later line.step) xs) 0) line)
  by_test true e r =
      let h : line.step ≤ x.step = grind (arith, common_steps) in
      ((h, all_later line.step x.step xs h up.0), up)
  by_test false e r = one_more (position_or_len (is_later line.step) xs) r (grind (arith, common_steps))

at_least : (m : ℕ) (xs : List ScriptLine) (j : ℕ) (d : ScriptLine) → AllByRecursion (λ y. m ≤ y.step) xs → j < length xs → m ≤ (get_or xs j d).step
at_least m [] j d all h = absurd (omega arith)
at_least m (x ∷ xs) zero d all h = all.0
at_least m (x ∷ xs) (suc j) d all h = at_least m xs j d all.1 (omega arith)

in_order : (xs : List ScriptLine) → Rising xs → IsNonDecreasingBy step_of_line xs
in_order [] up = λ i j d below inside. absurd (omega arith)
in_order (x ∷ xs) up = at (in_order xs up.1) where
  at : IsNonDecreasingBy step_of_line xs → (i j : ℕ) (d : ScriptLine) → i ≤ j → j < length (x ∷ xs)
      → (get_or (x ∷ xs) i d).step ≤ (get_or (x ∷ xs) j d).step
  at rest zero zero d below inside = omega arith
  at rest (suc i) zero d below inside = absurd (omega arith)
  at rest zero (suc j) d below inside = at_least x.step xs j d up.0 (omega arith)
  at rest (suc i) (suc j) d below inside = rest i j d (omega arith) (omega arith)

pub inserted_fits : (ram_words : ℕ) (line : ScriptLine) (lines : List ScriptLine) → length lines < MOST_LINES
    → IsScriptFor ram_words lines → FitsRam ram_words line → IsScriptFor ram_words (with_line_inserted line lines)
inserted_fits ram_words line lines few script fits =
    let k = position_or_len (is_later line.step) lines in
    record {
      few = omega (arith, length-insert lines k line (within (is_later line.step) lines));
      fit = all_inserted (FitsRam ram_words) lines k line script.fit fits;
      rising = in_order (with_line_inserted line lines) (rising_inserted line lines (rises lines script.rising));
    }
