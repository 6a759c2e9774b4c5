-- The lines of a step are found from the first of them on.
use Rattle.std.proofs.Common.{ℕ, ◌≡◌, ◌≤◌, ◌<◌, List, length, get_or, drop, sym, ap, ◌∙◌, arith}
use Rattle.std.specs.Prelude.{slice_index_or}
use Rattle.std.specs.List.Sorted.{IsNonDecreasingBy}
use Rattle.std.proofs.lemmas.List.{get_or_default}
use Rattle.poison_mem.specs.Flips.{FlipMeaning}
use Rattle.fault_script.specs.declared.lines.ScriptLine.{ScriptLine}
use Rattle.fault_script.specs.declared.lines.Act.TheVariants.{Flip}
use Rattle.fault_script.specs.Steps.{step_of_line, at_step}
use Rattle.fault_script.proofs.StepLemmas.{at_step_from_first, at_step_over, is_first_line_of_step}
use Rattle.ras_machine.specs.declared.state.MachineState.{MachineState}
use Rattle.ras_machine.specs.FirstLine.{IsFirstLineOf}
use Rattle.ras_machine.specs.Actions.{lines_acted}

-- a line that stands past the end of all lines
abbrev pub no_line : ScriptLine
no_line = record { step = 0; act = Flip 0 0 }

-- a line no later than one of an earlier step, and one no earlier than one that isn't
pub earlier_too : (lines : List ScriptLine) (n i j : ℕ) (d e : ScriptLine) → IsNonDecreasingBy step_of_line lines → i ≤ j → j < length lines → (slice_index_or lines j e).step < n → (slice_index_or lines i d).step < n
earlier_too lines n i j d e up low inside less =
    let rise : (slice_index_or lines i d).step ≤ (slice_index_or lines j d).step = up i j d low inside in
    let same : slice_index_or lines j d ≡ slice_index_or lines j e = get_or_default lines j d e inside in
    let same_step = ap (λ (line : ScriptLine). line.step) same in
    omega arith

pub later_too : (lines : List ScriptLine) (n i j : ℕ) (d e : ScriptLine) → IsNonDecreasingBy step_of_line lines → i ≤ j → j < length lines → n ≤ (slice_index_or lines i e).step → n ≤ (slice_index_or lines j d).step
later_too lines n i j d e up low inside more =
    let rise : (slice_index_or lines i d).step ≤ (slice_index_or lines j d).step = up i j d low inside in
    let same : slice_index_or lines i d ≡ slice_index_or lines i e = get_or_default lines i d e (omega arith) in
    let same_step = ap (λ (line : ScriptLine). line.step) same in
    omega arith

-- the lines of a step are those from its first line on
pub from_first_line : (lines : List ScriptLine) (n at : ℕ) (d : ScriptLine) → IsNonDecreasingBy step_of_line lines → IsFirstLineOf n lines at → at_step n (drop at lines) ≡ at_step n lines
from_first_line lines n at d up it =
    ap (λ k. at_step n (drop k lines)) (sym (is_first_line_of_step n lines at d up it.inside (λ i e. it.before i d (omega arith)) (λ inside. it.behind at d (omega arith) inside)))
    ∙ at_step_from_first n lines up

module _ {B : Type 0} (flips : FlipMeaning B) where
  -- no act is left behind a line of a later step
  pub lines_over : (lines : List ScriptLine) (n k : ℕ) (d : ScriptLine) (first s : MachineState B) → IsNonDecreasingBy step_of_line lines → k < length lines → n < (get_or lines k d).step
      → (lines_acted flips (at_step n lines) first).after ≡ (lines_acted flips (at_step n (drop k lines)) s).after
      → s ≡ (lines_acted flips (at_step n lines) first).after
  lines_over lines n k d first s up inside later left =
      sym (left ∙ ap (λ lines. (lines_acted flips lines s).after) (at_step_over n lines k d up inside later))
