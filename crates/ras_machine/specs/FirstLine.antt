-- The first line of a step in lines in rising steps.
use Rattle.std.specs.Prelude.{ℕ, ◌<◌, ◌≤◌, List, length, slice_index_or}
use Rattle.fault_script.specs.declared.lines.ScriptLine.{ScriptLine}

-- so many lines are of earlier steps than n, and those behind them are not
pub record IsFirstLineOf (n : ℕ) (lines : List ScriptLine) (at : ℕ) : Type 0 where
  pub inside : at ≤ length lines
  pub before : (i : ℕ) (d : ScriptLine) → i < at → (slice_index_or lines i d).step < n
  pub behind : (i : ℕ) (d : ScriptLine) → at ≤ i → i < length lines → n ≤ (slice_index_or lines i d).step
