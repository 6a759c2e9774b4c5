use Rattle.std.proofs.Common.{ℕ, ◌-◌, ◌<◌, ◌≤◌, length, slice_index_or}
use Rattle.fault_script.specs.declared.lines.ScriptLine.{ScriptLine}
use Rattle.ras_machine.proofs.first_line.first_line_of.Given as goal

-- the first line is neither before the one nor behind the other
abbrev pub invariant-loop-low : goal.invariant-loop-low
invariant-loop-low l = record {
  order : l.low ≤ l.high;
  inside : l.high ≤ length l.lines;
  before : (i : ℕ) (d : ScriptLine) → i < l.low → (slice_index_or l.lines i d).step < l.n;
  behind : (i : ℕ) (d : ScriptLine) → l.high ≤ i → i < length l.lines → l.n ≤ (slice_index_or l.lines i d).step;
}

abbrev pub decreases-loop-low : goal.decreases-loop-low
decreases-loop-low l = l.high - l.low
