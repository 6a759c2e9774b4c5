use Rattle.std.proofs.Common.{ℕ, ◌-◌, ◌≤◌, length}
use Rattle.ras_read.proofs.TextLemmas.{IsPrinted}
use Rattle.ras_read.proofs.records.records_text.Given as goal

-- the records so far are printed, the last of which ends in the file
abbrev pub invariant-loop-at : goal.invariant-loop-at
invariant-loop-at l = record {
  inside : l.at ≤ length l.b;
  printed : (left : ℕ) × IsPrinted l.b l.at l.out.items left;
}

abbrev pub decreases-loop-at : goal.decreases-loop-at
decreases-loop-at l = length l.b - l.at
