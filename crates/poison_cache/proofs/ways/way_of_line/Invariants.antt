use Rattle.std.proofs.Common.{ℕ, ◌≢◌, ◌<◌, ◌≤◌, Some}
use Rattle.poison_cache.specs.Ways.{line_in}
use Rattle.poison_cache.proofs.ways.way_of_line.Given as goal

-- no way so far holds the line
abbrev pub invariant-loop-way : goal.invariant-loop-way
invariant-loop-way l = (i : ℕ) → l.first ≤ i → i < l.way → line_in l.lines l.flags i ≢ Some l.line
