use Rattle.std.proofs.Common.{ℕ, ◌≢◌, ◌<◌, ◌≤◌, slice_index}
use Rattle.poison_cache.proofs.ways.way_of_rank.Given as goal

-- no way so far has the rank
abbrev pub invariant-loop-way : goal.invariant-loop-way
invariant-loop-way l = (i : ℕ) → l.first ≤ i → i < l.way → slice_index l.ranks i ≢ l.rank
