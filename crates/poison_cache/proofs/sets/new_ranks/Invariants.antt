use Rattle.std.proofs.Common.{ℕ, ◌%◌, ◌≡◌, ◌<◌, length, slice_index}
use Rattle.poison_cache.proofs.sets.new_ranks.Given as goal

-- the ranks so far
abbrev pub invariant-loop-way : goal.invariant-loop-way
invariant-loop-way l = record {
  count : length l.ranks.items ≡ l.all;
  done : (i : ℕ) → i < l.way → slice_index l.ranks.items i ≡ i % l.ways;
}
