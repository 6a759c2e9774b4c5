use Rattle.std.proofs.Common.{ℕ, ◌≡◌, ◌<◌, ◌≤◌, ◌⊎◌, slice_index}
use Rattle.poison_cache.specs.Ranks.{renewed}
use Rattle.poison_cache.proofs.ways.renew.Given as goal

-- the ways so far have their new ranks, and all others those that they had
abbrev pub invariant-loop-way : goal.invariant-loop-way
invariant-loop-way l = record {
  done : (i : ℕ) → l.first ≤ i → i < l.way → slice_index l.ranks i ≡ renewed l.hit (slice_index l.fn.ranks i);
  others : (i : ℕ) → (i < l.first) ⊎ (l.way ≤ i) → slice_index l.ranks i ≡ slice_index l.fn.ranks i;
}
