use Rattle.std.proofs.Common.{ℕ, ◌+◌, ◌<◌}
use Rattle.poison_cache.specs.Ranks.{way_of}
use Rattle.poison_cache.specs.Ways.{ranks_from, IsEmptyAt}
use Rattle.poison_cache.proofs.ways.empty_way.Given as goal

-- the ways of the ranks so far hold lines
abbrev pub invariant-loop-rank : goal.invariant-loop-rank
invariant-loop-rank l = (r : ℕ) → r < l.rank → IsEmptyAt l.flags (l.first + way_of (ranks_from l.ranks l.first) l.ways r) → ⊥
