use Rattle.std.proofs.Common.{ℕ, ◌<◌}
use Rattle.poison_cache.specs.Ways.{IsEmptyAt}
use Rattle.poison_cache.proofs.ways.empty_all.Given as goal

-- the ways so far hold no line
abbrev pub invariant-loop-flag : goal.invariant-loop-flag
invariant-loop-flag l = (i : ℕ) → i < l.flag-index → IsEmptyAt l.flags i
