-- The list of a line's set.
use Rattle.std.proofs.Common.{ℕ, ◌≤◌, ◌%◌, ◌/◌, ◌<◌, List, [], arith, refl, slice_index_or}
use Rattle.std.specs.List.{AllByRecursion}
use Rattle.poison_mem.specs.declared.cache_state.Held.{Held}
use Rattle.poison_mem.specs.Level.{Level, InRange, KeepsLines}
use Rattle.poison_cache.specs.Sound.{IsSoundCache}
use Rattle.poison_cache.specs.SoundLaws.{sound-in_range}

set_within : (sets l : ℕ) → 1 ≤ sets → l % sets < sets
set_within sets l some = omega arith

module _ {S : Type 0} (level : Level S) where
  -- the entries of a set can be put below
  pub set_in_range : (sets ways l : ℕ) (lists : List (List Held)) (below : S) → IsSoundCache sets ways (level.words below) lists
      → AllByRecursion (λ h. InRange level below h.line) (slice_index_or lists (l % sets) [])
  set_in_range sets ways l lists below sound =
      sound-in_range (level.words below) sets (l % sets) level below refl _ (sound.each (l % sets) (set_within sets l sound.some))

-- the line of a word that the level below has is in range
pub line_in_range : {S : Type 0} (level : Level S) (valid : S → Type 0) (stands : S → ℕ → (ℕ → ℕ) → (ℕ → ℕ) → Type 0) → KeepsLines level valid stands
    → (s : S) (w : ℕ) → valid s → w < level.words s → InRange level s (w / 8)
line_in_range level valid stands keeps_lines s w ok in_range = let whole = keeps_lines.whole s ok in omega arith
