-- What a line of a cache stands for, and what holds of every reachable cache.
use Rattle.std.specs.Prelude.{ℕ, ◌≡◌, false, Option, None, Some}
use Rattle.poison_mem.specs.declared.cache_state.Held.{Held}
use Rattle.poison_mem.specs.Level.{Level, LineShows}
use Rattle.poison_cache.specs.Recent.{entry_of}
use Rattle.poison_cache.specs.Cache.{CachedLines, list_of}
use Rattle.poison_cache.specs.Sound.{IsSoundCache}

module _ {S : Type 0} (stands : S → ℕ → (ℕ → ℕ) → (ℕ → ℕ) → Type 0) where
  -- a held line shows its words; a clean one and one that is not held stand below as well
  abbrev pub EntryStands : Option Held → S → ℕ → (ℕ → ℕ) → (ℕ → ℕ) → Type 0
  EntryStands None below l f q = stands below l f q
  EntryStands (Some h) below l f q = LineShows f q l h.cells × (h.dirty ≡ false → stands below l f q)

  -- a line of the cache stands for the words f, each flipped q times, by whether it is held
  abbrev pub CacheStands : ℕ → CachedLines S → ℕ → (ℕ → ℕ) → (ℕ → ℕ) → Type 0
  CacheStands sets s l f q = EntryStands (entry_of l (list_of sets s l)) s.below l f q

-- what holds of every reachable state of a cache
pub record CacheValid {S : Type 0} (sets ways : ℕ) (level : Level S) (valid : S → Type 0) (s : CachedLines S) : Type 0 where
  pub lists : IsSoundCache sets ways (level.words s.below) s.lists
  pub below : valid s.below
