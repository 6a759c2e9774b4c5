-- What holds of the lists of every reachable cache.
use Rattle.std.specs.Prelude.{ℕ, ◌+◌, ◌*◌, ◌%◌, ◌<◌, ◌≤◌, ◌≡◌, List, [], ◌∷◌, None, length, slice_index_or}
use Rattle.poison_cache.specs.declared.sets.TheConstants.{MOST_HELD}
use Rattle.poison_mem.specs.declared.cache_state.Held.{Held}
use Rattle.poison_cache.specs.Recent.{entry_of}

-- an entry is held in its line's set, and its line is within the words below
pub record IsHeldIn (words sets set : ℕ) (h : Held) : Type 0 where
  pub in_range : 8 * h.line + 7 < words
  pub in_set : h.line % sets ≡ set

-- entries of one set, one for each line
abbrev pub IsSoundList : ℕ → ℕ → ℕ → List Held → Type 0
IsSoundList words sets set [] = Unit {0}
IsSoundList words sets set (h ∷ hs) = IsHeldIn words sets set h × (entry_of h.line hs ≡ None) × IsSoundList words sets set hs

-- one list for each set, of at most as many entries as there are ways
pub record IsSoundCache (sets ways words : ℕ) (lists : List (List Held)) : Type 0 where
  pub some : 1 ≤ sets
  pub some_way : 1 ≤ ways
  pub small : sets * ways ≤ MOST_HELD
  pub count : length lists ≡ sets
  pub each : (set : ℕ) → set < sets → IsSoundList words sets set (slice_index_or lists set [])
  pub most : (set : ℕ) → set < sets → length (slice_index_or lists set []) ≤ ways
