-- The entries of a cache, as functions of its state.
use Rattle.std.specs.Prelude.{◌≡◌, ◌≢◌, ◌%◌, ◌<◌, ◌≤◌, ℕ, List, [], ◌∷◌, ◌++◌, length, slice_get, All, Some}
use Rattle.poison_mem.specs.declared.cache_state.Held.{Held}
use Rattle.poison_mem.specs.Level.{Level, InRange}

-- what the calls on a cache's entries say and leave
pub record EntryCalls (S : Type 0) : Type 0 where
  -- what a set holds, the most recent first
  pub listed : S → ℕ → List Held
  -- the state after all lists were emptied
  pub forget_all : S → S
  -- the state after an entry was appended to the list of its set
  pub place_last : S → Held → S

-- the entry's line is there and not held, and its set has a way left
pub record HasRoomFor {S : Type 0} (sets ways : ℕ) (level : Level S) (entries : EntryCalls S) (s : S) (h : Held) : Type 0 where
  pub line : InRange level s h.line
  pub absent : All (λ entry. entry.line ≢ h.line) (entries.listed s (h.line % sets))
  pub room : length (entries.listed s (h.line % sets)) < ways

-- What the lists are in every reachable state, and what the two calls that change them do and keep.
pub record KeepsEntries {S : Type 0} (sets ways : ℕ) (level : Level S) (valid : S → Type 0) (entries : EntryCalls S) : Type 0 where
  pub some : (s : S) → valid s → 1 ≤ sets
  -- a set holds at most so many lines as there are ways, each in range and in its own set, and once
  pub fits : (s : S) (set : ℕ) → valid s → set < sets → length (entries.listed s set) ≤ ways
  pub held : (s : S) (set k : ℕ) (h : Held) → valid s → set < sets → slice_get (entries.listed s set) k ≡ Some h
      → InRange level s h.line × (h.line % sets ≡ set)
  pub once : (s : S) (set i j : ℕ) (a b : Held) → valid s → set < sets → slice_get (entries.listed s set) i ≡ Some a
      → slice_get (entries.listed s set) j ≡ Some b → a.line ≡ b.line → i ≡ j
  pub forgotten : (s : S) (set : ℕ) → set < sets → entries.listed (entries.forget_all s) set ≡ []
  pub forgotten_words : (s : S) → level.words (entries.forget_all s) ≡ level.words s
  pub forgotten_valid : (s : S) → valid s → valid (entries.forget_all s)
  pub placed : (s : S) (h : Held) → valid s → HasRoomFor sets ways level entries s h
      → entries.listed (entries.place_last s h) (h.line % sets) ≡ entries.listed s (h.line % sets) ++ h ∷ []
  pub placed_other : (s : S) (h : Held) (set : ℕ) → set ≢ h.line % sets
      → entries.listed (entries.place_last s h) set ≡ entries.listed s set
  pub placed_words : (s : S) (h : Held) → level.words (entries.place_last s h) ≡ level.words s
  pub placed_valid : (s : S) (h : Held) → valid s → HasRoomFor sets ways level entries s h
      → valid (entries.place_last s h)
