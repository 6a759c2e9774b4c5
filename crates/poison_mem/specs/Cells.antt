-- The words of a memory as it keeps them: the calls on them, and the flips that they count.
use Rattle.std.specs.Prelude.{◌≡◌, ℕ, ◌+◌, ◌≤◌, ◌==◌, ◌&&◌, not, Bool, if◌then◌else◌}
use Rattle.poison_mem.specs.declared.cell.CellState.{CellState}
use Rattle.poison_mem.specs.Bus.{Storing}

-- what the calls on the words of a memory do
pub record CellCalls (S : Type 0) : Type 0 where
  -- the state after a word was set
  pub load : S → ℕ → ℕ → S
  -- the state after a bit of a word was flipped
  pub strike : S → ℕ → ℕ → S
  -- the state after a scrub of a word, and its events
  pub scrub : S → ℕ → Storing S
  -- the word as the memory keeps it
  pub cell : S → ℕ → CellState
  -- the state after a word was given another state
  pub set_cell : S → ℕ → CellState → S

-- one more flip of this word is a third one: it counts two, and isn't marked
abbrev pub is_third : CellState → Bool
is_third state = state.count == 2 && not state.mark

-- one flip more at a word
abbrev pub raised_at : (ℕ → ℕ) → ℕ → ℕ → ℕ
raised_at q w k = if k == w then q k + 1 else q k

-- no word counts more flips in the second state than in the first
abbrev pub CountsNoMore : {S : Type 0} → (S → ℕ → CellState) → S → S → Type 0
CountsNoMore cell s t = (w : ℕ) → (cell t w).count ≤ (cell s w).count

-- No call changes how many words there are. Of the calls of a run, which set no cell, only a flip adds to the flips that
-- a word counts, and adds at most one, to its own word.
pub record CellsKeepCounts {S : Type 0} (words : S → ℕ) (calls : CellCalls S) : Type 0 where
  pub load_words : (s : S) (w value : ℕ) → words (calls.load s w value) ≡ words s
  pub strike_words : (s : S) (w bit : ℕ) → words (calls.strike s w bit) ≡ words s
  pub scrub_words : (s : S) (w : ℕ) → words (calls.scrub s w).after ≡ words s
  pub set_cell_words : (s : S) (w : ℕ) (state : CellState) → words (calls.set_cell s w state) ≡ words s
  pub load : (s : S) (w value : ℕ) → CountsNoMore calls.cell s (calls.load s w value)
  pub scrub : (s : S) (w : ℕ) → CountsNoMore calls.cell s (calls.scrub s w).after
  pub strike : (s : S) (w bit k : ℕ) → (calls.cell (calls.strike s w bit) k).count ≤ raised_at (λ n. (calls.cell s n).count) w k
