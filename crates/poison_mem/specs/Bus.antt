-- What a bus does, as functions of its state.
use Rattle.std.specs.Prelude.{◌≡◌, ℕ, List, [], ◌∷◌}
use Rattle.poison_mem.specs.declared.cell.Cell.{Cell}
use Rattle.poison_mem.specs.declared.event.Event.{Event}

-- what a read gives: the cell, the state after it, and the events
pub record Reading (S : Type 0) : Type 0 where
  pub cell : Cell
  pub after : S
  pub events : List Event

-- what a store gives: the state after it, and the events
pub record Storing (S : Type 0) : Type 0 where
  pub after : S
  pub events : List Event

-- a bus over states S: how many words it has, and what a read of a word and a store of a value under a mask do
pub record BusMeaning (S : Type 0) : Type 0 where
  pub words : S → ℕ
  pub read : S → ℕ → Reading S
  pub store : S → ℕ → ℕ → ℕ → Storing S

-- no call changes how many words there are
pub record KeepsWords {S : Type 0} (bus : BusMeaning S) : Type 0 where
  pub read : (s : S) (w : ℕ) → bus.words (bus.read s w).after ≡ bus.words s
  pub store : (s : S) (w value mask : ℕ) → bus.words (bus.store s w value mask).after ≡ bus.words s

-- a log after events, in order
abbrev pub logged_all : {L : Type 0} → (L → Event → L) → L → List Event → L
logged_all logged log [] = log
logged_all logged log (event ∷ events) = logged_all logged (logged log event) events
