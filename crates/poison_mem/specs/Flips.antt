-- A bus whose words take flips, and what its state stands for.
use Rattle.std.specs.Prelude.{◌≡◌, ℕ, ◌^◌, ◌<◌, ◌≤◌, ◌==◌, false, if◌then◌else◌}
use Rattle.poison_mem.specs.declared.cell.Cell.{Cell}
use Rattle.poison_mem.specs.declared.cell.Cell.TheVariants.{Good, Poison}
use Rattle.poison_mem.specs.declared.cell.CellState.{CellState}
use Rattle.poison_mem.specs.Bus.{BusMeaning}
use Rattle.poison_mem.specs.Cells.{CellCalls, is_third, raised_at, CountsNoMore}
use Rattle.poison_mem.specs.Merge.{merged_value}

-- what the calls on the words of the memory behind a bus do, and what a read of a word would give
pub record FlipMeaning (S : Type 0) : Type 0 where
  pub cells : CellCalls S
  pub view : S → ℕ → Cell

-- a cell shows this word, or poison where at least two flips came
abbrev pub Shows : ℕ → ℕ → Cell → Type 0
Shows value flips (Good v) = (v ≡ value) × (v < 2 ^ 64)
Shows value flips Poison = 2 ≤ flips

-- the words after a store
abbrev pub stored_at : (ℕ → ℕ) → ℕ → ℕ → ℕ → ℕ → ℕ
stored_at f w value mask k = if k == w then merged_value (f k) value mask else f k

-- the flips of each word since its last whole store, after a store
abbrev pub renewed_at : (ℕ → ℕ) → ℕ → ℕ → ℕ → ℕ
renewed_at q w mask k = if k == w then (if mask == 255 then 0 else q k) else q k

-- `stands s f q` says that the state s stands for the words f, each flipped q times since it was last stored whole.
-- A bus is faithful where such a state shows these words, or poison only where two flips came, and each call keeps it so.
pub record IsFaithful {S : Type 0} (bus : BusMeaning S) (flips : FlipMeaning S) (stands : S → (ℕ → ℕ) → (ℕ → ℕ) → Type 0) : Type 0 where
  -- it depends on the bus's own words alone, and more flips may have come
  pub same : (s : S) (f g q r : ℕ → ℕ) → stands s f q
      → ((w : ℕ) → w < bus.words s → g w ≡ f w) → ((w : ℕ) → w < bus.words s → q w ≤ r w) → stands s g r
  pub read_shows : (s : S) (w : ℕ) (f q : ℕ → ℕ) → w < bus.words s → stands s f q → Shows (f w) (q w) (bus.read s w).cell
  pub view_shows : (s : S) (w : ℕ) (f q : ℕ → ℕ) → w < bus.words s → stands s f q → Shows (f w) (q w) (flips.view s w)
  pub read_keeps : (s : S) (w : ℕ) (f q : ℕ → ℕ) → w < bus.words s → stands s f q → stands (bus.read s w).after f q
  pub store_keeps : (s : S) (w value mask : ℕ) (f q : ℕ → ℕ) → w < bus.words s → stands s f q
      → stands (bus.store s w value mask).after (stored_at f w value mask) (renewed_at q w mask)
  pub strike_keeps : (s : S) (w bit : ℕ) (f q : ℕ → ℕ) → w < bus.words s → bit < 72 → is_third (flips.cells.cell s w) ≡ false → stands s f q
      → stands (flips.cells.strike s w bit) f (raised_at q w)
  pub scrub_keeps : (s : S) (w : ℕ) (f q : ℕ → ℕ) → w < bus.words s → stands s f q → stands (flips.cells.scrub s w).after f q

-- no read and no store adds to a count
pub record WordsKeepCounts {S : Type 0} (bus : BusMeaning S) (cell : S → ℕ → CellState) : Type 0 where
  pub read : (s : S) (w : ℕ) → CountsNoMore cell s (bus.read s w).after
  pub store : (s : S) (w value mask : ℕ) → CountsNoMore cell s (bus.store s w value mask).after
