-- A level of memory by lines, as functions of its state, and what its state stands for.
use Rattle.std.specs.Prelude.{◌≡◌, ◌≢◌, ◌+◌, ◌*◌, ◌%◌, ◌<◌, ◌≤◌, ℕ, List, false}
use Rattle.poison_mem.specs.declared.cell.Cell.{Cell}
use Rattle.poison_mem.specs.declared.cell.Cell.TheVariants.{Good, Poison}
use Rattle.poison_mem.specs.declared.cell.CellState.{CellState}
use Rattle.poison_mem.specs.declared.line.Line.{Line}
use Rattle.poison_mem.specs.declared.event.Event.{Event}
use Rattle.poison_mem.specs.Bus.{Storing}
use Rattle.poison_mem.specs.Cells.{CellCalls, is_third, raised_at, CountsNoMore}
use Rattle.poison_mem.specs.Flips.{Shows}
use Rattle.poison_mem.specs.Line.{cell}

-- what a read of a line gives: its cells, the state after it, and the events
pub record LineReading (S : Type 0) : Type 0 where
  pub cells : Line
  pub after : S
  pub events : List Event

-- a level over states S: how many words it has, and what a read, a put and a look at a line do
pub record Level (S : Type 0) : Type 0 where
  pub words : S → ℕ
  pub get : S → ℕ → LineReading S
  pub put : S → ℕ → Line → Storing S
  pub peek : S → ℕ → Line

-- the level has the words of the line
abbrev pub InRange : {S : Type 0} → Level S → S → ℕ → Type 0
InRange level s l = 8 * l + 7 < level.words s

-- no call on a line changes how many words there are
pub record LinesKeepWords {S : Type 0} (level : Level S) : Type 0 where
  pub get : (s : S) (l : ℕ) → level.words (level.get s l).after ≡ level.words s
  pub put : (s : S) (l : ℕ) (cells : Line) → level.words (level.put s l cells).after ≡ level.words s

-- the cells show the words of line l that f gives, or poison where q gives at least two flips
abbrev pub LineShows : (ℕ → ℕ) → (ℕ → ℕ) → ℕ → Line → Type 0
LineShows f q l cells = (i : ℕ) → i < 8 → Shows (f (8 * l + i)) (q (8 * l + i)) (cell cells i)

-- `valid s` holds of every reachable state. `stands s l f q` says that line l of the state s stands for the words
-- f, each flipped q times since it was last stored whole. A level keeps lines where what it shows of such a line is its
-- words, or poison only where two flips came, and each call keeps every line that stands.
pub record KeepsLines {S : Type 0} (level : Level S) (valid : S → Type 0) (stands : S → ℕ → (ℕ → ℕ) → (ℕ → ℕ) → Type 0) : Type 0 where
  pub whole : (s : S) → valid s → level.words s % 8 ≡ 0
  -- it depends on the line's own words alone, and more flips may have come
  pub same : (s : S) (l : ℕ) (f g q r : ℕ → ℕ) → stands s l f q
      → ((i : ℕ) → i < 8 → g (8 * l + i) ≡ f (8 * l + i)) → ((i : ℕ) → i < 8 → q (8 * l + i) ≤ r (8 * l + i)) → stands s l g r
  pub get_valid : (s : S) (l : ℕ) → valid s → InRange level s l → valid (level.get s l).after
  pub put_valid : (s : S) (l : ℕ) (cells : Line) → valid s → InRange level s l → valid (level.put s l cells).after
  pub get_shows : (s : S) (l : ℕ) (f q : ℕ → ℕ) → valid s → InRange level s l → stands s l f q → LineShows f q l (level.get s l).cells
  pub peek_shows : (s : S) (l : ℕ) (f q : ℕ → ℕ) → valid s → InRange level s l → stands s l f q → LineShows f q l (level.peek s l)
  pub get_keeps : (s : S) (l k : ℕ) (f q : ℕ → ℕ) → valid s → InRange level s l → stands s k f q → stands (level.get s l).after k f q
  -- a put keeps every other line that stands, and its own stands for what the cells show
  pub put_keeps : (s : S) (l k : ℕ) (cells : Line) (f q : ℕ → ℕ) → valid s → InRange level s l → k ≢ l → stands s k f q → stands (level.put s l cells).after k f q
  pub put_stands : (s : S) (l : ℕ) (cells : Line) (f q : ℕ → ℕ) → valid s → InRange level s l → LineShows f q l cells → stands (level.put s l cells).after l f q

-- each call keeps what holds of every reachable state; any flip but a third one keeps each line that stands, with one
-- flip more, and a scrub keeps it as it is
pub record CellsKeepLines {S : Type 0} (level : Level S) (calls : CellCalls S) (valid : S → Type 0) (stands : S → ℕ → (ℕ → ℕ) → (ℕ → ℕ) → Type 0) : Type 0 where
  pub load_valid : (s : S) (w value : ℕ) → valid s → w < level.words s → valid (calls.load s w value)
  pub strike_valid : (s : S) (w bit : ℕ) → valid s → w < level.words s → bit < 72 → valid (calls.strike s w bit)
  pub scrub_valid : (s : S) (w : ℕ) → valid s → w < level.words s → valid (calls.scrub s w).after
  pub set_cell_valid : (s : S) (w : ℕ) (state : CellState) → valid s → w < level.words s → state.count ≤ 3 → valid (calls.set_cell s w state)
  pub strike_keeps : (s : S) (w bit k : ℕ) (f q : ℕ → ℕ) → valid s → w < level.words s → bit < 72 → is_third (calls.cell s w) ≡ false
      → stands s k f q → stands (calls.strike s w bit) k f (raised_at q w)
  pub scrub_keeps : (s : S) (w k : ℕ) (f q : ℕ → ℕ) → valid s → w < level.words s → stands s k f q → stands (calls.scrub s w).after k f q

-- no read and no put of a line adds to a count
pub record LinesKeepCounts {S : Type 0} (level : Level S) (cell : S → ℕ → CellState) : Type 0 where
  pub get : (s : S) (l : ℕ) → CountsNoMore cell s (level.get s l).after
  pub put : (s : S) (l : ℕ) (cells : Line) → CountsNoMore cell s (level.put s l cells).after

-- a cell shows this word, or poison
abbrev pub ShowsOrPoison : ℕ → Cell → Type 0
ShowsOrPoison value (Good v) = v ≡ value
ShowsOrPoison value Poison = Unit {0}

-- poison comes only where at least two flips came
abbrev pub PoisonedTwice : ℕ → Cell → Type 0
PoisonedTwice flips (Good v) = Unit {0}
PoisonedTwice flips Poison = 2 ≤ flips

-- *Within*: what is shown of a line that stands is its words or poison. A read keeps every line that stands, a put every
-- other one, and its own stands for what the cells show.
pub record Within {S : Type 0} (level : Level S) (valid : S → Type 0) (stands : S → ℕ → (ℕ → ℕ) → (ℕ → ℕ) → Type 0) : Type 0 where
  pub get_shows : (s : S) (l : ℕ) (f q : ℕ → ℕ) → valid s → InRange level s l → stands s l f q → (i : ℕ) → i < 8 → ShowsOrPoison (f (8 * l + i)) (cell (level.get s l).cells i)
  pub peek_shows : (s : S) (l : ℕ) (f q : ℕ → ℕ) → valid s → InRange level s l → stands s l f q → (i : ℕ) → i < 8 → ShowsOrPoison (f (8 * l + i)) (cell (level.peek s l) i)
  pub get_keeps : (s : S) (l k : ℕ) (f q : ℕ → ℕ) → valid s → InRange level s l → stands s k f q → stands (level.get s l).after k f q
  pub put_keeps : (s : S) (l k : ℕ) (cells : Line) (f q : ℕ → ℕ) → valid s → InRange level s l → k ≢ l → stands s k f q → stands (level.put s l cells).after k f q
  pub put_stands : (s : S) (l : ℕ) (cells : Line) (f q : ℕ → ℕ) → valid s → InRange level s l → LineShows f q l cells → stands (level.put s l cells).after l f q

-- *Twice*: poison that is shown of a line that stands comes only where two flips came.
pub record Twice {S : Type 0} (level : Level S) (valid : S → Type 0) (stands : S → ℕ → (ℕ → ℕ) → (ℕ → ℕ) → Type 0) : Type 0 where
  pub get_poisons : (s : S) (l : ℕ) (f q : ℕ → ℕ) → valid s → InRange level s l → stands s l f q → (i : ℕ) → i < 8 → PoisonedTwice (q (8 * l + i)) (cell (level.get s l).cells i)
  pub peek_poisons : (s : S) (l : ℕ) (f q : ℕ → ℕ) → valid s → InRange level s l → stands s l f q → (i : ℕ) → i < 8 → PoisonedTwice (q (8 * l + i)) (cell (level.peek s l) i)
