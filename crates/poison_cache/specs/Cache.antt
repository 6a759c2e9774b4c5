-- A write-back cache over any level: lists of the most recently used lines (its events and its poison: RERI 1.0, data poisoning).
use Rattle.std.specs.Prelude.{ℕ, ◌+◌, ◌-◌, ◌*◌, ◌%◌, ◌/◌, List, [], ◌∷◌, ◌++◌, Option, None, Some, Bool, true, false, length, take, drop, nat_lt, zero, suc, slice_get}
use Rattle.poison_mem.specs.declared.cell.Cell.{Cell}
use Rattle.poison_mem.specs.declared.cell.Cell.TheVariants.{Good, Poison}
use Rattle.poison_mem.specs.declared.line.Line.{Line}
use Rattle.poison_mem.specs.declared.cache_state.Held.{Held}
use Rattle.poison_mem.specs.declared.event.Event.{Event}
use Rattle.poison_mem.specs.declared.event.EventKind.TheVariants.{PoisonWrittenBack}
use Rattle.ras_bits.specs.Map.{word_address}
use Rattle.poison_mem.specs.Event.{event_of}
use Rattle.poison_mem.specs.Line.{cell, with_cell}
use Rattle.poison_mem.specs.Merge.{merged_cell}
use Rattle.poison_mem.specs.Cells.{CellCalls}
use Rattle.std.specs.List.{AllByRecursion}
use Rattle.poison_mem.specs.Level.{Level, LineReading, InRange}
use Rattle.poison_mem.specs.Bus.{Storing}
use Rattle.poison_cache.specs.LogTo.{LogTo}
use Rattle.poison_cache.specs.Recent.{entry_of, without, line_list, with_line_list}

-- a cache over a level with states S: its lists of entries, the most recent first, where it logs, and the level below
pub record CachedLines (S : Type 0) : Type 0 where
  pub lists : List (List Held)
  pub log_to : LogTo
  pub below : S

-- the event of a poisoned word that is written back
abbrev pub write_back_event : LogTo → ℕ → Event
write_back_event log_to word = event_of PoisonWrittenBack log_to.bank log_to.rec (word_address word)

-- none for a good cell, one for poison
abbrev pub cell_event : LogTo → ℕ → Cell → List Event
cell_event log_to word (Good v) = []
cell_event log_to word Poison = write_back_event log_to word ∷ []

-- one event for each poisoned word of the first n of a line, in rising order
abbrev pub poison_events : LogTo → ℕ → Line → ℕ → List Event
poison_events log_to l cells zero = []
poison_events log_to l cells (suc n) = poison_events log_to l cells n ++ cell_event log_to (8 * l + n) (cell cells n)

-- the level below after an entry was evicted: a dirty one is written back, after its events
abbrev pub evicted_as : {S : Type 0} → Bool → Level S → LogTo → Held → S → Storing S
evicted_as true level log_to h below =
    let after = level.put below h.line h.cells in
    record { after = after.after; events = poison_events log_to h.line h.cells 8 ++ after.events }
evicted_as false level log_to h below = record { after = below; events = [] }

-- a line is given up: a dirty one is written back
unfoldable pub evicted : {S : Type 0} → Level S → LogTo → Held → S → Storing S
evicted level log_to h below = evicted_as h.dirty level log_to h below

-- the lines of these entries are in the range of the level below
abbrev pub AreInRange : {S : Type 0} → Level S → S → List Held → Type 0
AreInRange level below entries = AllByRecursion (λ h. InRange level below h.line) entries

-- a list and the level below, with the events on the way
pub record Room (S : Type 0) : Type 0 where
  pub entries : List Held
  pub below : S
  pub events : List Event

-- nothing is done
abbrev pub unchanged : {S : Type 0} → List Held → S → Room S
unchanged entries below = record { entries = entries; below = below; events = [] }

-- the victim of a full list is its last entry
abbrev pub without_victim : {S : Type 0} → Option Held → Level S → LogTo → List Held → S → Room S
without_victim None level log_to entries below = unchanged entries below
without_victim (Some h) level log_to entries below =
    let after = evicted level log_to h below in
    record { entries = take (length entries - 1) entries; below = after.after; events = after.events }

-- where the list has room nothing is done, else its victim is evicted
abbrev pub room_as : {S : Type 0} → Bool → Level S → LogTo → List Held → S → Room S
room_as true level log_to entries below = unchanged entries below
room_as false level log_to entries below = without_victim (slice_get entries (length entries - 1)) level log_to entries below

-- room for one more entry: a full list evicts its last
unfoldable pub room_in : {S : Type 0} → Level S → LogTo → ℕ → List Held → S → Room S
room_in level log_to ways entries below = room_as (nat_lt (length entries) ways) level log_to entries below

-- what a list and the level below it show for a line
pub record Shown (S : Type 0) : Type 0 where
  pub cells : Line
  pub entries : List Held
  pub below : S
  pub events : List Event

-- a hit moves the entry to the front; a miss makes room, gets the line from below, and puts it in front, clean
abbrev pub get_as : {S : Type 0} → Option Held → Level S → LogTo → ℕ → List Held → S → ℕ → Shown S
get_as (Some h) level log_to ways entries below l = record { cells = h.cells; entries = h ∷ without l entries; below = below; events = [] }
get_as None level log_to ways entries below l =
    let room = room_in level log_to ways entries below in
    let got = level.get room.below l in
    record {
      cells = got.cells;
      entries = record { line = l; dirty = false; cells = got.cells } ∷ room.entries;
      below = got.after;
      events = room.events ++ got.events;
    }

-- a line is read in its set: a hit moves it to the front, a miss reads it from below
unfoldable pub get_in : {S : Type 0} → Level S → LogTo → ℕ → List Held → S → ℕ → Shown S
get_in level log_to ways entries below l = get_as (entry_of l entries) level log_to ways entries below l

-- the cells are put in front, dirty, after room was made on a miss
abbrev pub put_as : {S : Type 0} → Option Held → Level S → LogTo → ℕ → List Held → S → ℕ → Line → Room S
put_as (Some h) level log_to ways entries below l cells = record { entries = record { line = l; dirty = true; cells = cells } ∷ without l entries; below = below; events = [] }
put_as None level log_to ways entries below l cells =
    let room = room_in level log_to ways entries below in
    record { entries = record { line = l; dirty = true; cells = cells } ∷ room.entries; below = room.below; events = room.events }

-- the cells of a line are put into its set, by whether it is held
unfoldable pub put_in : {S : Type 0} → Level S → LogTo → ℕ → List Held → S → ℕ → Line → Room S
put_in level log_to ways entries below l cells = put_as (entry_of l entries) level log_to ways entries below l cells

-- the list of a line in the state
abbrev pub list_of : {S : Type 0} → ℕ → CachedLines S → ℕ → List Held
list_of sets s l = line_list sets s.lists l

-- the state with another list for a line, and another state below
abbrev pub with_list : {S : Type 0} → ℕ → CachedLines S → ℕ → List Held → S → CachedLines S
with_list sets s l entries below = record { lists = with_line_list sets s.lists l entries; log_to = s.log_to; below = below }

-- a read of a line
unfoldable pub cache_get : {S : Type 0} → ℕ → ℕ → Level S → CachedLines S → ℕ → LineReading (CachedLines S)
cache_get sets ways level s l =
    let shown = get_in level s.log_to ways (list_of sets s l) s.below l in
    record { cells = shown.cells; after = with_list sets s l shown.entries shown.below; events = shown.events }

-- a put of a line
unfoldable pub cache_put : {S : Type 0} → ℕ → ℕ → Level S → CachedLines S → ℕ → Line → Storing (CachedLines S)
cache_put sets ways level s l cells =
    let room = put_in level s.log_to ways (list_of sets s l) s.below l cells in
    record { after = with_list sets s l room.entries room.below; events = room.events }

-- the held cells, or those that the level below shows
abbrev pub peek_as : {S : Type 0} → Option Held → Level S → S → ℕ → Line
peek_as (Some h) level below l = h.cells
peek_as None level below l = level.peek below l

-- the held cells, else those of the level below
unfoldable pub cache_peek : {S : Type 0} → ℕ → Level S → CachedLines S → ℕ → Line
cache_peek sets level s l = peek_as (entry_of l (list_of sets s l)) level s.below l

-- a cache over a level is a level
abbrev pub cache_level : {S : Type 0} → ℕ → ℕ → Level S → Level (CachedLines S)
cache_level sets ways level = record {
  words = λ s. level.words s.below;
  get = cache_get sets ways level;
  put = cache_put sets ways level;
  peek = cache_peek sets level;
}

-- the calls on the cells of the memory at the bottom: the lists stay
abbrev pub cache_calls : {S : Type 0} → CellCalls S → CellCalls (CachedLines S)
cache_calls calls = record {
  load = λ s w v. record s { below = calls.load s.below w v };
  strike = λ s w bit. record s { below = calls.strike s.below w bit };
  scrub = λ s w. (let after = calls.scrub s.below w in record { after = record s { below = after.after }; events = after.events });
  cell = λ s w. calls.cell s.below w;
  set_cell = λ s w state. record s { below = calls.set_cell s.below w state };
}

-- a store: a get, which leaves the line's entry in front, then that entry again with one cell merged, dirty
unfoldable pub store_in : {S : Type 0} → Level S → LogTo → ℕ → List Held → S → ℕ → ℕ → ℕ → Room S
store_in level log_to ways entries below w v mask =
    let l = w / 8 in
    let shown = get_in level log_to ways entries below l in
    let cells = with_cell shown.cells (w % 8) (merged_cell (cell shown.cells (w % 8)) v mask) in
    record { entries = record { line = l; dirty = true; cells = cells } ∷ drop 1 shown.entries; below = shown.below; events = shown.events }

-- a store of the bytes of a mask into a word
unfoldable pub cache_store : {S : Type 0} → ℕ → ℕ → Level S → CachedLines S → ℕ → ℕ → ℕ → Storing (CachedLines S)
cache_store sets ways level s w v mask =
    let room = store_in level s.log_to ways (list_of sets s (w / 8)) s.below w v mask in
    record { after = with_list sets s (w / 8) room.entries room.below; events = room.events }
