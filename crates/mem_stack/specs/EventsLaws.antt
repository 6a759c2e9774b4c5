-- No event of the stack is critical.
use Rattle.std.proofs.Common.{ℕ, zero, suc, ◌+◌, ◌-◌, ◌*◌, ◌/◌, Bool, true, false, List, length, nat_lt, Option, Some, None}
use Rattle.std.specs.Prelude.{slice_get}
use Rattle.poison_mem.specs.declared.cell.Cell.{Cell}
use Rattle.poison_mem.specs.declared.cell.Cell.TheVariants.{Good, Poison}
use Rattle.poison_mem.specs.declared.cache_state.Held.{Held}
use Rattle.poison_mem.specs.declared.line.Line.{Line}
use Rattle.poison_mem.specs.declared.record_id.RecordId.TheVariants.{Scrub}
use Rattle.poison_mem.specs.Bus.{BusMeaning}
use Rattle.poison_mem.specs.Flips.{FlipMeaning}
use Rattle.poison_mem.specs.Level.{Level}
use Rattle.poison_mem.specs.Line.{cell}
pub use Rattle.ecc_memory.specs.EventsLaws.{IsMild, AreMild, both_mild}
use Rattle.ecc_memory.specs.EventsLaws.{word_mild, reads_mild}
use Rattle.ecc_memory.specs.Lines.{memory_level}
use Rattle.ecc_memory.specs.Memory.{cell_at}
use Rattle.poison_cache.specs.LogTo.{LogTo}
use Rattle.poison_cache.specs.Cache.{CachedLines, Room, cell_event, poison_events, evicted_as, evicted, without_victim, room_as, room_in, get_as, get_in, put_as, put_in, list_of, cache_get, cache_put, cache_level, store_in, cache_store}
use Rattle.poison_cache.specs.Recent.{entry_of}
use Rattle.mem_stack.specs.declared.stack.TheConstants.{L1_SETS, L1_WAYS, L2_SETS, L2_WAYS}
use Rattle.mem_stack.specs.Stack.{second_level, stack_meaning, stack_flips}

-- no read, store or scrub of a bus logs a critical event
pub record LogsMildly {B : Type 0} (bus : BusMeaning B) (flips : FlipMeaning B) : Type 0 where
  pub read : (b : B) (w : ℕ) → AreMild (bus.read b w).events
  pub store : (b : B) (w value mask : ℕ) → AreMild (bus.store b w value mask).events
  pub scrub : (b : B) (w : ℕ) → AreMild (flips.cells.scrub b w).events

-- ---- a cache

-- no read and no put of a line logs a critical event
record LinesLogMildly {S : Type 0} (level : Level S) : Type 0 where
  get : (s : S) (l : ℕ) → AreMild (level.get s l).events
  put : (s : S) (l : ℕ) (cells : Line) → AreMild (level.put s l cells).events

memory_mild : LinesLogMildly memory_level
memory_mild = record { get = λ cells l. reads_mild cells l 8; put = λ cells l line. tt }

cell_mild : (log_to : LogTo) (w : ℕ) (c : Cell) → AreMild (cell_event log_to w c)
cell_mild log_to w (Good v) = tt
cell_mild log_to w Poison = ((λ h. cc), tt)

poison_mild : (log_to : LogTo) (l : ℕ) (cells : Line) (n : ℕ) → AreMild (poison_events log_to l cells n)
poison_mild log_to l cells zero = tt
poison_mild log_to l cells (suc n) =
    both_mild (poison_events log_to l cells n) (cell_event log_to (8 * l + n) (cell cells n)) (poison_mild log_to l cells n) (cell_mild log_to (8 * l + n) (cell cells n))

module _ {S : Type 0} (level : Level S) (mild : LinesLogMildly level) (log_to : LogTo) where
  evicted_mild : (dirty : Bool) (h : Held) (below : S) → AreMild (evicted_as dirty level log_to h below).events
  evicted_mild true h below =
      both_mild (poison_events log_to h.line h.cells 8) (level.put below h.line h.cells).events (poison_mild log_to h.line h.cells 8) (mild.put below h.line h.cells)
  evicted_mild false h below = tt

  victim_mild : (victim : Option Held) (entries : List Held) (below : S) → AreMild (without_victim victim level log_to entries below).events
  unfolding evicted
  victim_mild None entries below = tt
  victim_mild (Some h) entries below = evicted_mild h.dirty h below

  room_mild : (ways : ℕ) (entries : List Held) (below : S) → AreMild (room_in level log_to ways entries below).events
  unfolding room_in
  room_mild ways entries below = by_room (nat_lt (length entries) ways)
    where
      by_room : (has_room : Bool) → AreMild (room_as has_room level log_to entries below).events
      by_room true = tt
      by_room false = victim_mild (slice_get entries (length entries - 1)) entries below

  get_mild : (ways : ℕ) (entries : List Held) (below : S) (l : ℕ) → AreMild (get_in level log_to ways entries below l).events
  unfolding get_in
  get_mild ways entries below l = by_entry (entry_of l entries)
    where
      room : Room S
      room = room_in level log_to ways entries below

      by_entry : (held : Option Held) → AreMild (get_as held level log_to ways entries below l).events
      by_entry (Some h) = tt
      by_entry None = both_mild room.events (level.get room.below l).events (room_mild ways entries below) (mild.get room.below l)

  put_mild : (ways : ℕ) (entries : List Held) (below : S) (l : ℕ) (cells : Line) → AreMild (put_in level log_to ways entries below l cells).events
  unfolding put_in
  put_mild ways entries below l cells = by_entry (entry_of l entries)
    where
      by_entry : (held : Option Held) → AreMild (put_as held level log_to ways entries below l cells).events
      by_entry (Some h) = tt
      by_entry None = room_mild ways entries below

module _ {S : Type 0} (level : Level S) (mild : LinesLogMildly level) (sets ways : ℕ) where
  cache_get_mild : (s : CachedLines S) (l : ℕ) → AreMild (cache_get sets ways level s l).events
  unfolding cache_get
  cache_get_mild s l = get_mild level mild s.log_to ways (list_of sets s l) s.below l

  cache_put_mild : (s : CachedLines S) (l : ℕ) (cells : Line) → AreMild (cache_put sets ways level s l cells).events
  unfolding cache_put
  cache_put_mild s l cells = put_mild level mild s.log_to ways (list_of sets s l) s.below l cells

  cache_store_mild : (s : CachedLines S) (w value mask : ℕ) → AreMild (cache_store sets ways level s w value mask).events
  unfolding cache_store store_in
  cache_store_mild s w value mask = get_mild level mild s.log_to ways (list_of sets s (w / 8)) s.below (w / 8)

  cache_mild : LinesLogMildly (cache_level sets ways level)
  cache_mild = record { get = cache_get_mild; put = cache_put_mild }

-- ---- the stack

second_mild : LinesLogMildly second_level
second_mild = cache_mild memory_level memory_mild L2_SETS L2_WAYS

pub stack_logs_mildly : LogsMildly stack_meaning stack_flips
stack_logs_mildly = record {
  read = λ s w. cache_get_mild second_level second_mild L1_SETS L1_WAYS s (w / 8);
  store = λ s w value mask. cache_store_mild second_level second_mild L1_SETS L1_WAYS s w value mask;
  scrub = λ s w. word_mild Scrub w (cell_at s.below.below w);
}
