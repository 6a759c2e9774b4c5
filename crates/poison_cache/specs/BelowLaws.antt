-- What each call on a line of the level below keeps, each call on a line of a cache keeps.
use Rattle.std.proofs.Common.{ℕ, ◌-◌, ◌/◌, List, Option, None, Some, length, Bool, true, false, nat_lt}
use Rattle.std.specs.List.{slice_get}
use Rattle.poison_mem.specs.declared.line.Line.{Line}
use Rattle.poison_mem.specs.Level.{Level}
use Rattle.poison_mem.specs.declared.cache_state.Held.{Held}
use Rattle.poison_cache.specs.LogTo.{LogTo}
use Rattle.poison_cache.specs.Recent.{entry_of}
use Rattle.poison_cache.specs.Below.{IsKeptBelow}
use Rattle.poison_cache.specs.Cache.{CachedLines, evicted_as, evicted, without_victim, room_as, room_in, get_as, get_in, put_as, put_in, cache_get, cache_put, cache_store, store_in, list_of}

module _ {S : Type 0} (level : Level S) (R : S → S → Type 0) (is_kept : IsKeptBelow level R) where
  evicted_as-kept : (dirty : Bool) (log_to : LogTo) (h : Held) (below : S) → R below (evicted_as dirty level log_to h below).after
  evicted_as-kept true log_to h below = is_kept.put below h.line h.cells
  evicted_as-kept false log_to h below = is_kept.stays below

  without_victim-kept : (last : Option Held) (log_to : LogTo) (entries : List Held) (below : S) → R below (without_victim last level log_to entries below).below
  unfolding evicted
  without_victim-kept None log_to entries below = is_kept.stays below
  without_victim-kept (Some h) log_to entries below = evicted_as-kept h.dirty log_to h below

  room_as-kept : (has_room : Bool) (log_to : LogTo) (entries : List Held) (below : S) → R below (room_as has_room level log_to entries below).below
  room_as-kept true log_to entries below = is_kept.stays below
  room_as-kept false log_to entries below = without_victim-kept (slice_get entries (length entries - 1)) log_to entries below

  pub room-kept : (log_to : LogTo) (ways : ℕ) (entries : List Held) (below : S) → R below (room_in level log_to ways entries below).below
  unfolding room_in
  room-kept log_to ways entries below = room_as-kept (nat_lt (length entries) ways) log_to entries below

  get_as-kept : (entry : Option Held) (log_to : LogTo) (ways : ℕ) (entries : List Held) (below : S) (l : ℕ) → R below (get_as entry level log_to ways entries below l).below
  get_as-kept (Some h) log_to ways entries below l = is_kept.stays below
  get_as-kept None log_to ways entries below l = is_kept.joins below _ _ (room-kept log_to ways entries below) (is_kept.get (room_in level log_to ways entries below).below l)

  pub get-kept : (log_to : LogTo) (ways : ℕ) (entries : List Held) (below : S) (l : ℕ) → R below (get_in level log_to ways entries below l).below
  unfolding get_in
  get-kept log_to ways entries below l = get_as-kept (entry_of l entries) log_to ways entries below l

  put_as-kept : (entry : Option Held) (log_to : LogTo) (ways : ℕ) (entries : List Held) (below : S) (l : ℕ) (cells : Line) → R below (put_as entry level log_to ways entries below l cells).below
  put_as-kept (Some h) log_to ways entries below l cells = is_kept.stays below
  put_as-kept None log_to ways entries below l cells = room-kept log_to ways entries below

  pub put-kept : (log_to : LogTo) (ways : ℕ) (entries : List Held) (below : S) (l : ℕ) (cells : Line) → R below (put_in level log_to ways entries below l cells).below
  unfolding put_in
  put-kept log_to ways entries below l cells = put_as-kept (entry_of l entries) log_to ways entries below l cells

  -- the calls of the whole cache
  pub cache_get-kept : (sets ways : ℕ) (s : CachedLines S) (l : ℕ) → R s.below (cache_get sets ways level s l).after.below
  unfolding cache_get
  cache_get-kept sets ways s l = get-kept s.log_to ways (list_of sets s l) s.below l

  pub cache_put-kept : (sets ways : ℕ) (s : CachedLines S) (l : ℕ) (cells : Line) → R s.below (cache_put sets ways level s l cells).after.below
  unfolding cache_put
  cache_put-kept sets ways s l cells = put-kept s.log_to ways (list_of sets s l) s.below l cells

  pub cache_store-kept : (sets ways : ℕ) (s : CachedLines S) (w v mask : ℕ) → R s.below (cache_store sets ways level s w v mask).after.below
  unfolding cache_store store_in
  cache_store-kept sets ways s w v mask = get-kept s.log_to ways (list_of sets s (w / 8)) s.below (w / 8)
