-- What a hit, and what a miss, leaves of a list.
use Rattle.std.proofs.Common.{ℕ, ◌-◌, ◌≡◌, ◌∙◌, ◌∷◌, ◌%◌, ◌/◌, List, [], Option, Some, None, Bool, true, false, cond, arith, refl, sym, ap, length, take, drop, nat_lt, slice_index_or, slice_set}
use Rattle.std.specs.List.{slice_get}
use Rattle.std.specs.Option.{option_map, is_some}
use Rattle.std.proofs.lemmas.List.{set-get_or}
use Rattle.std.proofs.lemmas.Option.{slice_get-get_or, same_Some}
use Rattle.poison_mem.specs.declared.cell.Cell.{Cell}
use Rattle.poison_mem.specs.declared.line.Line.{Line}
use Rattle.poison_mem.specs.declared.cache_state.Held.{Held}
use Rattle.poison_mem.specs.Bus.{Storing}
use Rattle.poison_mem.specs.Level.{Level}
use Rattle.poison_mem.specs.Line.{cell, with_cell}
use Rattle.poison_mem.specs.Merge.{merged_cell}
use Rattle.poison_cache.specs.LogTo.{LogTo}
use Rattle.poison_cache.specs.SoundLaws.{none_some, entry_line}
use Rattle.poison_cache.specs.Recent.{entry_of, without, renewed_as, with_cells, stored_into, dirty_one, dirty_victim_of, with_room}
use Rattle.poison_cache.specs.Cache.{Shown, evicted_as, evicted, without_victim, room_as, room_in, get_as, put_as, peek_as}

-- no entry, where nothing was found of it
pub none_found : {X : Type 0} (f : Held → X) (entry : Option Held) → None ≡ option_map f entry → entry ≡ None
none_found f None missed = refl
none_found f (Some h) missed = cc

pub some_found : {X : Type 0} (f : Held → X) (entry : Option Held) (x : X) → Some x ≡ option_map f entry → is_some entry ≡ true
some_found f None x found = cc
some_found f (Some h) x found = refl

pub none_held : (entry : Option Held) → is_some entry ≡ false → entry ≡ None
none_held None missed = refl
none_held (Some h) missed = cc

-- the lists stay at a miss
pub lists_stay : (lists : List (List Held)) (n l : ℕ) (renew : Held → Held) (entry : Option Held) → entry ≡ None
    → slice_set lists n (renewed_as entry renew l (slice_index_or lists n [])) ≡ lists
lists_stay lists n l renew entry missed = rw missed (set-get_or lists n [])

-- what a full list evicts, and what is left of it
module _ {S : Type 0} (level : Level S) (log_to : LogTo) (ways : ℕ) (below : S) where
  without_victim-entries : (last : Option Held) (hs : List Held) → slice_get hs (length hs - 1) ≡ last
      → (without_victim last level log_to hs below).entries ≡ take (length hs - 1) hs
  without_victim-entries None [] at_last = refl
  without_victim-entries None (h ∷ hs) at_last = absurd (none_some (sym at_last ∙ slice_get-get_or (h ∷ hs) (length (h ∷ hs) - 1) h (omega arith)))
  without_victim-entries (Some d) hs at_last = refl

  room_as-entries : (has_room : Bool) (hs : List Held)
      → (room_as has_room level log_to hs below).entries ≡ cond has_room hs (take (length hs - 1) hs)
  room_as-entries true hs = refl
  room_as-entries false hs = without_victim-entries (slice_get hs (length hs - 1)) hs refl

  pub room_entries : (hs : List Held) → (room_in level log_to ways hs below).entries ≡ with_room ways hs
  unfolding room_in
  room_entries hs = room_as-entries (nat_lt (length hs) ways) hs

-- room where there is something to write back, and where there is not
module _ {S : Type 0} (level : Level S) (log_to : LogTo) (ways : ℕ) (hs : List Held) (below : S) where
  evicted_dirty : (dirty : Bool) (h v : Held) → cond dirty (Some h) None ≡ Some v → evicted_as dirty level log_to h below ≡ evicted_as true level log_to v below
  evicted_dirty true h v found = ap (λ x. evicted_as true level log_to x below) (same_Some h v found)
  evicted_dirty false h v found = cc

  evicted_clean : (dirty : Bool) (h : Held) → cond dirty (Some h) None ≡ None → evicted_as dirty level log_to h below ≡ record { after = below; events = [] }
  evicted_clean true h none = cc
  evicted_clean false h none = refl

  room_dirty : (has_room : Bool) (last : Option Held) (v : Held) → slice_get hs (length hs - 1) ≡ last → dirty_one (cond has_room None last) ≡ Some v
      → ((room_as has_room level log_to hs below).below ≡ (evicted_as true level log_to v below).after)
      × ((room_as has_room level log_to hs below).events ≡ (evicted_as true level log_to v below).events)
  unfolding evicted
  room_dirty true last v at_last found = cc
  room_dirty false None v at_last found = cc
  room_dirty false (Some h) v at_last found =
      let same = evicted_dirty h.dirty h v found in
      rw at_last (ap (λ (e : Storing S). e.after) same, ap (λ (e : Storing S). e.events) same)

  room_clean : (has_room : Bool) (last : Option Held) → slice_get hs (length hs - 1) ≡ last → dirty_one (cond has_room None last) ≡ None
      → ((room_as has_room level log_to hs below).below ≡ below) × ((room_as has_room level log_to hs below).events ≡ [])
  unfolding evicted
  room_clean true last at_last none = (refl, refl)
  room_clean false None at_last none = rw at_last (refl, refl)
  room_clean false (Some h) at_last none =
      let same = evicted_clean h.dirty h none in
      rw at_last (ap (λ (e : Storing S). e.after) same, ap (λ (e : Storing S). e.events) same)

  pub dirty_room : (v : Held) → dirty_victim_of ways hs ≡ Some v
      → ((room_in level log_to ways hs below).below ≡ (evicted_as true level log_to v below).after)
      × ((room_in level log_to ways hs below).events ≡ (evicted_as true level log_to v below).events)
  unfolding room_in
  dirty_room v found = room_dirty (nat_lt (length hs) ways) (slice_get hs (length hs - 1)) v refl found

  pub clean_room : dirty_victim_of ways hs ≡ None
      → ((room_in level log_to ways hs below).below ≡ below) × ((room_in level log_to ways hs below).events ≡ [])
  unfolding room_in
  clean_room none = room_clean (nat_lt (length hs) ways) (slice_get hs (length hs - 1)) refl none

-- what a hit and a miss leave
module _ {S : Type 0} (level : Level S) (log_to : LogTo) (ways : ℕ) (hs : List Held) (below : S) (l : ℕ) where
  pub hit_line : (entry : Option Held) (cells : Line) → Some cells ≡ option_map (λ h. h.cells) entry → cells ≡ (get_as entry level log_to ways hs below l).cells
  hit_line None cells found = cc
  hit_line (Some h) cells found = cc

  pub hit_word : (i : ℕ) (entry : Option Held) (x : Cell) → Some x ≡ option_map (λ h. cell h.cells i) entry → x ≡ cell (get_as entry level log_to ways hs below l).cells i
  hit_word i None x found = cc
  hit_word i (Some h) x found = cc

  pub hit_entries : (entry : Option Held) → is_some entry ≡ true → renewed_as entry (λ h. h) l hs ≡ (get_as entry level log_to ways hs below l).entries
  hit_entries None held = cc
  hit_entries (Some h) held = refl

  pub hit_below : (entry : Option Held) → is_some entry ≡ true → below ≡ (get_as entry level log_to ways hs below l).below
  hit_below None held = cc
  hit_below (Some h) held = refl

  pub hit_events : (entry : Option Held) → is_some entry ≡ true → (get_as entry level log_to ways hs below l).events ≡ []
  hit_events None held = cc
  hit_events (Some h) held = refl

  pub miss_entries : (entry : Option Held) (cells : Line) → entry ≡ None → cells ≡ (get_as None level log_to ways hs below l).cells
      → record { line = l; dirty = false; cells = cells } ∷ with_room ways hs ≡ (get_as entry level log_to ways hs below l).entries
  miss_entries None cells missed same =
      ap (λ c. clean_of c ∷ with_room ways hs) same
      ∙ ap (λ es. clean_of (level.get (room_in level log_to ways hs below).below l).cells ∷ es) (sym (room_entries level log_to ways below hs))
    where
      clean_of : Line → Held
      clean_of c = record { line = l; dirty = false; cells = c }
  miss_entries (Some h) cells missed same = cc

  module _ (cells : Line) where
    pub put_hit_entries : (entry : Option Held) → entry_of l hs ≡ entry → is_some entry ≡ true
        → renewed_as entry (λ h. with_cells h cells) l hs ≡ (put_as entry level log_to ways hs below l cells).entries
    put_hit_entries None found held = cc
    put_hit_entries (Some h) found held = ap (λ n. dirty_of n ∷ without l hs) (entry_line l hs h found)
      where
        dirty_of : ℕ → Held
        dirty_of n = record { line = n; dirty = true; cells = cells }

    pub put_hit_below : (entry : Option Held) → is_some entry ≡ true → below ≡ (put_as entry level log_to ways hs below l cells).below
    put_hit_below None held = cc
    put_hit_below (Some h) held = refl

    pub put_hit_events : (entry : Option Held) → is_some entry ≡ true → (put_as entry level log_to ways hs below l cells).events ≡ []
    put_hit_events None held = cc
    put_hit_events (Some h) held = refl

    pub put_miss_entries : (entry : Option Held) → entry ≡ None
        → record { line = l; dirty = true; cells = cells } ∷ with_room ways hs ≡ (put_as entry level log_to ways hs below l cells).entries
    put_miss_entries None missed = ap (λ es. dirty_one ∷ es) (sym (room_entries level log_to ways below hs))
      where
        dirty_one : Held
        dirty_one = record { line = l; dirty = true; cells = cells }
    put_miss_entries (Some h) missed = cc

-- what a store leaves of a list, after a get of its line
abbrev pub stored_front : {S : Type 0} → Shown S → ℕ → ℕ → ℕ → List Held
stored_front shown w v mask =
    record { line = w / 8; dirty = true; cells = with_cell shown.cells (w % 8) (merged_cell (cell shown.cells (w % 8)) v mask) } ∷ drop 1 shown.entries

module _ {S : Type 0} (level : Level S) (log_to : LogTo) (ways : ℕ) (hs : List Held) (below : S) (w v mask : ℕ) where
  pub store_hit_entries : (entry : Option Held) → entry_of (w / 8) hs ≡ entry → is_some entry ≡ true
      → renewed_as entry (stored_into (w % 8) v mask) (w / 8) hs ≡ stored_front (get_as entry level log_to ways hs below (w / 8)) w v mask
  store_hit_entries None found held = cc
  store_hit_entries (Some h) found held = ap (λ n. dirty_of n ∷ without (w / 8) hs) (entry_line (w / 8) hs h found)
    where
      dirty_of : ℕ → Held
      dirty_of n = record { line = n; dirty = true; cells = with_cell h.cells (w % 8) (merged_cell (cell h.cells (w % 8)) v mask) }

  pub store_miss_entries : (entry : Option Held) (cells : Line) → entry ≡ None → cells ≡ (get_as None level log_to ways hs below (w / 8)).cells
      → record { line = w / 8; dirty = true; cells = with_cell cells (w % 8) (merged_cell (cell cells (w % 8)) v mask) } ∷ with_room ways hs
      ≡ stored_front (get_as entry level log_to ways hs below (w / 8)) w v mask
  store_miss_entries None cells missed same =
      ap (λ c. dirty_of c ∷ with_room ways hs) same
      ∙ ap (λ es. dirty_of (level.get (room_in level log_to ways hs below).below (w / 8)).cells ∷ es) (sym (room_entries level log_to ways below hs))
    where
      dirty_of : Line → Held
      dirty_of c = record { line = w / 8; dirty = true; cells = with_cell c (w % 8) (merged_cell (cell c (w % 8)) v mask) }
  store_miss_entries (Some h) cells missed same = cc

pub peeked_line : {S : Type 0} (level : Level S) (below : S) (l : ℕ) (entry : Option Held) (cells : Line) → Some cells ≡ option_map (λ h. h.cells) entry → cells ≡ peek_as entry level below l
peeked_line level below l None cells found = cc
peeked_line level below l (Some h) cells found = cc
