-- A cache over a level keeps what its lines stand for, as the level does.
use Rattle.std.proofs.Common.{ℕ, ◌+◌, ◌-◌, ◌*◌, ◌%◌, ◌<◌, ◌≤◌, ◌≡◌, ◌≢◌, ◌∙◌, ◌⊎◌, inl, inr, sym, ap, refl, subst, List, [], ◌∷◌, Option, None, Some, length, take, Bool, true, false, eqb, arith, nat_lt, slice_index_or, slice_set, replicate, drop, ◌/◌}
use Rattle.std.specs.List.{slice_get}
use Rattle.std.proofs.lemmas.Bool.Decides.{eqb_tells}
use Rattle.std.proofs.lemmas.List.{get_or-set_other, get_or-set_same}
use Rattle.poison_mem.specs.declared.cache_state.Held.{Held}
use Rattle.poison_mem.specs.declared.line.Line.{Line}
use Rattle.poison_mem.specs.ListLaws.{same_all}
use Rattle.poison_mem.specs.Cells.{CellCalls, CellsKeepCounts, is_third, raised_at}
use Rattle.poison_mem.specs.CellsLaws.{raised-up}
use Rattle.poison_mem.specs.Level.{Level, InRange, LinesKeepWords, LineShows, KeepsLines, CellsKeepLines}
use Rattle.poison_mem.specs.Flips.{stored_at, renewed_at}
use Rattle.poison_mem.specs.LineLaws.{line-same, stored-line, stored-other, renewed-other}
use Rattle.poison_cache.specs.LogTo.{LogTo}
use Rattle.poison_cache.specs.Recent.{entry_of, without}
use Rattle.poison_cache.specs.Cache.{CachedLines, Room, evicted_as, evicted, without_victim, room_as, room_in, get_as, get_in, put_as, put_in, peek_as, cache_get, cache_put, cache_peek, cache_level, cache_calls, cache_store, store_in, list_of, with_list}
use Rattle.poison_cache.specs.Sound.{IsHeldIn, IsSoundList, IsSoundCache}
use Rattle.poison_cache.specs.SoundLaws.{none_some, entry_line, sound-found, get-sound, put-sound, get_as-few, put_as-few, sound-with}
use Rattle.poison_cache.specs.Standing.{EntryStands, CacheStands, CacheValid}
use Rattle.poison_cache.specs.RecentLaws.{moved, front_same, front_other, found_at, gone_before, other_set, take_other, is_last, without_other}
use Rattle.poison_cache.specs.WordsLaws.{room_words, get_words, put_words}

true_false : true ≡ false → ⊥
true_false e = cc

-- each line of a cache that holds none stands for what it does below
pub empty-stands : {S : Type 0} (stands : S → ℕ → (ℕ → ℕ) → (ℕ → ℕ) → Type 0) (sets : ℕ) (log_to : LogTo) (below : S) (l : ℕ) (f q : ℕ → ℕ)
    → stands below l f q → CacheStands stands sets (record { lists = replicate sets []; log_to = log_to; below = below }) l f q
empty-stands stands sets log_to below l f q it = subst (λ entries. EntryStands stands (entry_of l entries) below l f q) (sym (same_all sets (l % sets) [])) it

module _ {S : Type 0} (level : Level S) (valid : S → Type 0) (stands : S → ℕ → (ℕ → ℕ) → (ℕ → ℕ) → Type 0) (keeps_words : LinesKeepWords level) (keeps_lines : KeepsLines level valid stands) where
  module _ (log_to : LogTo) where
    evicted_as-valid : (dirty : Bool) (h : Held) (below : S) → valid below → InRange level below h.line → valid (evicted_as dirty level log_to h below).after
    evicted_as-valid true h below ok in_range = keeps_lines.put_valid below h.line h.cells ok in_range
    evicted_as-valid false h below ok in_range = ok

    evicted_as-keeps : (dirty : Bool) (h : Held) (below : S) (k : ℕ) (f q : ℕ → ℕ) → valid below → InRange level below h.line → k ≢ h.line
        → stands below k f q → stands (evicted_as dirty level log_to h below).after k f q
    evicted_as-keeps true h below k f q ok in_range other it = keeps_lines.put_keeps below h.line k h.cells f q ok in_range other it
    evicted_as-keeps false h below k f q ok in_range other it = it

    evicted_as-stands : (dirty : Bool) (h : Held) (below : S) (f q : ℕ → ℕ) → valid below → InRange level below h.line
        → LineShows f q h.line h.cells → (dirty ≡ false → stands below h.line f q) → stands (evicted_as dirty level log_to h below).after h.line f q
    evicted_as-stands true h below f q ok in_range shows clean = keeps_lines.put_stands below h.line h.cells f q ok in_range shows
    evicted_as-stands false h below f q ok in_range shows clean = clean refl

    module _ (sets set : ℕ) where
      -- what stands of a line after the victim was evicted
      without_victim-valid : (last : Option Held) (hs : List Held) (below : S) → slice_get hs (length hs - 1) ≡ last → valid below
          → IsSoundList (level.words below) sets set hs → valid (without_victim last level log_to hs below).below
      unfolding evicted
      without_victim-valid None hs below at_last ok sound = ok
      without_victim-valid (Some d) hs below at_last ok sound =
          let found = found_at (level.words below) sets set hs (length hs - 1) d sound at_last in
          evicted_as-valid d.dirty d below ok (sound-found (level.words below) sets set d.line hs d sound found).in_range

      without_victim-absent : (last : Option Held) (hs : List Held) (below : S) (k : ℕ) (f q : ℕ → ℕ) → slice_get hs (length hs - 1) ≡ last → valid below
          → IsSoundList (level.words below) sets set hs → entry_of k hs ≡ None → stands below k f q → stands (without_victim last level log_to hs below).below k f q
      unfolding evicted
      without_victim-absent None hs below k f q at_last ok sound absent it = it
      without_victim-absent (Some d) hs below k f q at_last ok sound absent it =
          let found = found_at (level.words below) sets set hs (length hs - 1) d sound at_last in
          let other : k ≢ d.line = λ same. none_some (sym absent ∙ ap (λ n. entry_of n hs) same ∙ found) in
          evicted_as-keeps d.dirty d below k f q ok (sound-found (level.words below) sets set d.line hs d sound found).in_range other it

      -- the entries and the level below after the victim was evicted stand for what they did
      without_victim-stands : (last : Option Held) (hs : List Held) (below : S) (k : ℕ) (f q : ℕ → ℕ) → slice_get hs (length hs - 1) ≡ last → valid below
          → IsSoundList (level.words below) sets set hs → EntryStands stands (entry_of k hs) below k f q
          → EntryStands stands (entry_of k (without_victim last level log_to hs below).entries) (without_victim last level log_to hs below).below k f q
      unfolding evicted
      without_victim-stands None hs below k f q at_last ok sound it = it
      without_victim-stands (Some d) hs below k f q at_last ok sound it = by_line (eqb_tells k d.line)
        where
          after : S
          after = (evicted_as d.dirty level log_to d below).after

          found : entry_of d.line hs ≡ Some d
          found = found_at (level.words below) sets set hs (length hs - 1) d sound at_last

          in_range : InRange level below d.line
          in_range = (sound-found (level.words below) sets set d.line hs d sound found).in_range

          kept : k ≢ d.line → (e : Option Held) → EntryStands stands e below k f q → EntryStands stands e after k f q
          kept other None stood = evicted_as-keeps d.dirty d below k f q ok in_range other stood
          kept other (Some h) stood = (stood.0, λ clean. evicted_as-keeps d.dirty d below k f q ok in_range other (stood.1 clean))

          by_line : ((eqb k d.line ≡ true) × (k ≡ d.line)) ⊎ ((eqb k d.line ≡ false) × (k ≢ d.line))
              → EntryStands stands (entry_of k (take (length hs - 1) hs)) after k f q
          by_line (inl (test, same)) =
              let gone : entry_of k (take (length hs - 1) hs) ≡ None =
              rw same (gone_before (level.words below) sets set hs (length hs - 1) d sound at_last) in
              let stood : EntryStands stands (Some d) below d.line f q =
              subst (λ e. EntryStands stands e below d.line f q) found (subst (λ n. EntryStands stands (entry_of n hs) below n f q) same it) in
              let down : stands after d.line f q = evicted_as-stands d.dirty d below f q ok in_range stood.0 stood.1 in
              subst (λ e. EntryStands stands e after k f q) (sym gone) (subst (λ n. stands after n f q) (sym same) down)
          by_line (inr (test, other)) =
              let same_entry = take_other k hs (length hs - 1) d at_last (is_last hs d at_last) other in
              subst (λ e. EntryStands stands e after k f q) (sym same_entry) (kept other (entry_of k hs) it)

      room_as-valid : (has_room : Bool) (hs : List Held) (below : S) → valid below
          → IsSoundList (level.words below) sets set hs → valid (room_as has_room level log_to hs below).below
      room_as-valid true hs below ok sound = ok
      room_as-valid false hs below ok sound = without_victim-valid (slice_get hs (length hs - 1)) hs below refl ok sound

      room_as-absent : (has_room : Bool) (hs : List Held) (below : S) (k : ℕ) (f q : ℕ → ℕ) → valid below
          → IsSoundList (level.words below) sets set hs → entry_of k hs ≡ None → stands below k f q → stands (room_as has_room level log_to hs below).below k f q
      room_as-absent true hs below k f q ok sound absent it = it
      room_as-absent false hs below k f q ok sound absent it = without_victim-absent (slice_get hs (length hs - 1)) hs below k f q refl ok sound absent it

      room_as-stands : (has_room : Bool) (hs : List Held) (below : S) (k : ℕ) (f q : ℕ → ℕ) → valid below
          → IsSoundList (level.words below) sets set hs → EntryStands stands (entry_of k hs) below k f q
          → EntryStands stands (entry_of k (room_as has_room level log_to hs below).entries) (room_as has_room level log_to hs below).below k f q
      room_as-stands true hs below k f q ok sound it = it
      room_as-stands false hs below k f q ok sound it = without_victim-stands (slice_get hs (length hs - 1)) hs below k f q refl ok sound it

      module _ (ways : ℕ) where
        room-valid : (hs : List Held) (below : S) → valid below → IsSoundList (level.words below) sets set hs → valid (room_in level log_to ways hs below).below
        unfolding room_in
        room-valid hs below ok sound = room_as-valid (nat_lt (length hs) ways) hs below ok sound

        room-keeps : (hs : List Held) (below : S) (k : ℕ) (f q : ℕ → ℕ) → valid below → IsSoundList (level.words below) sets set hs
            → entry_of k hs ≡ None → stands below k f q → stands (room_in level log_to ways hs below).below k f q
        unfolding room_in
        room-keeps hs below k f q ok sound absent it = room_as-absent (nat_lt (length hs) ways) hs below k f q ok sound absent it

        room-stands : (hs : List Held) (below : S) (k : ℕ) (f q : ℕ → ℕ) → valid below → IsSoundList (level.words below) sets set hs
            → EntryStands stands (entry_of k hs) below k f q
            → EntryStands stands (entry_of k (room_in level log_to ways hs below).entries) (room_in level log_to ways hs below).below k f q
        unfolding room_in
        room-stands hs below k f q ok sound it = room_as-stands (nat_lt (length hs) ways) hs below k f q ok sound it

        -- the line is in range after room was made
        room-in_range : (hs : List Held) (below : S) (l : ℕ) → InRange level below l → InRange level (room_in level log_to ways hs below).below l
        room-in_range hs below l in_range = rw (room_words level keeps_words log_to ways hs below) in_range

        -- a get
        get_as-valid : (entry : Option Held) (hs : List Held) (below : S) (l : ℕ) → valid below → InRange level below l
            → IsSoundList (level.words below) sets set hs → valid (get_as entry level log_to ways hs below l).below
        get_as-valid (Some h) hs below l ok in_range sound = ok
        get_as-valid None hs below l ok in_range sound = keeps_lines.get_valid _ l (room-valid hs below ok sound) (room-in_range hs below l in_range)

        get_as-keeps : (entry : Option Held) (hs : List Held) (below : S) (l k : ℕ) (f q : ℕ → ℕ) → valid below → InRange level below l
            → IsSoundList (level.words below) sets set hs → entry_of k hs ≡ None → stands below k f q → stands (get_as entry level log_to ways hs below l).below k f q
        get_as-keeps (Some h) hs below l k f q ok in_range sound absent it = it
        get_as-keeps None hs below l k f q ok in_range sound absent it =
            keeps_lines.get_keeps _ l k f q (room-valid hs below ok sound) (room-in_range hs below l in_range) (room-keeps hs below k f q ok sound absent it)

        get_as-shows : (entry : Option Held) (hs : List Held) (below : S) (l : ℕ) (f q : ℕ → ℕ) → entry_of l hs ≡ entry → valid below → InRange level below l
            → IsSoundList (level.words below) sets set hs → EntryStands stands entry below l f q → LineShows f q l (get_as entry level log_to ways hs below l).cells
        get_as-shows (Some h) hs below l f q found ok in_range sound it = it.0
        get_as-shows None hs below l f q found ok in_range sound it =
            keeps_lines.get_shows _ l f q (room-valid hs below ok sound) (room-in_range hs below l in_range) (room-keeps hs below l f q ok sound found it)

        get_as-stands : (entry : Option Held) (hs : List Held) (below : S) (l k : ℕ) (f q : ℕ → ℕ) → entry_of l hs ≡ entry → valid below → InRange level below l
            → IsSoundList (level.words below) sets set hs → EntryStands stands (entry_of k hs) below k f q
            → EntryStands stands (entry_of k (get_as entry level log_to ways hs below l).entries) (get_as entry level log_to ways hs below l).below k f q
        get_as-stands (Some h) hs below l k f q found ok in_range sound it =
            subst (λ e. EntryStands stands e below k f q) (sym (moved l k hs h found)) it
        get_as-stands None hs below l k f q found ok in_range sound it = by_line (eqb_tells k l)
          where
            room : Room S
            room = room_in level log_to ways hs below

            room_ok : valid room.below
            room_ok = room-valid hs below ok sound

            room_range : InRange level room.below l
            room_range = room-in_range hs below l in_range

            after : S
            after = (level.get room.below l).after

            front : Held
            front = record { line = l; dirty = false; cells = (level.get room.below l).cells }

            kept : (e : Option Held) → EntryStands stands e room.below k f q → EntryStands stands e after k f q
            kept None stood = keeps_lines.get_keeps room.below l k f q room_ok room_range stood
            kept (Some h) stood = (stood.0, λ clean. keeps_lines.get_keeps room.below l k f q room_ok room_range (stood.1 clean))

            by_line : ((eqb k l ≡ true) × (k ≡ l)) ⊎ ((eqb k l ≡ false) × (k ≢ l)) → EntryStands stands (entry_of k (front ∷ room.entries)) after k f q
            by_line (inl (test, same)) =
                let absent : entry_of k hs ≡ None = rw same found in
                let stood : stands room.below k f q = room-keeps hs below k f q ok sound absent (subst (λ e. EntryStands stands e below k f q) absent it) in
                let shown : LineShows f q k front.cells = subst (λ n. LineShows f q n front.cells) (sym same)
                (keeps_lines.get_shows room.below l f q room_ok room_range (subst (λ n. stands room.below n f q) same stood)) in
                let at_front : entry_of k (front ∷ room.entries) ≡ Some front = subst (λ n. entry_of n (front ∷ room.entries) ≡ Some front) (sym same) (front_same front room.entries) in
                subst (λ e. EntryStands stands e after k f q) (sym at_front)
                (shown, λ _. keeps_lines.get_keeps room.below l k f q room_ok room_range stood)
            by_line (inr (test, other)) =
                subst (λ e. EntryStands stands e after k f q) (sym (front_other k front room.entries other))
                (kept (entry_of k room.entries) (room-stands hs below k f q ok sound it))

        -- a put
        put_as-valid : (entry : Option Held) (hs : List Held) (below : S) (l : ℕ) (cells : Line) → valid below
            → IsSoundList (level.words below) sets set hs → valid (put_as entry level log_to ways hs below l cells).below
        put_as-valid (Some h) hs below l cells ok sound = ok
        put_as-valid None hs below l cells ok sound = room-valid hs below ok sound

        put_as-keeps : (entry : Option Held) (hs : List Held) (below : S) (l k : ℕ) (cells : Line) (f q : ℕ → ℕ) → valid below
            → IsSoundList (level.words below) sets set hs → entry_of k hs ≡ None → stands below k f q → stands (put_as entry level log_to ways hs below l cells).below k f q
        put_as-keeps (Some h) hs below l k cells f q ok sound absent it = it
        put_as-keeps None hs below l k cells f q ok sound absent it = room-keeps hs below k f q ok sound absent it

        put_as-stands : (entry : Option Held) (hs : List Held) (below : S) (l : ℕ) (cells : Line) (f q : ℕ → ℕ) → LineShows f q l cells
            → EntryStands stands (entry_of l (put_as entry level log_to ways hs below l cells).entries) (put_as entry level log_to ways hs below l cells).below l f q
        put_as-stands (Some h) hs below l cells f q shows =
            subst (λ e. EntryStands stands e below l f q) (sym (front_same (record { line = l; dirty = true; cells = cells }) (without l hs))) (shows, λ clean. absurd (true_false clean))
        put_as-stands None hs below l cells f q shows =
            let room = room_in level log_to ways hs below in
            subst (λ e. EntryStands stands e room.below l f q) (sym (front_same (record { line = l; dirty = true; cells = cells }) room.entries)) (shows, λ clean. absurd (true_false clean))

        put_as-others : (entry : Option Held) (hs : List Held) (below : S) (l k : ℕ) (cells : Line) (f q : ℕ → ℕ) → k ≢ l → valid below
            → IsSoundList (level.words below) sets set hs → EntryStands stands (entry_of k hs) below k f q
            → EntryStands stands (entry_of k (put_as entry level log_to ways hs below l cells).entries) (put_as entry level log_to ways hs below l cells).below k f q
        put_as-others (Some h) hs below l k cells f q other ok sound it =
            subst (λ e. EntryStands stands e below k f q) (sym (front_other k (record { line = l; dirty = true; cells = cells }) (without l hs) other ∙ without_other l k hs other)) it
        put_as-others None hs below l k cells f q other ok sound it =
            let room = room_in level log_to ways hs below in
            subst (λ e. EntryStands stands e room.below k f q) (sym (front_other k (record { line = l; dirty = true; cells = cells }) room.entries other))
            (room-stands hs below k f q ok sound it)

  entry-same : (entry : Option Held) (below : S) (l : ℕ) (f g q r : ℕ → ℕ) → ((i : ℕ) → i < 8 → g (8 * l + i) ≡ f (8 * l + i)) → ((i : ℕ) → i < 8 → q (8 * l + i) ≤ r (8 * l + i))
      → EntryStands stands entry below l f q → EntryStands stands entry below l g r
  entry-same None below l f g q r same up it = keeps_lines.same below l f g q r it same up
  entry-same (Some h) below l f g q r same up it = (line-same f g q r l h.cells same up it.0, λ clean. keeps_lines.same below l f g q r (it.1 clean) same up)

  peek_as-shows : (entry : Option Held) (below : S) (l : ℕ) (f q : ℕ → ℕ) → valid below → InRange level below l
      → EntryStands stands entry below l f q → LineShows f q l (peek_as entry level below l)
  peek_as-shows (Some h) below l f q ok in_range it = it.0
  peek_as-shows None below l f q ok in_range it = keeps_lines.peek_shows below l f q ok in_range it

  -- another level below, where what stood there stands still
  below_kept : (below after : S) (k : ℕ) (f q : ℕ → ℕ) → (stands below k f q → stands after k f q) → (e : Option Held)
      → EntryStands stands e below k f q → EntryStands stands e after k f q
  below_kept below after k f q kept None it = kept it
  below_kept below after k f q kept (Some h) it = (it.0, λ clean. kept (it.1 clean))

  module _ (sets ways : ℕ) (s : CachedLines S) (l : ℕ) (ok : CacheValid sets ways level valid s) (in_range : InRange level s.below l) where
    within : l % sets < sets
    within = let some = ok.lists.some in omega arith

    sound : IsSoundList (level.words s.below) sets (l % sets) (list_of sets s l)
    sound = ok.lists.each (l % sets) within

    few : length (list_of sets s l) ≤ ways
    few = ok.lists.most (l % sets) within

    -- the lists after one was replaced
    list_same : (entries : List Held) (below : S) (k : ℕ) → k % sets ≡ l % sets → list_of sets (with_list sets s l entries below) k ≡ entries
    list_same entries below k same =
        let inside : l % sets < length s.lists = rw ok.lists.count within in
        ap (λ n. slice_index_or (slice_set s.lists (l % sets) entries) n []) same ∙ get_or-set_same s.lists (l % sets) entries [] inside

    list_other : (entries : List Held) (below : S) (k : ℕ) → k % sets ≢ l % sets → list_of sets (with_list sets s l entries below) k ≡ list_of sets s k
    list_other entries below k other = get_or-set_other s.lists (l % sets) (k % sets) entries [] other

    -- a line of the same set, and one of another
    lifted : (entries : List Held) (after : S) (k : ℕ) (f q : ℕ → ℕ)
        → (k % sets ≡ l % sets → EntryStands stands (entry_of k (list_of sets s l)) s.below k f q → EntryStands stands (entry_of k entries) after k f q)
        → (entry_of k (list_of sets s l) ≡ None → stands s.below k f q → stands after k f q)
        → CacheStands stands sets s k f q → CacheStands stands sets (with_list sets s l entries after) k f q
    lifted entries after k f q in_set out_of_set it = by_set (eqb_tells (k % sets) (l % sets))
      where
        by_set : ((eqb (k % sets) (l % sets) ≡ true) × (k % sets ≡ l % sets)) ⊎ ((eqb (k % sets) (l % sets) ≡ false) × (k % sets ≢ l % sets))
            → CacheStands stands sets (with_list sets s l entries after) k f q
        by_set (inl (test, same)) =
            subst (λ es. EntryStands stands (entry_of k es) after k f q) (sym (list_same entries after k same))
            (in_set same (subst (λ n. EntryStands stands (entry_of k (slice_index_or s.lists n [])) s.below k f q) same it))
        by_set (inr (test, other)) =
            subst (λ es. EntryStands stands (entry_of k es) after k f q) (sym (list_other entries after k other))
            (below_kept s.below after k f q (out_of_set (other_set (level.words s.below) sets (l % sets) k (list_of sets s l) sound other)) (entry_of k (list_of sets s k)) it)

  pub cache_keeps_lines : (sets ways : ℕ) → KeepsLines (cache_level sets ways level) (CacheValid sets ways level valid) (CacheStands stands sets)
  unfolding cache_get cache_put cache_peek get_in put_in
  cache_keeps_lines sets ways = record {
    whole = λ s ok. keeps_lines.whole s.below ok.below;
    same = λ s l f g q r it same up. entry-same (entry_of l (list_of sets s l)) s.below l f g q r same up it;
    get_valid = λ s l ok in_range. record {
      lists = rw (get_words level keeps_words s.log_to ways (list_of sets s l) s.below l)
          (sound-with sets ways (level.words s.below) (l % sets) s.lists _ (within sets ways s l ok in_range) ok.lists
          (get_as-few level s.log_to ways ok.lists.some_way (entry_of l (list_of sets s l)) (list_of sets s l) s.below l refl (few sets ways s l ok in_range))
          (get-sound (level.words s.below) sets (l % sets) level s.log_to ways (list_of sets s l) s.below l in_range refl (sound sets ways s l ok in_range)));
      below = get_as-valid s.log_to sets (l % sets) ways (entry_of l (list_of sets s l)) (list_of sets s l) s.below l ok.below in_range (sound sets ways s l ok in_range);
    };
    put_valid = λ s l cells ok in_range. record {
      lists = rw (put_words level keeps_words s.log_to ways (list_of sets s l) s.below l cells)
          (sound-with sets ways (level.words s.below) (l % sets) s.lists _ (within sets ways s l ok in_range) ok.lists
          (put_as-few level s.log_to ways ok.lists.some_way (entry_of l (list_of sets s l)) (list_of sets s l) s.below l cells refl (few sets ways s l ok in_range))
          (put-sound (level.words s.below) sets (l % sets) level s.log_to ways (list_of sets s l) s.below l cells in_range refl (sound sets ways s l ok in_range)));
      below = put_as-valid s.log_to sets (l % sets) ways (entry_of l (list_of sets s l)) (list_of sets s l) s.below l cells ok.below (sound sets ways s l ok in_range);
    };
    get_shows = λ s l f q ok in_range it. get_as-shows s.log_to sets (l % sets) ways (entry_of l (list_of sets s l)) (list_of sets s l) s.below l f q refl ok.below in_range (sound sets ways s l ok in_range) it;
    peek_shows = λ s l f q ok in_range it. peek_as-shows (entry_of l (list_of sets s l)) s.below l f q ok.below in_range it;
    get_keeps = λ s l k f q ok in_range it.
        lifted sets ways s l ok in_range _ _ k f q
        (λ same stood. get_as-stands s.log_to sets (l % sets) ways (entry_of l (list_of sets s l)) (list_of sets s l) s.below l k f q refl ok.below in_range (sound sets ways s l ok in_range) stood)
        (λ absent stood. get_as-keeps s.log_to sets (l % sets) ways (entry_of l (list_of sets s l)) (list_of sets s l) s.below l k f q ok.below in_range (sound sets ways s l ok in_range) absent stood)
        it;
    put_keeps = λ s l k cells f q ok in_range other it.
        lifted sets ways s l ok in_range _ _ k f q
        (λ same stood. put_as-others s.log_to sets (l % sets) ways (entry_of l (list_of sets s l)) (list_of sets s l) s.below l k cells f q other ok.below (sound sets ways s l ok in_range) stood)
        (λ absent stood. put_as-keeps s.log_to sets (l % sets) ways (entry_of l (list_of sets s l)) (list_of sets s l) s.below l k cells f q ok.below (sound sets ways s l ok in_range) absent stood)
        it;
    put_stands = λ s l cells f q ok in_range shows.
        let room = put_in level s.log_to ways (list_of sets s l) s.below l cells in
        subst (λ es. EntryStands stands (entry_of l es) room.below l f q) (sym (list_same sets ways s l ok in_range room.entries room.below l refl))
        (put_as-stands s.log_to sets (l % sets) ways (entry_of l (list_of sets s l)) (list_of sets s l) s.below l cells f q shows);
  }

  -- the entry in front after a get is the line's
  get_as-front : (log_to : LogTo) (ways : ℕ) (entry : Option Held) (hs : List Held) (below : S) (l : ℕ) → entry_of l hs ≡ entry
      → (x : Held) × (rest : List Held) × ((get_as entry level log_to ways hs below l).entries ≡ x ∷ rest) × (x.line ≡ l)
  get_as-front log_to ways (Some h) hs below l found = (h, without l hs, refl, entry_line l hs h found)
  get_as-front log_to ways None hs below l found = (record { line = l; dirty = false; cells = _ }, (room_in level log_to ways hs below).entries, refl, refl)

  -- another entry of the line in front, dirty
  swapped : (x front : Held) (rest : List Held) (after : S) (l k : ℕ) (f g q r : ℕ → ℕ) → x.line ≡ l → front.line ≡ l → front.dirty ≡ true
      → (k ≡ l → LineShows g r l front.cells) → (k ≢ l → (i : ℕ) → i < 8 → g (8 * k + i) ≡ f (8 * k + i)) → (k ≢ l → (i : ℕ) → i < 8 → q (8 * k + i) ≤ r (8 * k + i))
      → EntryStands stands (entry_of k (x ∷ rest)) after k f q → EntryStands stands (entry_of k (front ∷ rest)) after k g r
  swapped x front rest after l k f g q r x_line front_line dirty shows same up it = by_line (eqb_tells k l)
    where
      by_line : ((eqb k l ≡ true) × (k ≡ l)) ⊎ ((eqb k l ≡ false) × (k ≢ l)) → EntryStands stands (entry_of k (front ∷ rest)) after k g r
      by_line (inl (test, here)) =
          let at_front : entry_of k (front ∷ rest) ≡ Some front = subst (λ n. entry_of n (front ∷ rest) ≡ Some front) (front_line ∙ sym here) (front_same front rest) in
          subst (λ e. EntryStands stands e after k g r) (sym at_front)
          (subst (λ n. LineShows g r n front.cells) (sym here) (shows here), λ clean. absurd (true_false (sym dirty ∙ clean)))
      by_line (inr (test, other)) =
          let behind = front_other k x rest (λ e. other (e ∙ x_line)) in
          let behind_too = front_other k front rest (λ e. other (e ∙ front_line)) in
          subst (λ e. EntryStands stands e after k g r) (sym behind_too)
          (entry-same (entry_of k rest) after k f g q r (same other) (up other) (subst (λ e. EntryStands stands e after k f q) behind it))

  -- another entry of the line in front after a get
  module _ (sets ways : ℕ) (s : CachedLines S) (l : ℕ) (ok : CacheValid sets ways level valid s) (in_range : InRange level s.below l) (front : Held) (front_line : front.line ≡ l) where
    fronted-valid : IsSoundCache sets ways (level.words (get_as (entry_of l (list_of sets s l)) level s.log_to ways (list_of sets s l) s.below l).below)
        (slice_set s.lists (l % sets) (front ∷ drop 1 (get_as (entry_of l (list_of sets s l)) level s.log_to ways (list_of sets s l) s.below l).entries))
    unfolding get_in
    fronted-valid =
        let hs = list_of sets s l in
        let fine = sound sets ways s l ok in_range in
        let at_front = get_as-front s.log_to ways (entry_of l hs) hs s.below l refl in
        let after : IsSoundList (level.words s.below) sets (l % sets) (at_front.0 ∷ at_front.1) =
        subst (λ es. IsSoundList (level.words s.below) sets (l % sets) es) at_front.2 (get-sound (level.words s.below) sets (l % sets) level s.log_to ways hs s.below l in_range refl fine) in
        let absent : entry_of front.line at_front.1 ≡ None = subst (λ n. entry_of n at_front.1 ≡ None) (at_front.3 ∙ sym front_line) after.1 in
        let entry : IsHeldIn (level.words s.below) sets (l % sets) front = record {
          in_range = subst (λ n. 8 * n + 7 < level.words s.below) (sym front_line) in_range;
          in_set = ap (λ n. n % sets) front_line;
        } in
        rw (get_words level keeps_words s.log_to ways hs s.below l)
        (sound-with sets ways (level.words s.below) (l % sets) s.lists _ (within sets ways s l ok in_range) ok.lists
        (subst (λ es. length (front ∷ drop 1 es) ≤ ways) (sym at_front.2)
        (subst (λ es. length es ≤ ways) at_front.2 (get_as-few level s.log_to ways ok.lists.some_way (entry_of l hs) hs s.below l refl (few sets ways s l ok in_range))))
        (subst (λ es. IsSoundList (level.words s.below) sets (l % sets) (front ∷ drop 1 es)) (sym at_front.2) (entry, absent, after.2)))

    fronted-stands : (k : ℕ) (f g q r : ℕ → ℕ) → front.dirty ≡ true → (k ≡ l → LineShows g r l front.cells)
        → (k ≢ l → (i : ℕ) → i < 8 → g (8 * k + i) ≡ f (8 * k + i)) → (k ≢ l → (i : ℕ) → i < 8 → q (8 * k + i) ≤ r (8 * k + i)) → CacheStands stands sets s k f q
        → CacheStands stands sets (with_list sets s l (front ∷ drop 1 (get_as (entry_of l (list_of sets s l)) level s.log_to ways (list_of sets s l) s.below l).entries)
        (get_as (entry_of l (list_of sets s l)) level s.log_to ways (list_of sets s l) s.below l).below) k g r
    fronted-stands k f g q r dirty shows same up it = by_set (eqb_tells (k % sets) (l % sets))
      where
        by_set : ((eqb (k % sets) (l % sets) ≡ true) × (k % sets ≡ l % sets)) ⊎ ((eqb (k % sets) (l % sets) ≡ false) × (k % sets ≢ l % sets))
            → CacheStands stands sets (with_list sets s l (front ∷ drop 1 (get_as (entry_of l (list_of sets s l)) level s.log_to ways (list_of sets s l) s.below l).entries)
            (get_as (entry_of l (list_of sets s l)) level s.log_to ways (list_of sets s l) s.below l).below) k g r
        by_set (inl (test, there)) =
            let hs = list_of sets s l in
            let fine = sound sets ways s l ok in_range in
            let after = (get_as (entry_of l hs) level s.log_to ways hs s.below l).below in
            let at_front = get_as-front s.log_to ways (entry_of l hs) hs s.below l refl in
            let stood : EntryStands stands (entry_of k hs) s.below k f q = subst (λ n. EntryStands stands (entry_of k (slice_index_or s.lists n [])) s.below k f q) there it in
            let got : EntryStands stands (entry_of k (at_front.0 ∷ at_front.1)) after k f q =
            subst (λ es. EntryStands stands (entry_of k es) after k f q) at_front.2 (get_as-stands s.log_to sets (l % sets) ways (entry_of l hs) hs s.below l k f q refl ok.below in_range fine stood) in
            let changed : EntryStands stands (entry_of k (front ∷ at_front.1)) after k g r =
            swapped at_front.0 front at_front.1 after l k f g q r at_front.3 front_line dirty shows same up got in
            subst (λ es. EntryStands stands (entry_of k es) after k g r) (sym (list_same sets ways s l ok in_range _ after k there))
            (subst (λ es. EntryStands stands (entry_of k (front ∷ drop 1 es)) after k g r) (sym at_front.2) changed)
        by_set (inr (test, other)) =
            let hs = list_of sets s l in
            let fine = sound sets ways s l ok in_range in
            let after = (get_as (entry_of l hs) level s.log_to ways hs s.below l).below in
            let apart : k ≢ l = λ e. other (ap (λ n. n % sets) e) in
            let absent = other_set (level.words s.below) sets (l % sets) k hs fine other in
            let kept : EntryStands stands (entry_of k (list_of sets s k)) after k f q =
            below_kept s.below after k f q (λ stood. get_as-keeps s.log_to sets (l % sets) ways (entry_of l hs) hs s.below l k f q ok.below in_range fine absent stood) (entry_of k (list_of sets s k)) it in
            subst (λ es. EntryStands stands (entry_of k es) after k g r) (sym (list_other sets ways s l ok in_range _ after k other))
            (entry-same (entry_of k (list_of sets s k)) after k f g q r (same apart) (up apart) kept)

  -- a store keeps each line that stands, for the words with the stored bytes
  pub store-keeps : (sets ways : ℕ) (s : CachedLines S) (w v mask : ℕ) → CacheValid sets ways level valid s → InRange level s.below (w / 8)
      → (k : ℕ) (f q : ℕ → ℕ) → CacheStands stands sets s k f q
      → CacheStands stands sets (cache_store sets ways level s w v mask).after k (stored_at f w v mask) (renewed_at q w mask)
  unfolding get_in cache_store store_in
  store-keeps sets ways s w v mask ok in_range k f q it =
      fronted-stands sets ways s (w / 8) ok in_range _ refl k f (stored_at f w v mask) q (renewed_at q w mask) refl
      (λ here. stored-line f q w v mask _
      (get_as-shows s.log_to sets ((w / 8) % sets) ways (entry_of (w / 8) (list_of sets s (w / 8))) (list_of sets s (w / 8)) s.below (w / 8) f q refl ok.below in_range
      (sound sets ways s (w / 8) ok in_range) (subst (λ n. CacheStands stands sets s n f q) here it)))
      (λ other i below. stored-other f w v mask k i below other)
      (λ other i below. let e = renewed-other q w mask k i below other in omega arith)
      it

  pub store-valid : (sets ways : ℕ) (s : CachedLines S) (w v mask : ℕ) → CacheValid sets ways level valid s → InRange level s.below (w / 8)
      → CacheValid sets ways level valid (cache_store sets ways level s w v mask).after
  unfolding get_in cache_store store_in
  store-valid sets ways s w v mask ok in_range = record {
    lists = fronted-valid sets ways s (w / 8) ok in_range _ refl;
    below = get_as-valid s.log_to sets ((w / 8) % sets) ways (entry_of (w / 8) (list_of sets s (w / 8))) (list_of sets s (w / 8)) s.below (w / 8) ok.below in_range (sound sets ways s (w / 8) ok in_range);
  }

-- another state below with as many words
pub still-valid : {S : Type 0} (level : Level S) (valid : S → Type 0) (sets ways : ℕ) (s : CachedLines S) (after : S) → CacheValid sets ways level valid s
    → level.words after ≡ level.words s.below → valid after → CacheValid sets ways level valid (record s { below = after })
still-valid level valid sets ways s after ok same fine = record { lists = rw same ok.lists; below = fine }

-- the calls on the cells of the memory at the bottom
module _ {S : Type 0} (level : Level S) (calls : CellCalls S) (valid : S → Type 0) (stands : S → ℕ → (ℕ → ℕ) → (ℕ → ℕ) → Type 0)
    (keeps_counts : CellsKeepCounts level.words calls) (keeps_lines : KeepsLines level valid stands) (cells_keep_lines : CellsKeepLines level calls valid stands) where
  entry-struck : (entry : Option Held) (below : S) (w bit k : ℕ) (f q : ℕ → ℕ) → valid below → w < level.words below → bit < 72 → is_third (calls.cell below w) ≡ false
      → EntryStands stands entry below k f q → EntryStands stands entry (calls.strike below w bit) k f (raised_at q w)
  entry-struck None below w bit k f q ok in_range fits third it = cells_keep_lines.strike_keeps below w bit k f q ok in_range fits third it
  entry-struck (Some h) below w bit k f q ok in_range fits third it =
      (line-same f f q (raised_at q w) k h.cells (λ i small. refl) (λ i small. raised-up q w (8 * k + i)) it.0, λ clean. cells_keep_lines.strike_keeps below w bit k f q ok in_range fits third (it.1 clean))

  entry-scrubbed : (entry : Option Held) (below : S) (w k : ℕ) (f q : ℕ → ℕ) → valid below → w < level.words below
      → EntryStands stands entry below k f q → EntryStands stands entry (calls.scrub below w).after k f q
  entry-scrubbed None below w k f q ok in_range it = cells_keep_lines.scrub_keeps below w k f q ok in_range it
  entry-scrubbed (Some h) below w k f q ok in_range it = (it.0, λ clean. cells_keep_lines.scrub_keeps below w k f q ok in_range (it.1 clean))

  pub cache_cells_keep_lines : (sets ways : ℕ) → CellsKeepLines (cache_level sets ways level) (cache_calls calls) (CacheValid sets ways level valid) (CacheStands stands sets)
  cache_cells_keep_lines sets ways = record {
    load_valid = λ s w v ok in_range. still-valid level valid sets ways s (calls.load s.below w v) ok (keeps_counts.load_words s.below w v) (cells_keep_lines.load_valid s.below w v ok.below in_range);
    strike_valid = λ s w bit ok in_range fits. still-valid level valid sets ways s (calls.strike s.below w bit) ok (keeps_counts.strike_words s.below w bit) (cells_keep_lines.strike_valid s.below w bit ok.below in_range fits);
    scrub_valid = λ s w ok in_range. still-valid level valid sets ways s (calls.scrub s.below w).after ok (keeps_counts.scrub_words s.below w) (cells_keep_lines.scrub_valid s.below w ok.below in_range);
    set_cell_valid = λ s w state ok in_range counted. still-valid level valid sets ways s (calls.set_cell s.below w state) ok (keeps_counts.set_cell_words s.below w state) (cells_keep_lines.set_cell_valid s.below w state ok.below in_range counted);
    strike_keeps = λ s w bit k f q ok in_range fits third it. entry-struck (entry_of k (list_of sets s k)) s.below w bit k f q ok.below in_range fits third it;
    scrub_keeps = λ s w k f q ok in_range it. entry-scrubbed (entry_of k (list_of sets s k)) s.below w k f q ok.below in_range it;
  }
