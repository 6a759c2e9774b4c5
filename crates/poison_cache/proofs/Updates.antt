-- What the arrays show after one way of a set was changed.
use Rattle.std.proofs.Common.{ℕ, ◌+◌, ◌-◌, ◌*◌, ◌%◌, ◌<◌, ◌≤◌, ◌≡◌, ◌≢◌, ◌∙◌, ◌⊎◌, inl, inr, sym, ap, refl, subst, List, [], ◌∷◌, ◌++◌, Some, None, Bool, true, false, length, take, drop, arith, zero, suc, nat_lt, replicate, slice_index, slice_index_or, slice_set}
use Rattle.std.specs.List.{slice_get, remove}
use Rattle.std.proofs.lemmas.Bool.{cases_lt, lt-ltb, le-ltb}
use Rattle.std.proofs.lemmas.Nat.{mul-add-lt}
use Rattle.std.proofs.Math.Nat.{mul_comm, mul-add-mod_self_right, mod-eq_of_lt}
use Rattle.std.proofs.lemmas.List.FromFn.{get_or-map-range_with_len, length-map-range_with_len}
use Rattle.std.proofs.lemmas.List.{length-set, get_or-set_same, get_or-set_other, drop_all, take_all, append-nil, same_lists, length-replicate, get_or-replicate}
use Rattle.std.proofs.lemmas.Option.{same_Some, none-some, slice_get_past}
use Rattle.poison_mem.specs.declared.line.Line.{Line}
use Rattle.poison_mem.specs.declared.cache_state.Held.{Held}
use Rattle.poison_cache.specs.declared.ways.Flag.{Flag}
use Rattle.poison_cache.specs.declared.ways.Flag.TheVariants.{Empty, Clean, Dirty}
use Rattle.poison_cache.specs.declared.sets.TheConstants.{MOST_HELD}
use Rattle.poison_cache.specs.Recent.{entry_of, without, renewed_as, with_room, victim_of, dirty_one, dirty_victim_of}
use Rattle.poison_cache.specs.Ranks.{way_of, renewed, AreRanks, AreNewRanks, IsPromoted}
use Rattle.poison_cache.specs.Ways.{flag_of, line_as, ranks_from, IsWayOf, IsEmptyAt, IsFirstEmpty}
use Rattle.poison_cache.specs.Sets.{Arrays, no_cells, held_as, entry_in, ranked_in, set_list, lists_of, HaveAllWays, AreSets}
use Rattle.poison_cache.proofs.Positions.{up_from-past, up_from-length, up_from-none}
use Rattle.poison_cache.proofs.Ranks.{own_ranks, ranks_same}
use Rattle.poison_cache.proofs.OrderedSets.{at_rank, hit_found, miss_found, not_held, IsFronted, fronted_is, fronted_ordered, IsPlaced, placed_is, placed_ordered, StaysElsewhere, list_at, changed_sets, changed_lists}

-- the entry of a way that holds a line
pub held_line : (flag : Flag) (line l : ℕ) (cells : Line) → line_as flag line ≡ Some l
    → (h : Held) × (held_as flag line cells ≡ Some h) × (h.line ≡ l) × (h.line ≡ line) × (h.cells ≡ cells)
held_line Empty line l cells found = cc
held_line Clean line l cells found = (record { line = line; dirty = false; cells = cells }, refl, same_Some line l found, refl, refl)
held_line Dirty line l cells found = (record { line = line; dirty = true; cells = cells }, refl, same_Some line l found, refl, refl)

pub line_held : (flag : Flag) (line : ℕ) (cells : Line) (h : Held) → held_as flag line cells ≡ Some h → line_as flag line ≡ Some h.line
line_held Empty line cells h found = cc
line_held Clean line cells h found = cc
line_held Dirty line cells h found = cc

-- one set of the arrays
module _ (sets ways : ℕ) (a : Arrays) (set : ℕ) (sound : AreSets sets ways a) (below : set < sets) where
  -- the entry of a way that holds a line is the one of the line
  pub hit_at : (way l : ℕ) (h : Held) → set * ways ≤ way → way < set * ways + ways → entry_in a way ≡ Some h → h.line ≡ l
      → (entry_of l (set_list a ways set) ≡ Some h) × (without l (set_list a ways set) ≡ remove (set_list a ways set) (slice_index a.ranks way))
  hit_at way l h above inside here same =
      let e : set * ways + (way - set * ways) ≡ way = omega arith in
      let found = hit_found a ways (set * ways) (sound.each set below) (way - set * ways) h l (omega arith) (ap (entry_in a) e ∙ here) same in
      (found.0, found.1 ∙ ap (λ i. remove (set_list a ways set) (slice_index a.ranks i)) e)

  pub miss_at : (l : ℕ) → IsWayOf a.lines a.flags (set * ways) ways l None → entry_of l (set_list a ways set) ≡ None
  miss_at l missed =
      miss_found a ways (set * ways) (sound.each set below) l
      (λ w h w_below here line.
      missed (set * ways + w) (omega arith) (omega arith)
      (line_held (slice_index_or a.flags (set * ways + w) Empty) (slice_index a.lines (set * ways + w)) _ h here ∙ ap Some line))

  pub absent_at : (l : ℕ) → entry_of l (set_list a ways set) ≡ None → (i : ℕ) (h : Held) → set * ways ≤ i → i < set * ways + ways
      → entry_in a i ≡ Some h → h.line ≢ l
  absent_at l absent i h above inside here =
      let e : set * ways + (i - set * ways) ≡ i = omega arith in
      not_held a ways (set * ways) (sound.each set below) l absent (i - set * ways) h (omega arith) (ap (entry_in a) e ∙ here)

  pub single_at : (i j : ℕ) (g h : Held) → set * ways ≤ i → i < set * ways + ways → set * ways ≤ j → j < set * ways + ways
      → entry_in a i ≡ Some g → entry_in a j ≡ Some h → g.line ≡ h.line → i ≡ j
  single_at i j g h i_above i_inside j_above j_inside at_i at_j line =
      let i_is : set * ways + (i - set * ways) ≡ i = omega arith in
      let j_is : set * ways + (j - set * ways) ≡ j = omega arith in
      let same = (sound.each set below).single (i - set * ways) (j - set * ways) g h (omega arith) (omega arith) (ap (entry_in a) i_is ∙ at_i) (ap (entry_in a) j_is ∙ at_j) line in
      omega arith

  -- what the way of a rank holds stands at that index
  pub rank_at : (r : ℕ) → r < ways → slice_get (set_list a ways set) r ≡ entry_in a (set * ways + way_of (ranks_from a.ranks (set * ways)) ways r)
  rank_at r r_below = at_rank a ways (set * ways) (sound.each set below) r r_below

  pub past_at : (r : ℕ) → ways ≤ r → slice_get (set_list a ways set) r ≡ None
  past_at r past = up_from-past (ranked_in a ways (set * ways)) ways 0 r past

-- a way became the most recent of its set, and holds d
module _ (sets ways : ℕ) (a b : Arrays) (set way : ℕ) (d : Held) (sound : AreSets sets ways a) (below : set < sets) (above : set * ways ≤ way) (inside : way < set * ways + ways)
    (ranks : IsPromoted a.ranks b.ranks (set * ways) ways (slice_index a.ranks way)) (front : entry_in b way ≡ Some d)
    (others : (i : ℕ) → i ≢ way → entry_in b i ≡ entry_in a i) where
  at_way : set * ways + (way - set * ways) ≡ way
  at_way = omega arith

  w_inside : way - set * ways < ways
  w_inside = omega arith

  fronted : IsFronted a b ways (set * ways) (way - set * ways) d
  fronted = record {
    ranks = λ v v_below.
        ranks.inside (set * ways + v) (omega arith) (omega arith)
        ∙ ap (λ i. renewed (slice_index a.ranks i) (slice_index a.ranks (set * ways + v))) (sym at_way);
    front = ap (entry_in b) at_way ∙ front;
    others = λ v v_below other. others (set * ways + v) (λ same. other (let e = at_way in omega arith));
  }

  elsewhere : StaysElsewhere a b ways (set * ways)
  elsewhere = record {
    ranks = ranks.elsewhere;
    entries = λ i out. others i (apart i out);
  }
    where
      apart : (i : ℕ) → (i < set * ways) ⊎ (set * ways + ways ≤ i) → i ≢ way
      apart i (inl low) same = omega arith
      apart i (inr high) same = omega arith

  pub front_sets : HaveAllWays (sets * ways) b
      → ((i : ℕ) (h : Held) → set * ways ≤ i → i < set * ways + ways → i ≢ way → entry_in a i ≡ Some h → h.line ≢ d.line) → AreSets sets ways b
  front_sets all alone =
      changed_sets sets ways a b set sound below elsewhere all
      (fronted_ordered a b ways (set * ways) (way - set * ways) d w_inside (sound.each set below) fronted
      (λ v h v_below other here. alone (set * ways + v) h (omega arith) (omega arith) (λ same. other (let e = at_way in omega arith)) here))

  pub front_lists : lists_of sets ways b ≡ slice_set (lists_of sets ways a) set (d ∷ remove (set_list a ways set) (slice_index a.ranks way))
  front_lists =
      changed_lists sets ways a b set sound below elsewhere (d ∷ remove (set_list a ways set) (slice_index a.ranks way))
      (fronted_is a b ways (set * ways) (way - set * ways) d w_inside (sound.each set below) fronted
      ∙ ap (λ i. d ∷ remove (set_list a ways set) (slice_index a.ranks i)) at_way)

-- the arrays with another line in a way
abbrev pub written : Arrays → ℕ → Flag → ℕ → Line → List ℕ → Arrays
written a way flag line cells ranks = record {
  lines = slice_set a.lines way line;
  flags = slice_set a.flags way flag;
  ranks = ranks;
  cells = slice_set a.cells way cells;
}

-- and with the cells of its line alone
abbrev pub rewritten : Arrays → ℕ → Flag → Line → List ℕ → Arrays
rewritten a way flag cells ranks = record { lines = a.lines; flags = slice_set a.flags way flag; ranks = ranks; cells = slice_set a.cells way cells }

module _ (all : ℕ) (a : Arrays) (way : ℕ) (flag : Flag) (line : ℕ) (cells : Line) (ranks : List ℕ) (have : HaveAllWays all a) where
  pub written_all : length ranks ≡ all → HaveAllWays all (written a way flag line cells ranks)
  written_all count = record {
    lines = length-set a.lines way line ∙ have.lines;
    flags = length-set a.flags way flag ∙ have.flags;
    ranks = count;
    cells = length-set a.cells way cells ∙ have.cells;
  }

  pub rewritten_all : length ranks ≡ all → HaveAllWays all (rewritten a way flag cells ranks)
  rewritten_all count = record {
    lines = have.lines;
    flags = length-set a.flags way flag ∙ have.flags;
    ranks = count;
    cells = length-set a.cells way cells ∙ have.cells;
  }

  pub written_at : way < all → entry_in (written a way flag line cells ranks) way ≡ held_as flag line cells
  written_at inside =
      rw (
        get_or-set_same a.flags way flag Empty (rw have.flags inside),
        get_or-set_same a.lines way line 0 (rw have.lines inside),
        get_or-set_same a.cells way cells no_cells (rw have.cells inside),
      )

  pub rewritten_at : way < all → entry_in (rewritten a way flag cells ranks) way ≡ held_as flag (slice_index a.lines way) cells
  rewritten_at inside =
      rw (get_or-set_same a.flags way flag Empty (rw have.flags inside), get_or-set_same a.cells way cells no_cells (rw have.cells inside))

  pub written_other : (i : ℕ) → i ≢ way → entry_in (written a way flag line cells ranks) i ≡ entry_in a i
  written_other i other =
      rw (get_or-set_other a.flags way i flag Empty other, get_or-set_other a.lines way i line 0 other, get_or-set_other a.cells way i cells no_cells other)

  pub rewritten_other : (i : ℕ) → i ≢ way → entry_in (rewritten a way flag cells ranks) i ≡ entry_in a i
  rewritten_other i other = rw (get_or-set_other a.flags way i flag Empty other, get_or-set_other a.cells way i cells no_cells other)

-- the set of a line, by the lists that the arrays show
module _ (sets ways l : ℕ) (a : Arrays) (lists : List (List Held)) (view_is : lists_of sets ways a ≡ lists) (sound : AreSets sets ways a) where
  pub set_below : l % sets < sets
  set_below = let some = sound.some in omega arith

  pub list_is : slice_index_or lists (l % sets) [] ≡ set_list a ways (l % sets)
  list_is = ap (λ (xs : List (List Held)). slice_index_or xs (l % sets) []) (sym view_is) ∙ list_at sets ways a (l % sets) set_below

  pub missed : IsWayOf a.lines a.flags (l % sets * ways) ways l None → entry_of l (slice_index_or lists (l % sets) []) ≡ None
  missed it = ap (entry_of l) list_is ∙ miss_at sets ways a (l % sets) sound set_below l it

  module _ (way : ℕ) (found : IsWayOf a.lines a.flags (l % sets * ways) ways l (Some way)) where
    pub hit : (h : Held) × (entry_in a way ≡ Some h) × (h.line ≡ l) × (h.line ≡ slice_index a.lines way) × (h.cells ≡ slice_index_or a.cells way no_cells)
    hit = held_line (slice_index_or a.flags way Empty) (slice_index a.lines way) l (slice_index_or a.cells way no_cells) found.2

    pub hit_entry : entry_of l (slice_index_or lists (l % sets) []) ≡ Some hit.0
    hit_entry = ap (entry_of l) list_is ∙ (hit_at sets ways a (l % sets) sound set_below way l hit.0 found.0 found.1 hit.1 hit.2).0

    -- the way becomes the most recent, and its entry another one of the line
    module _ (b : Arrays) (renew : Held → Held) (promoted : IsPromoted a.ranks b.ranks (l % sets * ways) ways (slice_index a.ranks way))
        (front : entry_in b way ≡ Some (renew hit.0)) (others : (i : ℕ) → i ≢ way → entry_in b i ≡ entry_in a i) where
      pub hit_sets : (renew hit.0).line ≡ l → HaveAllWays (sets * ways) b → AreSets sets ways b
      hit_sets line all =
          front_sets sets ways a b (l % sets) way (renew hit.0) sound set_below found.0 found.1 promoted front others all
          (λ i h above inside other here same.
          other (single_at sets ways a (l % sets) sound set_below i way h hit.0 above inside found.0 found.1 here hit.1 (same ∙ line ∙ sym hit.2)))

      pub hit_lists : lists_of sets ways b ≡ slice_set lists (l % sets) (renewed_as (entry_of l (slice_index_or lists (l % sets) [])) renew l (slice_index_or lists (l % sets) []))
      hit_lists =
          front_lists sets ways a b (l % sets) way (renew hit.0) sound set_below found.0 found.1 promoted front others
          ∙ ap (λ xs. slice_set (lists_of sets ways a) (l % sets) (renew hit.0 ∷ xs))
          (sym (hit_at sets ways a (l % sets) sound set_below way l hit.0 found.0 found.1 hit.1 hit.2).1 ∙ ap (without l) (sym list_is))
          ∙ ap (λ (xs : List (List Held)). slice_set xs (l % sets) (renew hit.0 ∷ without l (slice_index_or lists (l % sets) []))) view_is
          ∙ ap (λ entry. slice_set lists (l % sets) (renewed_as entry renew l (slice_index_or lists (l % sets) []))) (sym hit_entry)

nat_tells : (a b : ℕ) → ((nat_lt a b ≡ true) × (a < b)) ⊎ ((nat_lt a b ≡ false) × (b ≤ a))
nat_tells a b = by_order (cases_lt a b)
  where
    by_order : (a < b) ⊎ (b ≤ a) → ((nat_lt a b ≡ true) × (a < b)) ⊎ ((nat_lt a b ≡ false) × (b ≤ a))
    by_order (inl it) = inl (lt-ltb a b it, it)
    by_order (inr it) = inr (le-ltb a b it, it)

-- the list with room for one entry more
room_removed : (ways : ℕ) (hs : List Held) → 1 ≤ ways → length hs ≤ ways → with_room ways hs ≡ remove hs (ways - 1)
room_removed ways hs some few = by_test (nat_tells (length hs) ways)
  where
    gone : drop (suc (ways - 1)) hs ≡ []
    gone = drop_all (suc (ways - 1)) hs (omega arith)

    by_test : ((nat_lt (length hs) ways ≡ true) × (length hs < ways)) ⊎ ((nat_lt (length hs) ways ≡ false) × (ways ≤ length hs))
        → with_room ways hs ≡ remove hs (ways - 1)
    by_test (inl (test, room)) =
        rw test (sym (ap (λ xs. xs ++ drop (suc (ways - 1)) hs) (take_all (ways - 1) hs (omega arith)) ∙ ap (λ xs. hs ++ xs) gone ∙ append-nil hs))
    by_test (inr (test, full)) =
        let same : length hs - 1 ≡ ways - 1 = omega arith in
        rw test (ap (λ n. take n hs) same ∙ sym (ap (λ xs. take (ways - 1) hs ++ xs) gone ∙ append-nil (take (ways - 1) hs)))

-- and its victim
victim_removed : (ways : ℕ) (hs : List Held) → 1 ≤ ways → length hs ≤ ways → victim_of ways hs ≡ slice_get hs (ways - 1)
victim_removed ways hs some few = by_test (nat_tells (length hs) ways)
  where
    by_test : ((nat_lt (length hs) ways ≡ true) × (length hs < ways)) ⊎ ((nat_lt (length hs) ways ≡ false) × (ways ≤ length hs))
        → victim_of ways hs ≡ slice_get hs (ways - 1)
    by_test (inl (test, room)) = rw test (sym (slice_get_past hs (ways - 1) (omega arith)))
    by_test (inr (test, full)) =
        let same : length hs - 1 ≡ ways - 1 = omega arith in
        rw test (ap (slice_get hs) same)

held_flag : (dirty : Bool) (line : ℕ) (cells : Line) → held_as (flag_of dirty) line cells ≡ Some (record { line = line; dirty = dirty; cells = cells })
held_flag true line cells = refl
held_flag false line cells = refl

no_entry : (flag : Flag) (line : ℕ) (cells : Line) → held_as flag line cells ≡ None → flag ≡ Empty
no_entry Empty line cells none = refl
no_entry Clean line cells none = cc
no_entry Dirty line cells none = cc

-- a way without a line, or with a clean one, has nothing to write back
pub not_dirty : (flag : Flag) (line : ℕ) (cells : Line) → (flag ≡ Empty) ⊎ (flag ≡ Clean) → dirty_one (held_as flag line cells) ≡ None
not_dirty Empty line cells it = refl
not_dirty Clean line cells it = refl
not_dirty Dirty line cells (inl it) = cc
not_dirty Dirty line cells (inr it) = cc

pub is_dirty : (flag : Flag) (line : ℕ) (cells : Line) → flag ≡ Dirty → dirty_one (held_as flag line cells) ≡ Some (record { line = line; dirty = true; cells = cells })
is_dirty Empty line cells it = cc
is_dirty Clean line cells it = cc
is_dirty Dirty line cells it = refl

-- a set by its number
module _ (sets ways set : ℕ) (a : Arrays) (lists : List (List Held)) (view_is : lists_of sets ways a ≡ lists) (sound : AreSets sets ways a) (below : set < sets) where
  seen : slice_index_or lists set [] ≡ set_list a ways set
  seen = ap (λ (xs : List (List Held)). slice_index_or xs set []) (sym view_is) ∙ list_at sets ways a set below

  pub held_is : (k : ℕ) → k < ways → slice_get (slice_index_or lists set []) k ≡ entry_in a (set * ways + way_of (ranks_from a.ranks (set * ways)) ways k)
  held_is k inside = ap (λ (hs : List Held). slice_get hs k) seen ∙ rank_at sets ways a set sound below k inside

  pub none_is : (k : ℕ) → ways ≤ k → slice_get (slice_index_or lists set []) k ≡ None
  none_is k past = ap (λ (hs : List Held). slice_get hs k) seen ∙ past_at sets ways a set sound below k past

  pub few : length (slice_index_or lists set []) ≤ ways
  few = subst (λ (hs : List Held). length hs ≤ ways) (sym seen) (up_from-length (ranked_in a ways (set * ways)) ways 0)

-- the victim of a line's set, and an entry that is put there
module _ (sets ways l : ℕ) (a : Arrays) (lists : List (List Held)) (view_is : lists_of sets ways a ≡ lists) (sound : AreSets sets ways a) where
  in_set : l % sets < sets
  in_set = let some = sound.some in omega arith

  list_seen : slice_index_or lists (l % sets) [] ≡ set_list a ways (l % sets)
  list_seen = list_is sets ways l a lists view_is sound

  last_rank : ways - 1 < ways
  last_rank = let some = sound.some_way in omega arith

  module _ (way : ℕ) (way_is : way ≡ l % sets * ways + way_of (ranks_from a.ranks (l % sets * ways)) ways (ways - 1)) where
    pub victim_is : dirty_victim_of ways (slice_index_or lists (l % sets) []) ≡ dirty_one (entry_in a way)
    victim_is =
        ap dirty_one
        (victim_removed ways (slice_index_or lists (l % sets) []) sound.some_way (few sets ways (l % sets) a lists view_is sound in_set)
        ∙ held_is sets ways (l % sets) a lists view_is sound in_set (ways - 1) last_rank
        ∙ ap (entry_in a) (sym way_is))

    module _ (dirty : Bool) (cells : Line) (ranks : List ℕ) (promoted : IsPromoted a.ranks ranks (l % sets * ways) ways (slice_index a.ranks way))
        (count : length ranks ≡ sets * ways) (absent : entry_of l (slice_index_or lists (l % sets) []) ≡ None) where
      it : (way_of (ranks_from a.ranks (l % sets * ways)) ways (ways - 1) < ways)
          × (ranks_from a.ranks (l % sets * ways) (way_of (ranks_from a.ranks (l % sets * ways)) ways (ways - 1)) ≡ ways - 1)
      it = (sound.each (l % sets) in_set).ranks.each (ways - 1) last_rank

      put_above : l % sets * ways ≤ way
      put_above = omega arith

      put_inside : way < l % sets * ways + ways
      put_inside = let low = it.0 in omega arith

      way_all : way < sets * ways
      way_all =
          let low = it.0 in
          let place = mul-add-lt (l % sets) ways (way_of (ranks_from a.ranks (l % sets * ways)) ways (ways - 1)) sets in_set low in
          let turned : ways * sets ≡ sets * ways = mul_comm ways sets in
          omega arith

      rank_is : slice_index a.ranks way ≡ ways - 1
      rank_is = ap (slice_index a.ranks) way_is ∙ it.1

      put_front : entry_in (written a way (flag_of dirty) l cells ranks) way ≡ Some (record { line = l; dirty = dirty; cells = cells })
      put_front = written_at (sets * ways) a way (flag_of dirty) l cells ranks sound.all way_all ∙ held_flag dirty l cells

      pub put_sets : AreSets sets ways (written a way (flag_of dirty) l cells ranks)
      put_sets =
          front_sets sets ways a (written a way (flag_of dirty) l cells ranks) (l % sets) way (record { line = l; dirty = dirty; cells = cells }) sound in_set put_above put_inside promoted
          put_front (written_other (sets * ways) a way (flag_of dirty) l cells ranks sound.all) (written_all (sets * ways) a way (flag_of dirty) l cells ranks sound.all count)
          (λ i h above inside other here. absent_at sets ways a (l % sets) sound in_set l (ap (entry_of l) (sym list_seen) ∙ absent) i h above inside here)

      pub put_lists : lists_of sets ways (written a way (flag_of dirty) l cells ranks)
          ≡ slice_set lists (l % sets) (record { line = l; dirty = dirty; cells = cells } ∷ with_room ways (slice_index_or lists (l % sets) []))
      put_lists =
          front_lists sets ways a (written a way (flag_of dirty) l cells ranks) (l % sets) way (record { line = l; dirty = dirty; cells = cells }) sound in_set put_above put_inside promoted
          put_front (written_other (sets * ways) a way (flag_of dirty) l cells ranks sound.all)
          ∙ ap (λ r. slice_set (lists_of sets ways a) (l % sets) (record { line = l; dirty = dirty; cells = cells } ∷ remove (set_list a ways (l % sets)) r)) rank_is
          ∙ ap (λ hs. slice_set (lists_of sets ways a) (l % sets) (record { line = l; dirty = dirty; cells = cells } ∷ remove hs (ways - 1))) (sym list_seen)
          ∙ ap (λ hs. slice_set (lists_of sets ways a) (l % sets) (record { line = l; dirty = dirty; cells = cells } ∷ hs))
          (sym (room_removed ways (slice_index_or lists (l % sets) []) sound.some_way (few sets ways (l % sets) a lists view_is sound in_set)))
          ∙ ap (λ (xs : List (List Held)). slice_set xs (l % sets) (record { line = l; dirty = dirty; cells = cells } ∷ with_room ways (slice_index_or lists (l % sets) []))) view_is

  -- a set with room has a way without a line
  pub some_empty : length (slice_index_or lists (l % sets) []) < ways
      → (r : ℕ) × (r < ways) × IsEmptyAt a.flags (l % sets * ways + way_of (ranks_from a.ranks (l % sets * ways)) ways r)
  some_empty room = (
    length (slice_index_or lists (l % sets) []),
    room,
    no_entry _ _ _ (sym (held_is sets ways (l % sets) a lists view_is sound in_set (length (slice_index_or lists (l % sets) [])) room)
        ∙ slice_get_past (slice_index_or lists (l % sets) []) (length (slice_index_or lists (l % sets) [])) (omega arith)),
  )

  module _ (way : ℕ) (dirty : Bool) (cells : Line) (first_empty : IsFirstEmpty a.ranks a.flags (l % sets * ways) ways way)
      (absent : entry_of l (slice_index_or lists (l % sets) []) ≡ None) where
    r : ℕ
    r = first_empty.rank

    place : (way_of (ranks_from a.ranks (l % sets * ways)) ways first_empty.rank < ways)
        × (ranks_from a.ranks (l % sets * ways) (way_of (ranks_from a.ranks (l % sets * ways)) ways first_empty.rank) ≡ first_empty.rank)
    place = (sound.each (l % sets) in_set).ranks.each first_empty.rank first_empty.below

    placed : IsPlaced a (written a way (flag_of dirty) l cells a.ranks) ways (l % sets * ways) (way_of (ranks_from a.ranks (l % sets * ways)) ways first_empty.rank)
        (record { line = l; dirty = dirty; cells = cells })
    placed = record {
      ranks = λ v v_below. refl;
      last =
          let low = place.0 in
          let bound = mul-add-lt (l % sets) ways (way_of (ranks_from a.ranks (l % sets * ways)) ways first_empty.rank) sets in_set low in
          let turned : ways * sets ≡ sets * ways = mul_comm ways sets in
          let way_is = first_empty.way_is in
          let all : way < sets * ways = omega arith in
          ap (entry_in (written a way (flag_of dirty) l cells a.ranks)) (sym way_is)
          ∙ written_at (sets * ways) a way (flag_of dirty) l cells a.ranks sound.all all ∙ held_flag dirty l cells;
      others = λ v v_below other. written_other (sets * ways) a way (flag_of dirty) l cells a.ranks sound.all (l % sets * ways + v)
          (λ same. other (let e = same ∙ first_empty.way_is in omega arith));
    }

    -- the way had no line, and those of lower ranks have one
    was_empty : entry_in a (l % sets * ways + way_of (ranks_from a.ranks (l % sets * ways)) ways first_empty.rank) ≡ None
    was_empty =
        let empty : slice_index_or a.flags (l % sets * ways + way_of (ranks_from a.ranks (l % sets * ways)) ways first_empty.rank) Empty ≡ Empty =
        ap (λ i. slice_index_or a.flags i Empty) (sym first_empty.way_is) ∙ first_empty.empty in
        rw empty refl

    were_held : (q : ℕ) → q < ranks_from a.ranks (l % sets * ways) (way_of (ranks_from a.ranks (l % sets * ways)) ways first_empty.rank)
        → ranked_in a ways (l % sets * ways) q ≢ None
    were_held q before none =
        let same = place.1 in
        first_empty.held q (omega arith) (no_entry _ _ _ none)

    place_elsewhere : StaysElsewhere a (written a way (flag_of dirty) l cells a.ranks) ways (l % sets * ways)
    place_elsewhere = record {
      ranks = λ i out. refl;
      entries = λ i out. written_other (sets * ways) a way (flag_of dirty) l cells a.ranks sound.all i (apart i out);
    }
      where
        apart : (i : ℕ) → (i < l % sets * ways) ⊎ (l % sets * ways + ways ≤ i) → i ≢ way
        apart i (inl low) same = let way_is = first_empty.way_is in omega arith
        apart i (inr high) same = let way_is = first_empty.way_is in let below = place.0 in omega arith

    pub place_sets : AreSets sets ways (written a way (flag_of dirty) l cells a.ranks)
    place_sets =
        changed_sets sets ways a (written a way (flag_of dirty) l cells a.ranks) (l % sets) sound in_set place_elsewhere
        (written_all (sets * ways) a way (flag_of dirty) l cells a.ranks sound.all sound.all.ranks)
        (placed_ordered a (written a way (flag_of dirty) l cells a.ranks) ways (l % sets * ways) (way_of (ranks_from a.ranks (l % sets * ways)) ways first_empty.rank)
        (record { line = l; dirty = dirty; cells = cells }) place.0 (sound.each (l % sets) in_set) placed was_empty were_held
        (λ v h v_below here.
        absent_at sets ways a (l % sets) sound in_set l (ap (entry_of l) (sym list_seen) ∙ absent) (l % sets * ways + v) h (omega arith) (omega arith) here))

    pub place_lists : lists_of sets ways (written a way (flag_of dirty) l cells a.ranks)
        ≡ slice_set lists (l % sets) (slice_index_or lists (l % sets) [] ++ record { line = l; dirty = dirty; cells = cells } ∷ [])
    place_lists =
        changed_lists sets ways a (written a way (flag_of dirty) l cells a.ranks) (l % sets) sound in_set place_elsewhere
        (set_list a ways (l % sets) ++ record { line = l; dirty = dirty; cells = cells } ∷ [])
        (placed_is a (written a way (flag_of dirty) l cells a.ranks) ways (l % sets * ways) (way_of (ranks_from a.ranks (l % sets * ways)) ways first_empty.rank)
        (record { line = l; dirty = dirty; cells = cells }) place.0 (sound.each (l % sets) in_set) placed was_empty were_held)
        ∙ ap (λ hs. slice_set (lists_of sets ways a) (l % sets) (hs ++ record { line = l; dirty = dirty; cells = cells } ∷ [])) (sym list_seen)
        ∙ ap (λ (xs : List (List Held)). slice_set xs (l % sets) (slice_index_or lists (l % sets) [] ++ record { line = l; dirty = dirty; cells = cells } ∷ [])) view_is

-- sets that hold no line
module _ (sets ways : ℕ) (a : Arrays) (some : 1 ≤ sets) (some_way : 1 ≤ ways) (small : sets * ways ≤ MOST_HELD) (all : HaveAllWays (sets * ways) a)
    (ranks : (set : ℕ) → set < sets → AreRanks ways (ranks_from a.ranks (set * ways))) (empty : (i : ℕ) → IsEmptyAt a.flags i) where
  nothing : (i : ℕ) → entry_in a i ≡ None
  nothing i = rw (empty i) refl

  pub empty_sets : AreSets sets ways a
  empty_sets = record {
    some = some;
    some_way = some_way;
    small = small;
    all = all;
    each = λ set below. record {
      ranks = ranks set below;
      no_gap = λ i j le lt none. nothing (set * ways + way_of (ranks_from a.ranks (set * ways)) ways j);
      single = λ v w g h v_below w_below at_v at_w line. absurd (none-some g (sym (nothing (set * ways + v)) ∙ at_v));
    };
  }

  pub empty_lists : lists_of sets ways a ≡ replicate sets []
  empty_lists =
      same_lists (lists_of sets ways a) (replicate sets []) (length-map-range_with_len (set_list a ways) 0 sets ∙ sym (length-replicate sets []))
      (λ k d inside.
      let below : k < sets = rw (length-map-range_with_len (set_list a ways) 0 sets) at inside in
      get_or-map-range_with_len (set_list a ways) 0 sets k k d below (omega arith)
      ∙ up_from-none (ranked_in a ways (k * ways)) ways 0 (λ r. nothing (k * ways + way_of (ranks_from a.ranks (k * ways)) ways r))
      ∙ sym (get_or-replicate sets k [] d below))

-- the ranks of ways that were not used yet
pub new_are_ranks : (sets ways : ℕ) (ranks : List ℕ) → 1 ≤ ways → AreNewRanks (sets * ways) ways ranks → (set : ℕ) → set < sets → AreRanks ways (ranks_from ranks (set * ways))
new_are_ranks sets ways ranks some new set below = ranks_same (λ w. w) (ranks_from ranks (set * ways)) ways own (own_ranks ways)
  where
    own : (w : ℕ) → w < ways → ranks_from ranks (set * ways) w ≡ w
    own w w_below =
        let bound = mul-add-lt set ways w sets below w_below in
        let turned : ways * sets ≡ sets * ways = mul_comm ways sets in
        let inside : set * ways + w < sets * ways = omega arith in
        new.each (set * ways + w) inside ∙ mul-add-mod_self_right set ways w ∙ mod-eq_of_lt w_below

-- flags of ways that hold no line
pub all_empty : (n i : ℕ) → IsEmptyAt (replicate n Empty) i
all_empty zero i = refl
all_empty (suc n) zero = refl
all_empty (suc n) (suc i) = all_empty n i
