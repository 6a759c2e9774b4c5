-- What the flat arrays show of a set.
use Rattle.std.proofs.Common.{ℕ, ◌+◌, ◌*◌, ◌<◌, ◌≤◌, ◌≡◌, ◌≢◌, ◌∙◌, ◌⊎◌, inl, inr, sym, ap, refl, subst, List, [], ◌∷◌, ◌++◌, Some, None, length, arith, zero, suc, slice_index, slice_index_or, slice_set}
use Rattle.std.specs.List.{slice_get, remove}
use Rattle.std.proofs.lemmas.Bool.{cases_lt, cases_eq, cases_order}
use Rattle.std.proofs.lemmas.Bool.Decides.{nat_tests}
use Rattle.std.proofs.lemmas.Option.{same_Some, none-some}
use Rattle.std.proofs.Math.Nat.{mul-le-mul_right}
use Rattle.std.proofs.lemmas.List.{same_lists, length-set, get_or-set_same, get_or-set_other}
use Rattle.std.proofs.lemmas.List.FromFn.{get_or-map-range_with_len, length-map-range_with_len}
use Rattle.poison_mem.specs.declared.cache_state.Held.{Held}
use Rattle.poison_cache.specs.Recent.{entry_of, without}
use Rattle.poison_cache.specs.Ranks.{way_of, renewed}
use Rattle.poison_cache.specs.Positions.{up_from}
use Rattle.poison_cache.specs.Ways.{ranks_from}
use Rattle.poison_cache.specs.Sets.{Arrays, entry_in, ranked_in, set_list, lists_of, IsOrderedSet, HaveAllWays, AreSets}
use Rattle.poison_cache.proofs.Positions.{up_from-at, up_from-past, up_from-same, fronted_no_gap, fronted_list, placed_no_gap, placed_list}
use Rattle.poison_cache.proofs.Ranks.{own_way, way_same, ranks_same, way_front, way_moved, way_stays, ranks_renewed}

-- an entry at an index is the one of its line, where none before it is
pub first_of_line : (l : ℕ) (hs : List Held) (k : ℕ) (d : Held) → slice_get hs k ≡ Some d → d.line ≡ l
    → ((i : ℕ) (e : Held) → i < k → slice_get hs i ≡ Some e → e.line ≢ l) → (entry_of l hs ≡ Some d) × (without l hs ≡ remove hs k)
first_of_line l [] k d at_k same others = cc
first_of_line l (h ∷ hs) zero d at_k same others = (grind (arith, nat_tests), grind (arith, nat_tests))
first_of_line l (h ∷ hs) (suc k) d at_k same others =
    let other : h.line ≢ l = others 0 h (omega arith) refl in
    let rest = first_of_line l hs k d at_k same (λ i e below. others (suc i) e (omega arith)) in
    (grind (arith, nat_tests), grind (arith, nat_tests))

pub none_of_line : (l : ℕ) (hs : List Held) → ((i : ℕ) (e : Held) → slice_get hs i ≡ Some e → e.line ≢ l) → entry_of l hs ≡ None
none_of_line l [] others = refl
none_of_line l (h ∷ hs) others =
    let other : h.line ≢ l = others 0 h refl in
    let rest = none_of_line l hs (λ i e. others (suc i) e) in
    grind (arith, nat_tests)

-- one set
module _ (a : Arrays) (ways first : ℕ) (ordered : IsOrderedSet a ways first) where
  pub at_rank : (r : ℕ) → r < ways → slice_get (up_from (ranked_in a ways first) 0 ways) r ≡ ranked_in a ways first r
  at_rank r below =
      up_from-at (ranked_in a ways first) ways 0 r (λ i j le lt none. ordered.no_gap i j le (omega arith) none) below
      ∙ ap (ranked_in a ways first) (omega arith)

  -- the entry of a way is at its rank
  pub at_own_rank : (w : ℕ) → w < ways → slice_get (up_from (ranked_in a ways first) 0 ways) (ranks_from a.ranks first w) ≡ entry_in a (first + w)
  at_own_rank w below =
      at_rank (ranks_from a.ranks first w) (ordered.ranks.below w below)
      ∙ ap (λ v. entry_in a (first + v)) (own_way (ranks_from a.ranks first) ways w ordered.ranks below)

  -- an entry of the list is that of a way
  way_at : (r : ℕ) (e : Held) → slice_get (up_from (ranked_in a ways first) 0 ways) r ≡ Some e
      → (w : ℕ) × (w < ways) × (ranks_from a.ranks first w ≡ r) × (entry_in a (first + w) ≡ Some e)
  way_at r e found = by_rank (cases_lt r ways)
    where
      by_rank : (r < ways) ⊎ (ways ≤ r) → (w : ℕ) × (w < ways) × (ranks_from a.ranks first w ≡ r) × (entry_in a (first + w) ≡ Some e)
      by_rank (inl below) =
          let way = ordered.ranks.each r below in
          (way_of (ranks_from a.ranks first) ways r, way.0, way.1, sym (at_rank r below) ∙ found)
      by_rank (inr past) = absurd (none-some e (sym (up_from-past (ranked_in a ways first) ways 0 r past) ∙ found))

  pub hit_found : (w : ℕ) (h : Held) (l : ℕ) → w < ways → entry_in a (first + w) ≡ Some h → h.line ≡ l
      → (entry_of l (up_from (ranked_in a ways first) 0 ways) ≡ Some h)
      × (without l (up_from (ranked_in a ways first) 0 ways) ≡ remove (up_from (ranked_in a ways first) 0 ways) (ranks_from a.ranks first w))
  hit_found w h l below here same =
      first_of_line l (up_from (ranked_in a ways first) 0 ways) (ranks_from a.ranks first w) h (at_own_rank w below ∙ here) same
      (λ i e before found line. apart i e before (way_at i e found) line)
    where
      apart : (i : ℕ) (e : Held) → i < ranks_from a.ranks first w → ((v : ℕ) × (v < ways) × (ranks_from a.ranks first v ≡ i) × (entry_in a (first + v) ≡ Some e)) → e.line ≡ l → ⊥
      apart i e before it line =
          let e_same : it.0 ≡ w = ordered.single it.0 w e h it.1 below it.3 here (line ∙ sym same) in
          let r_same : ranks_from a.ranks first it.0 ≡ ranks_from a.ranks first w = ap (ranks_from a.ranks first) e_same in
          let r_at = it.2 in
          omega arith

  pub miss_found : (l : ℕ) → ((w : ℕ) (h : Held) → w < ways → entry_in a (first + w) ≡ Some h → h.line ≢ l)
      → entry_of l (up_from (ranked_in a ways first) 0 ways) ≡ None
  miss_found l others =
      none_of_line l (up_from (ranked_in a ways first) 0 ways)
      (λ i e found line. (let it = way_at i e found in others it.0 e it.1 it.3 line))

  -- what is not found is held by no way
  pub not_held : (l : ℕ) → entry_of l (up_from (ranked_in a ways first) 0 ways) ≡ None → (w : ℕ) (h : Held) → w < ways
      → entry_in a (first + w) ≡ Some h → h.line ≢ l
  not_held l absent w h below here line = none-some h (sym absent ∙ (hit_found w h l below here line).0)

-- the way w of a set became the most recent, and holds d
pub record IsFronted (a b : Arrays) (ways first w : ℕ) (d : Held) : Type 0 where
  pub ranks : (v : ℕ) → v < ways → ranks_from b.ranks first v ≡ renewed (ranks_from a.ranks first w) (ranks_from a.ranks first v)
  pub front : entry_in b (first + w) ≡ Some d
  pub others : (v : ℕ) → v < ways → v ≢ w → entry_in b (first + v) ≡ entry_in a (first + v)

module _ (a b : Arrays) (ways first w : ℕ) (d : Held) (below : w < ways) (ordered : IsOrderedSet a ways first) (after : IsFronted a b ways first w d) where
  hit_below : ranks_from a.ranks first w < ways
  hit_below = ordered.ranks.below w below

  other_way : (r : ℕ) → r < ways → r ≢ ranks_from a.ranks first w → way_of (ranks_from a.ranks first) ways r ≢ w
  other_way r inside other same = other (sym (ordered.ranks.each r inside).1 ∙ ap (ranks_from a.ranks first) same)

  front_is : ranked_in b ways first 0 ≡ Some d
  front_is =
      ap (λ v. entry_in b (first + v))
      (way_front (ranks_from a.ranks first) (ranks_from b.ranks first) ways (ranks_from a.ranks first w) hit_below ordered.ranks after.ranks
      ∙ own_way (ranks_from a.ranks first) ways w ordered.ranks below)
      ∙ after.front

  moved_is : (r : ℕ) → r < ranks_from a.ranks first w → ranked_in b ways first (suc r) ≡ ranked_in a ways first r
  moved_is r before =
      let most = hit_below in
      let inside : r < ways = omega arith in
      ap (λ v. entry_in b (first + v)) (way_moved (ranks_from a.ranks first) (ranks_from b.ranks first) ways (ranks_from a.ranks first w) hit_below ordered.ranks after.ranks r before)
      ∙ after.others (way_of (ranks_from a.ranks first) ways r) (ordered.ranks.each r inside).0 (other_way r inside (λ same. absurd (omega arith)))

  stays_is : (r : ℕ) → ranks_from a.ranks first w < r → r < ways → ranked_in b ways first r ≡ ranked_in a ways first r
  stays_is r behind inside =
      ap (λ v. entry_in b (first + v)) (way_stays (ranks_from a.ranks first) (ranks_from b.ranks first) ways (ranks_from a.ranks first w) hit_below ordered.ranks after.ranks r behind inside)
      ∙ after.others (way_of (ranks_from a.ranks first) ways r) (ordered.ranks.each r inside).0 (other_way r inside (λ same. absurd (omega arith)))

  pub fronted_is : up_from (ranked_in b ways first) 0 ways ≡ d ∷ remove (up_from (ranked_in a ways first) 0 ways) (ranks_from a.ranks first w)
  fronted_is = fronted_list (ranked_in a ways first) ways (ranks_from a.ranks first w) hit_below ordered.no_gap (ranked_in b ways first) d front_is moved_is stays_is

  pub fronted_ordered : ((v : ℕ) (h : Held) → v < ways → v ≢ w → entry_in a (first + v) ≡ Some h → h.line ≢ d.line) → IsOrderedSet b ways first
  fronted_ordered alone = record {
    ranks = ranks_renewed (ranks_from a.ranks first) (ranks_from b.ranks first) ways (ranks_from a.ranks first w) hit_below ordered.ranks after.ranks;
    no_gap = fronted_no_gap (ranked_in a ways first) ways (ranks_from a.ranks first w) hit_below ordered.no_gap (ranked_in b ways first) d front_is moved_is stays_is;
    single = λ u v g h u_below v_below at_u at_v line. by_way u v g h u_below v_below at_u at_v line (cases_eq u w) (cases_eq v w);
  }
    where
      by_way : (u v : ℕ) (g h : Held) → u < ways → v < ways → entry_in b (first + u) ≡ Some g → entry_in b (first + v) ≡ Some h → g.line ≡ h.line
          → (u ≡ w) ⊎ (u ≢ w) → (v ≡ w) ⊎ (v ≢ w) → u ≡ v
      by_way u v g h u_below v_below at_u at_v line (inl u_is) (inl v_is) = u_is ∙ sym v_is
      by_way u v g h u_below v_below at_u at_v line (inl u_is) (inr v_other) =
          let g_is : d ≡ g = same_Some d g (sym after.front ∙ ap (λ x. entry_in b (first + x)) (sym u_is) ∙ at_u) in
          absurd (alone v h v_below v_other (sym (after.others v v_below v_other) ∙ at_v) (sym line ∙ ap (λ (x : Held). x.line) (sym g_is)))
      by_way u v g h u_below v_below at_u at_v line (inr u_other) (inl v_is) =
          let h_is : d ≡ h = same_Some d h (sym after.front ∙ ap (λ x. entry_in b (first + x)) (sym v_is) ∙ at_v) in
          absurd (alone u g u_below u_other (sym (after.others u u_below u_other) ∙ at_u) (line ∙ ap (λ (x : Held). x.line) (sym h_is)))
      by_way u v g h u_below v_below at_u at_v line (inr u_other) (inr v_other) =
          ordered.single u v g h u_below v_below (sym (after.others u u_below u_other) ∙ at_u) (sym (after.others v v_below v_other) ∙ at_v) line

-- a way w of a set without a line holds d, and the ranks are as they were
pub record IsPlaced (a b : Arrays) (ways first w : ℕ) (d : Held) : Type 0 where
  pub ranks : (v : ℕ) → v < ways → ranks_from b.ranks first v ≡ ranks_from a.ranks first v
  pub last : entry_in b (first + w) ≡ Some d
  pub others : (v : ℕ) → v < ways → v ≢ w → entry_in b (first + v) ≡ entry_in a (first + v)

module _ (a b : Arrays) (ways first w : ℕ) (d : Held) (below : w < ways) (ordered : IsOrderedSet a ways first) (after : IsPlaced a b ways first w d)
    (empty : entry_in a (first + w) ≡ None) (full : (r : ℕ) → r < ranks_from a.ranks first w → ranked_in a ways first r ≢ None) where
  place_below : ranks_from a.ranks first w < ways
  place_below = ordered.ranks.below w below

  way_kept : (r : ℕ) → way_of (ranks_from b.ranks first) ways r ≡ way_of (ranks_from a.ranks first) ways r
  way_kept r = way_same (ranks_from a.ranks first) (ranks_from b.ranks first) ways r after.ranks

  none_is : ranked_in a ways first (ranks_from a.ranks first w) ≡ None
  none_is = ap (λ v. entry_in a (first + v)) (own_way (ranks_from a.ranks first) ways w ordered.ranks below) ∙ empty

  last_is : ranked_in b ways first (ranks_from a.ranks first w) ≡ Some d
  last_is =
      ap (λ v. entry_in b (first + v)) (way_kept (ranks_from a.ranks first w) ∙ own_way (ranks_from a.ranks first) ways w ordered.ranks below) ∙ after.last

  kept_is : (r : ℕ) → r ≢ ranks_from a.ranks first w → r < ways → ranked_in b ways first r ≡ ranked_in a ways first r
  kept_is r other inside =
      ap (λ v. entry_in b (first + v)) (way_kept r)
      ∙ after.others (way_of (ranks_from a.ranks first) ways r) (ordered.ranks.each r inside).0 (λ same. other (sym (ordered.ranks.each r inside).1 ∙ ap (ranks_from a.ranks first) same))

  pub placed_is : up_from (ranked_in b ways first) 0 ways ≡ up_from (ranked_in a ways first) 0 ways ++ d ∷ []
  placed_is = placed_list (ranked_in a ways first) ways (ranks_from a.ranks first w) place_below ordered.no_gap none_is full (ranked_in b ways first) d last_is kept_is

  pub placed_ordered : ((v : ℕ) (h : Held) → v < ways → entry_in a (first + v) ≡ Some h → h.line ≢ d.line) → IsOrderedSet b ways first
  placed_ordered alone = record {
    ranks = ranks_same (ranks_from a.ranks first) (ranks_from b.ranks first) ways after.ranks ordered.ranks;
    no_gap = placed_no_gap (ranked_in a ways first) ways (ranks_from a.ranks first w) place_below ordered.no_gap none_is full (ranked_in b ways first) d last_is kept_is;
    single = λ u v g h u_below v_below at_u at_v line. by_way u v g h u_below v_below at_u at_v line (cases_eq u w) (cases_eq v w);
  }
    where
      by_way : (u v : ℕ) (g h : Held) → u < ways → v < ways → entry_in b (first + u) ≡ Some g → entry_in b (first + v) ≡ Some h → g.line ≡ h.line
          → (u ≡ w) ⊎ (u ≢ w) → (v ≡ w) ⊎ (v ≢ w) → u ≡ v
      by_way u v g h u_below v_below at_u at_v line (inl u_is) (inl v_is) = u_is ∙ sym v_is
      by_way u v g h u_below v_below at_u at_v line (inl u_is) (inr v_other) =
          let g_is : d ≡ g = same_Some d g (sym after.last ∙ ap (λ x. entry_in b (first + x)) (sym u_is) ∙ at_u) in
          absurd (alone v h v_below (sym (after.others v v_below v_other) ∙ at_v) (sym line ∙ ap (λ (x : Held). x.line) (sym g_is)))
      by_way u v g h u_below v_below at_u at_v line (inr u_other) (inl v_is) =
          let h_is : d ≡ h = same_Some d h (sym after.last ∙ ap (λ x. entry_in b (first + x)) (sym v_is) ∙ at_v) in
          absurd (alone u g u_below (sym (after.others u u_below u_other) ∙ at_u) (line ∙ ap (λ (x : Held). x.line) (sym h_is)))
      by_way u v g h u_below v_below at_u at_v line (inr u_other) (inr v_other) =
          ordered.single u v g h u_below v_below (sym (after.others u u_below u_other) ∙ at_u) (sym (after.others v v_below v_other) ∙ at_v) line

-- the ways of a set are as they were
module _ (a b : Arrays) (ways first : ℕ) (ranks : (w : ℕ) → w < ways → ranks_from b.ranks first w ≡ ranks_from a.ranks first w)
    (entries : (w : ℕ) → w < ways → entry_in b (first + w) ≡ entry_in a (first + w)) (ordered : IsOrderedSet a ways first) where
  ranked_same : (r : ℕ) → r < ways → ranked_in b ways first r ≡ ranked_in a ways first r
  ranked_same r below =
      ap (λ v. entry_in b (first + v)) (way_same (ranks_from a.ranks first) (ranks_from b.ranks first) ways r ranks)
      ∙ entries (way_of (ranks_from a.ranks first) ways r) (ordered.ranks.each r below).0

  pub same_list : up_from (ranked_in b ways first) 0 ways ≡ up_from (ranked_in a ways first) 0 ways
  same_list = up_from-same (ranked_in a ways first) (ranked_in b ways first) ways 0 (λ i le lt. ranked_same i (omega arith))

  pub same_ordered : IsOrderedSet b ways first
  same_ordered = record {
    ranks = ranks_same (ranks_from a.ranks first) (ranks_from b.ranks first) ways ranks ordered.ranks;
    no_gap = λ i j le lt none. ranked_same j lt ∙ ordered.no_gap i j le lt (sym (ranked_same i (omega arith)) ∙ none);
    single = λ u v g h u_below v_below at_u at_v line.
        ordered.single u v g h u_below v_below (sym (entries u u_below) ∙ at_u) (sym (entries v v_below) ∙ at_v) line;
  }

-- the ways of two sets are apart
pub sets_apart : (ways s t w : ℕ) → w < ways → t ≢ s → (t * ways + w < s * ways) ⊎ (s * ways + ways ≤ t * ways + w)
sets_apart ways s t w below other = by_order (cases_order t s)
  where
    row : (m n : ℕ) → m < n → m * ways + ways ≤ n * ways
    row m n lt =
        let it : suc m * ways ≤ n * ways = mul-le-mul_right ways lt in
        omega arith

    by_order : (t ≡ s) ⊎ ((t < s) ⊎ (s < t)) → (t * ways + w < s * ways) ⊎ (s * ways + ways ≤ t * ways + w)
    by_order (inl same) = absurd (other same)
    by_order (inr (inl lower)) = inl (let it = row t s lower in omega arith)
    by_order (inr (inr higher)) = inr (let it = row s t higher in omega arith)

-- all but the ways of one set are as they were
pub record StaysElsewhere (a b : Arrays) (ways first : ℕ) : Type 0 where
  pub ranks : (i : ℕ) → (i < first) ⊎ (first + ways ≤ i) → slice_index b.ranks i ≡ slice_index a.ranks i
  pub entries : (i : ℕ) → (i < first) ⊎ (first + ways ≤ i) → entry_in b i ≡ entry_in a i

pub list_at : (sets ways : ℕ) (a : Arrays) (set : ℕ) → set < sets → slice_index_or (lists_of sets ways a) set [] ≡ set_list a ways set
list_at sets ways a set below = get_or-map-range_with_len (set_list a ways) 0 sets set set [] below (omega arith)

module _ (sets ways : ℕ) (a b : Arrays) (set : ℕ) (sound : AreSets sets ways a) (below : set < sets) (elsewhere : StaysElsewhere a b ways (set * ways)) where
  other_list : (t : ℕ) → t < sets → t ≢ set → set_list b ways t ≡ set_list a ways t
  other_list t inside other =
      same_list a b ways (t * ways) (λ w w_below. elsewhere.ranks (t * ways + w) (sets_apart ways set t w w_below other))
      (λ w w_below. elsewhere.entries (t * ways + w) (sets_apart ways set t w w_below other)) (sound.each t inside)

  pub changed_sets : HaveAllWays (sets * ways) b → IsOrderedSet b ways (set * ways) → AreSets sets ways b
  changed_sets all here = record {
    some = sound.some;
    some_way = sound.some_way;
    small = sound.small;
    all = all;
    each = λ t inside. by_set t inside (cases_eq t set);
  }
    where
      by_set : (t : ℕ) → t < sets → (t ≡ set) ⊎ (t ≢ set) → IsOrderedSet b ways (t * ways)
      by_set t inside (inl same) = subst (λ n. IsOrderedSet b ways (n * ways)) (sym same) here
      by_set t inside (inr other) =
          same_ordered a b ways (t * ways) (λ w w_below. elsewhere.ranks (t * ways + w) (sets_apart ways set t w w_below other))
          (λ w w_below. elsewhere.entries (t * ways + w) (sets_apart ways set t w w_below other)) (sound.each t inside)

  pub changed_lists : (new : List Held) → set_list b ways set ≡ new → lists_of sets ways b ≡ slice_set (lists_of sets ways a) set new
  changed_lists new is = same_lists (lists_of sets ways b) (slice_set (lists_of sets ways a) set new) same_length at_set
    where
      count : (c : Arrays) → length (lists_of sets ways c) ≡ sets
      count c = length-map-range_with_len (set_list c ways) 0 sets

      same_length : length (lists_of sets ways b) ≡ length (slice_set (lists_of sets ways a) set new)
      same_length = count b ∙ sym (count a) ∙ sym (length-set (lists_of sets ways a) set new)

      at_b : (t : ℕ) (d : List Held) → t < sets → slice_index_or (lists_of sets ways b) t d ≡ set_list b ways t
      at_b t d inside = get_or-map-range_with_len (set_list b ways) 0 sets t t d inside (omega arith)

      at_a : (t : ℕ) (d : List Held) → t < sets → slice_index_or (lists_of sets ways a) t d ≡ set_list a ways t
      at_a t d inside = get_or-map-range_with_len (set_list a ways) 0 sets t t d inside (omega arith)

      by_set : (t : ℕ) (d : List Held) → t < sets → (t ≡ set) ⊎ (t ≢ set) → slice_index_or (lists_of sets ways b) t d ≡ slice_index_or (slice_set (lists_of sets ways a) set new) t d
      by_set t d inside (inl same) =
          at_b t d inside ∙ ap (set_list b ways) same ∙ is
          ∙ sym (ap (λ n. slice_index_or (slice_set (lists_of sets ways a) set new) n d) same ∙ get_or-set_same (lists_of sets ways a) set new d (rw (count a) below))
      by_set t d inside (inr other) =
          at_b t d inside ∙ other_list t inside other ∙ sym (at_a t d inside) ∙ sym (get_or-set_other (lists_of sets ways a) set t new d other)

      at_set : (t : ℕ) (d : List Held) → t < length (lists_of sets ways b) → slice_index_or (lists_of sets ways b) t d ≡ slice_index_or (slice_set (lists_of sets ways a) set new) t d
      at_set t d inside = by_set t d (rw (count b) at inside) (cases_eq t set)
