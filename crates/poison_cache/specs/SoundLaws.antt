-- Each call keeps the lists sound.
use Rattle.std.proofs.Common.{ℕ, ◌+◌, ◌-◌, ◌*◌, ◌%◌, ◌<◌, ◌≤◌, ◌≡◌, ◌≢◌, ◌∙◌, sym, refl, subst, List, [], ◌∷◌, Option, None, Some, length, take, Bool, true, false, eqb, arith, zero, suc, ◌⊎◌, inl, inr}
use Rattle.std.specs.List.{AllByRecursion, slice_get}
use Rattle.std.proofs.lemmas.Bool.Decides.{nat_tests, eqb_tells}
use Rattle.std.specs.Prelude.{slice_index_or, slice_set}
use Rattle.poison_mem.specs.declared.cache_state.Held.{Held}
use Rattle.poison_mem.specs.Level.{Level, InRange}
use Rattle.poison_cache.specs.Recent.{entry_of, without}
use Rattle.std.proofs.lemmas.List.{get_or-set_other, get_or-set_same, length-set, length-take}
use Rattle.std.proofs.lemmas.Option.{slice_get-get_or, slice_get_within}
use Rattle.std.proofs.Common.{nat_lt}
use Rattle.poison_mem.specs.declared.line.Line.{Line}
use Rattle.poison_cache.specs.LogTo.{LogTo}
use Rattle.poison_cache.specs.Cache.{without_victim, room_as, room_in, get_as, get_in, put_as, put_in}
use Rattle.poison_cache.specs.Sound.{IsHeldIn, IsSoundList, IsSoundCache}

pub none_some : {h : Held} → None ≡ Some h → ⊥
none_some e = cc

-- an entry that is found is of the line
pub entry_line : (l : ℕ) (hs : List Held) (h : Held) → entry_of l hs ≡ Some h → h.line ≡ l
entry_line l [] h found = cc
entry_line l (k ∷ hs) h found = grind (arith, nat_tests, entry_line l hs h)

-- other entries stay absent
pub without-absent : (l k : ℕ) (hs : List Held) → entry_of k hs ≡ None → entry_of k (without l hs) ≡ None
without-absent l k [] absent = refl
without-absent l k (h ∷ hs) absent = grind (arith, nat_tests, without-absent l k hs)

-- the entry that is taken out was one
pub without-length : (l : ℕ) (hs : List Held) (h : Held) → entry_of l hs ≡ Some h → length (without l hs) + 1 ≡ length hs
without-length l [] h found = cc
without-length l (k ∷ hs) h found = grind (arith, nat_tests, without-length l hs h)

pub take-absent : (n k : ℕ) (hs : List Held) → entry_of k hs ≡ None → entry_of k (take n hs) ≡ None
take-absent zero k hs absent = refl
take-absent (suc n) k [] absent = refl
take-absent (suc n) k (h ∷ hs) absent = grind (arith, nat_tests, take-absent n k hs)

module _ (words sets set : ℕ) where
  pub sound-found : (l : ℕ) (hs : List Held) (h : Held) → IsSoundList words sets set hs → entry_of l hs ≡ Some h → IsHeldIn words sets set h
  sound-found l [] h sound found = cc
  sound-found l (k ∷ hs) h sound found = grind (arith, nat_tests, sound-found l hs h sound.2)

  pub sound-without : (l : ℕ) (hs : List Held) → IsSoundList words sets set hs → IsSoundList words sets set (without l hs)
  sound-without l [] sound = tt
  sound-without l (h ∷ hs) sound = grind (arith, nat_tests, sound-without l hs sound.2, without-absent l h.line hs sound.1)

  -- the entry that is taken out was the only one
  pub without-gone : (l : ℕ) (hs : List Held) → IsSoundList words sets set hs → entry_of l (without l hs) ≡ None
  without-gone l [] sound = refl
  without-gone l (h ∷ hs) sound = grind (arith, nat_tests, without-gone l hs sound.2, sound.1)

  pub sound-take : (n : ℕ) (hs : List Held) → IsSoundList words sets set hs → IsSoundList words sets set (take n hs)
  sound-take zero hs sound = tt
  sound-take (suc n) [] sound = tt
  sound-take (suc n) (h ∷ hs) sound = (sound.0, take-absent n h.line hs sound.1, sound-take n hs sound.2)

  -- every entry's line can be put below
  pub sound-in_range : {S : Type 0} (level : Level S) (below : S) → words ≡ level.words below → (hs : List Held) → IsSoundList words sets set hs
      → AllByRecursion (λ h. InRange level below h.line) hs
  sound-in_range level below same [] sound = tt
  sound-in_range level below same (h ∷ hs) sound = (subst (λ n. 8 * h.line + 7 < n) same sound.0.in_range, sound-in_range level below same hs sound.2)

  module _ {S : Type 0} (level : Level S) (log_to : LogTo) (ways : ℕ) where
    without_victim-sound : (last : Option Held) (hs : List Held) (below : S) → IsSoundList words sets set hs → IsSoundList words sets set (without_victim last level log_to hs below).entries
    without_victim-sound None hs below sound = sound
    without_victim-sound (Some h) hs below sound = sound-take (length hs - 1) hs sound

    room_as-sound : (has_room : Bool) (hs : List Held) (below : S) → IsSoundList words sets set hs → IsSoundList words sets set (room_as has_room level log_to hs below).entries
    room_as-sound true hs below sound = sound
    room_as-sound false hs below sound = without_victim-sound (slice_get hs (length hs - 1)) hs below sound

    room-sound : (hs : List Held) (below : S) → IsSoundList words sets set hs → IsSoundList words sets set (room_in level log_to ways hs below).entries
    unfolding room_in
    room-sound hs below sound = room_as-sound (nat_lt (length hs) ways) hs below sound

    without_victim-absent : (last : Option Held) (k : ℕ) (hs : List Held) (below : S) → entry_of k hs ≡ None → entry_of k (without_victim last level log_to hs below).entries ≡ None
    without_victim-absent None k hs below absent = absent
    without_victim-absent (Some h) k hs below absent = take-absent (length hs - 1) k hs absent

    room_as-absent : (has_room : Bool) (k : ℕ) (hs : List Held) (below : S) → entry_of k hs ≡ None → entry_of k (room_as has_room level log_to hs below).entries ≡ None
    room_as-absent true k hs below absent = absent
    room_as-absent false k hs below absent = without_victim-absent (slice_get hs (length hs - 1)) k hs below absent

    pub room-absent : (k : ℕ) (hs : List Held) (below : S) → entry_of k hs ≡ None → entry_of k (room_in level log_to ways hs below).entries ≡ None
    unfolding room_in
    room-absent k hs below absent = room_as-absent (nat_lt (length hs) ways) k hs below absent

    get_as-sound : (entry : Option Held) (hs : List Held) (below : S) (l : ℕ) → entry_of l hs ≡ entry → 8 * l + 7 < words → l % sets ≡ set
        → IsSoundList words sets set hs → IsSoundList words sets set (get_as entry level log_to ways hs below l).entries
    get_as-sound (Some h) hs below l found in_range in_set sound =
        let same = entry_line l hs h found in
        (sound-found l hs h sound found, subst (λ k. entry_of k (without l hs) ≡ None) (sym same) (without-gone l hs sound), sound-without l hs sound)
    get_as-sound None hs below l found in_range in_set sound =
        (record { in_range = in_range; in_set = in_set }, room-absent l hs below found, room-sound hs below sound)

    pub get-sound : (hs : List Held) (below : S) (l : ℕ) → 8 * l + 7 < words → l % sets ≡ set
        → IsSoundList words sets set hs → IsSoundList words sets set (get_in level log_to ways hs below l).entries
    unfolding get_in
    get-sound hs below l in_range in_set sound = get_as-sound (entry_of l hs) hs below l refl in_range in_set sound

    put_as-sound : (entry : Option Held) (hs : List Held) (below : S) (l : ℕ) (cells : Line) → entry_of l hs ≡ entry → 8 * l + 7 < words → l % sets ≡ set
        → IsSoundList words sets set hs → IsSoundList words sets set (put_as entry level log_to ways hs below l cells).entries
    put_as-sound (Some h) hs below l cells found in_range in_set sound =
        (record { in_range = in_range; in_set = in_set }, without-gone l hs sound, sound-without l hs sound)
    put_as-sound None hs below l cells found in_range in_set sound =
        (record { in_range = in_range; in_set = in_set }, room-absent l hs below found, room-sound hs below sound)

    pub put-sound : (hs : List Held) (below : S) (l : ℕ) (cells : Line) → 8 * l + 7 < words → l % sets ≡ set
        → IsSoundList words sets set hs → IsSoundList words sets set (put_in level log_to ways hs below l cells).entries
    unfolding put_in
    put-sound hs below l cells in_range in_set sound = put_as-sound (entry_of l hs) hs below l cells refl in_range in_set sound

-- a call leaves no more entries than there are ways
module _ {S : Type 0} (level : Level S) (log_to : LogTo) (ways : ℕ) (some : 1 ≤ ways) where
  without_victim-few : (last : Option Held) (hs : List Held) (below : S) → slice_get hs (length hs - 1) ≡ last → length hs ≤ ways
      → length (without_victim last level log_to hs below).entries < ways
  without_victim-few None [] below at_last few = some
  without_victim-few None (h ∷ hs) below at_last few = absurd (none_some (sym at_last ∙ slice_get-get_or (h ∷ hs) (length (h ∷ hs) - 1) h (omega arith)))
  without_victim-few (Some d) hs below at_last few =
      let within = slice_get_within hs (length hs - 1) d at_last in
      rw (length-take (length hs - 1) hs) (omega arith)

  room_as-few : (has_room : Bool) (hs : List Held) (below : S) → nat_lt (length hs) ways ≡ has_room → length hs ≤ ways
      → length (room_as has_room level log_to hs below).entries < ways
  room_as-few true hs below test few = grind (arith, nat_tests)
  room_as-few false hs below test few = without_victim-few (slice_get hs (length hs - 1)) hs below refl few

  pub room-few : (hs : List Held) (below : S) → length hs ≤ ways → length (room_in level log_to ways hs below).entries < ways
  unfolding room_in
  room-few hs below few = room_as-few (nat_lt (length hs) ways) hs below refl few

  pub get_as-few : (entry : Option Held) (hs : List Held) (below : S) (l : ℕ) → entry_of l hs ≡ entry → length hs ≤ ways
      → length (get_as entry level log_to ways hs below l).entries ≤ ways
  get_as-few (Some h) hs below l found few = let e = without-length l hs h found in omega arith
  get_as-few None hs below l found few = let e = room-few hs below few in omega arith

  pub put_as-few : (entry : Option Held) (hs : List Held) (below : S) (l : ℕ) (cells : Line) → entry_of l hs ≡ entry → length hs ≤ ways
      → length (put_as entry level log_to ways hs below l cells).entries ≤ ways
  put_as-few (Some h) hs below l cells found few = let e = without-length l hs h found in omega arith
  put_as-few None hs below l cells found few = let e = room-few hs below few in omega arith

-- another sound list in place of one
pub sound-with : (sets ways words set : ℕ) (lists : List (List Held)) (entries : List Held) → set < sets → IsSoundCache sets ways words lists
    → length entries ≤ ways → IsSoundList words sets set entries → IsSoundCache sets ways words (slice_set lists set entries)
sound-with sets ways words set lists entries within sound few new = record {
  some = sound.some;
  some_way = sound.some_way;
  small = sound.small;
  count = length-set lists set entries ∙ sound.count;
  each = λ k below. at_set k below (eqb_tells k set);
  most = λ k below. few_at k below (eqb_tells k set);
}
  where
    few_at : (k : ℕ) → k < sets → ((eqb k set ≡ true) × (k ≡ set)) ⊎ ((eqb k set ≡ false) × (k ≢ set)) → length (slice_index_or (slice_set lists set entries) k []) ≤ ways
    few_at k below (inl (test, same)) =
        let inside : set < length lists = rw sound.count within in
        rw (same, get_or-set_same lists set entries [] inside) few
    few_at k below (inr (test, other)) = rw (get_or-set_other lists set k entries [] other) (sound.most k below)

    at_set : (k : ℕ) → k < sets → ((eqb k set ≡ true) × (k ≡ set)) ⊎ ((eqb k set ≡ false) × (k ≢ set)) → IsSoundList words sets k (slice_index_or (slice_set lists set entries) k [])
    at_set k below (inl (test, same)) =
        let inside : set < length lists = rw sound.count within in
        rw (same, get_or-set_same lists set entries [] inside) new
    at_set k below (inr (test, other)) = rw (get_or-set_other lists set k entries [] other) (sound.each k below)
