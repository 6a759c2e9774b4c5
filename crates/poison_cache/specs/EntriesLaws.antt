-- The calls on the entries of a cache do to its lists what they say, and keep them sound.
use Rattle.std.proofs.Common.{ℕ, ◌*◌, ◌%◌, ◌<◌, ◌≤◌, ◌≡◌, ◌≢◌, ◌∙◌, sym, ap, refl, subst, List, [], ◌∷◌, ◌++◌, Some, None, length, replicate, arith, zero, suc}
use Rattle.std.specs.List.{All, slice_get}
use Rattle.std.specs.Prelude.{slice_index_or}
use Rattle.std.proofs.lemmas.Bool.Decides.{nat_tests}
use Rattle.std.proofs.lemmas.List.{length-replicate, length_push, get_or-set_same, get_or-set_other}
use Rattle.std.proofs.lemmas.List.Elements.{All-head, All-tail}
use Rattle.poison_mem.specs.ListLaws.{same_all}
use Rattle.poison_mem.specs.declared.cache_state.Held.{Held}
use Rattle.poison_mem.specs.Level.{Level}
use Rattle.poison_mem.specs.CacheState.{KeepsEntries}
use Rattle.poison_cache.specs.declared.sets.TheConstants.{MOST_HELD}
use Rattle.poison_cache.specs.Recent.{entry_of}
use Rattle.poison_cache.specs.RecentLaws.{found_at}
use Rattle.poison_cache.specs.Cache.{cache_level}
use Rattle.poison_cache.specs.Sound.{IsHeldIn, IsSoundList, IsSoundCache}
use Rattle.poison_cache.specs.SoundLaws.{none_some, sound-with}
use Rattle.poison_cache.specs.Standing.{CacheValid}
use Rattle.poison_cache.specs.Entries.{cache_entries}

-- lists of no entries are sound
pub no_lines_sound : (sets ways words : ℕ) → 1 ≤ sets → 1 ≤ ways → sets * ways ≤ MOST_HELD → IsSoundCache sets ways words (replicate sets [])
no_lines_sound sets ways words some some_way small = record {
  some = some;
  some_way = some_way;
  small = small;
  count = length-replicate sets [];
  each = λ set below. subst (λ entries. IsSoundList words sets set entries) (sym (same_all sets set [])) tt;
  most = λ set below. subst (λ (entries : List Held). length entries ≤ ways) (sym (same_all sets set [])) (omega arith);
}

-- a line that no entry is of isn't found
pub none_of : (l : ℕ) (hs : List Held) → All (λ entry. entry.line ≢ l) hs → entry_of l hs ≡ None
none_of l [] absent = refl
none_of l (h ∷ hs) absent =
    let other : h.line ≢ l = All-head (λ entry. entry.line ≢ l) h hs absent in
    grind (arith, nat_tests, none_of l hs (All-tail (λ entry. entry.line ≢ l) h hs absent))

-- one more entry behind, of another line
absent-last : (l : ℕ) (hs : List Held) (h : Held) → entry_of l hs ≡ None → h.line ≢ l → entry_of l (hs ++ h ∷ []) ≡ None
absent-last l [] h absent other = grind (arith, nat_tests)
absent-last l (k ∷ hs) h absent other = grind (arith, nat_tests, absent-last l hs h)

module _ (words sets set : ℕ) where
  sound-last : (hs : List Held) (h : Held) → IsHeldIn words sets set h → entry_of h.line hs ≡ None → IsSoundList words sets set hs
      → IsSoundList words sets set (hs ++ h ∷ [])
  sound-last [] h held absent sound = (held, refl, tt)
  sound-last (k ∷ hs) h held absent sound =
      let other : h.line ≢ k.line = λ same. grind (arith, nat_tests) in
      let behind : entry_of h.line hs ≡ None = grind (arith, nat_tests) in
      (sound.0, absent-last k.line hs h sound.1 other, sound-last hs h held behind sound.2)

  -- an entry at an index is held in its set
  held_at : (hs : List Held) (k : ℕ) (h : Held) → IsSoundList words sets set hs → slice_get hs k ≡ Some h → IsHeldIn words sets set h
  held_at [] k h sound at_k = cc
  held_at (g ∷ hs) zero h sound at_k = grind (arith, sound.0)
  held_at (g ∷ hs) (suc k) h sound at_k = held_at hs k h sound.2 at_k

  -- and there is no other one of its line
  alone_at : (hs : List Held) (i j : ℕ) (a b : Held) → IsSoundList words sets set hs → slice_get hs i ≡ Some a → slice_get hs j ≡ Some b
      → a.line ≡ b.line → i ≡ j
  alone_at [] i j a b sound at_i at_j same = cc
  alone_at (h ∷ hs) zero zero a b sound at_i at_j same = refl
  alone_at (h ∷ hs) zero (suc j) a b sound at_i at_j same =
      let found = found_at words sets set hs j b sound.2 at_j in
      let line : h.line ≡ b.line = cc in
      absurd (none_some (sym (rw line at sound.1) ∙ found))
  alone_at (h ∷ hs) (suc i) zero a b sound at_i at_j same =
      let found = found_at words sets set hs i a sound.2 at_i in
      let line : h.line ≡ a.line = cc in
      absurd (none_some (sym (rw line at sound.1) ∙ found))
  alone_at (h ∷ hs) (suc i) (suc j) a b sound at_i at_j same = ap suc (alone_at hs i j a b sound.2 at_i at_j same)

pub cache_keeps_entries : {S : Type 0} (level : Level S) (valid : S → Type 0) (sets ways : ℕ)
    → KeepsEntries sets ways (cache_level sets ways level) (CacheValid sets ways level valid) (cache_entries sets)
cache_keeps_entries level valid sets ways = record {
  some = λ s ok. ok.lists.some;
  fits = λ s set ok below. ok.lists.most set below;
  held = λ s set k h ok below at_k.
      let held = held_at (level.words s.below) sets set (slice_index_or s.lists set []) k h (ok.lists.each set below) at_k in
      (held.in_range, held.in_set);
  once = λ s set i j a b ok below. alone_at (level.words s.below) sets set (slice_index_or s.lists set []) i j a b (ok.lists.each set below);
  forgotten = λ s set below. same_all sets set [];
  forgotten_words = λ s. refl;
  forgotten_valid = λ s ok. record {
    lists = no_lines_sound sets ways (level.words s.below) ok.lists.some ok.lists.some_way ok.lists.small;
    below = ok.below;
  };
  placed = λ s h ok room.
      let some = ok.lists.some in
      let inside : h.line % sets < length s.lists = rw ok.lists.count (omega arith) in
      get_or-set_same s.lists (h.line % sets) (slice_index_or s.lists (h.line % sets) [] ++ h ∷ []) [] inside;
  placed_other = λ s h set other. get_or-set_other s.lists (h.line % sets) set (slice_index_or s.lists (h.line % sets) [] ++ h ∷ []) [] other;
  placed_words = λ s h. refl;
  placed_valid = λ s h ok room.
      let some = ok.lists.some in
      let hs = slice_index_or s.lists (h.line % sets) [] in
      let within : h.line % sets < sets = omega arith in
      let held : IsHeldIn (level.words s.below) sets (h.line % sets) h = record { in_range = room.line; in_set = refl } in
      let few = room.room in
      record {
        lists = sound-with sets ways (level.words s.below) (h.line % sets) s.lists (hs ++ h ∷ []) within ok.lists
            (rw (length_push hs h) (omega arith))
            (sound-last (level.words s.below) sets (h.line % sets) hs h held (none_of h.line hs room.absent) (ok.lists.each (h.line % sets) within));
        below = ok.below;
      };
}
