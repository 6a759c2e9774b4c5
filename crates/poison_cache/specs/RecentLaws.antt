-- Laws of finding entries.
use Rattle.std.proofs.Common.{ℕ, ◌-◌, ◌%◌, ◌≡◌, ◌≢◌, ◌⊎◌, inl, inr, ap, refl, subst, List, [], ◌∷◌, None, Some, length, take, true, false, cond, eqb, arith, zero, suc}
use Rattle.std.specs.List.{slice_get}
use Rattle.std.proofs.lemmas.Bool.Decides.{nat_tests, eqb_tells}
use Rattle.std.proofs.lemmas.Option.{slice_get_within}
use Rattle.poison_mem.specs.declared.cache_state.Held.{Held}
use Rattle.poison_cache.specs.Recent.{entry_of, without}
use Rattle.poison_cache.specs.Sound.{IsSoundList}
use Rattle.poison_cache.specs.SoundLaws.{entry_line}

-- the entry of another line stays
pub without_other : (l k : ℕ) (hs : List Held) → k ≢ l → entry_of k (without l hs) ≡ entry_of k hs
without_other l k [] other = refl
without_other l k (h ∷ hs) other = grind (arith, nat_tests, without_other l k hs other)

-- an entry that is moved to the front is found there, and so are the others
pub moved : (l k : ℕ) (hs : List Held) (h : Held) → entry_of l hs ≡ Some h → entry_of k (h ∷ without l hs) ≡ entry_of k hs
moved l k hs h found = moved_as (eqb_tells k l) (entry_line l hs h found)
  where
    moved_as : ((eqb k l ≡ true) × (k ≡ l)) ⊎ ((eqb k l ≡ false) × (k ≢ l)) → h.line ≡ l → entry_of k (h ∷ without l hs) ≡ entry_of k hs
    moved_as (inl (test, same)) line = grind (arith, nat_tests)
    moved_as (inr (test, other)) line = grind (arith, nat_tests, without_other l k hs other)

pub front_same : (h : Held) (hs : List Held) → entry_of h.line (h ∷ hs) ≡ Some h
front_same h hs = grind (arith, nat_tests)

pub front_other : (k : ℕ) (h : Held) (hs : List Held) → k ≢ h.line → entry_of k (h ∷ hs) ≡ entry_of k hs
front_other k h hs other = grind (arith, nat_tests)

module _ (words sets set : ℕ) where
  -- an entry at an index is the one of its line
  pub found_at : (hs : List Held) (i : ℕ) (d : Held) → IsSoundList words sets set hs → slice_get hs i ≡ Some d → entry_of d.line hs ≡ Some d
  found_at [] i d sound at_i = cc
  found_at (h ∷ hs) zero d sound at_i = grind (arith, nat_tests)
  found_at (h ∷ hs) (suc i) d sound at_i = grind (arith, nat_tests, found_at hs i d sound.2 at_i, sound.1)

  pub gone_before : (hs : List Held) (i : ℕ) (d : Held) → IsSoundList words sets set hs → slice_get hs i ≡ Some d → entry_of d.line (take i hs) ≡ None
  gone_before [] zero d sound at_i = refl
  gone_before [] (suc i) d sound at_i = refl
  gone_before (h ∷ hs) zero d sound at_i = refl
  gone_before (h ∷ hs) (suc i) d sound at_i = grind (arith, nat_tests, found_at hs i d sound.2 at_i, sound.1, gone_before hs i d sound.2 at_i)

  -- an entry of another set is in no list of this one
  pub other_set : (k : ℕ) (hs : List Held) → IsSoundList words sets set hs → k % sets ≢ set → entry_of k hs ≡ None
  other_set k [] sound other = refl
  other_set k (h ∷ hs) sound other =
      let differs : h.line ≢ k = λ same. other (subst (λ n. n % sets ≡ set) same sound.0.in_set) in
      grind (arith, nat_tests, other_set k hs sound.2 other)

-- the entries before the last are found as before
pub take_other : (k : ℕ) (hs : List Held) (i : ℕ) (d : Held) → slice_get hs i ≡ Some d → length hs ≡ suc i → k ≢ d.line → entry_of k (take i hs) ≡ entry_of k hs
take_other k [] i d at_i last other = cc
take_other k (h ∷ []) zero d at_i last other = grind (arith, nat_tests)
take_other k (h ∷ g ∷ hs) zero d at_i last other = absurd (omega arith)
take_other k (h ∷ hs) (suc i) d at_i last other = ap (λ e. cond (eqb h.line k) (Some h) e) (take_other k hs i d at_i (omega arith) other)

pub is_last : (hs : List Held) (d : Held) → slice_get hs (length hs - 1) ≡ Some d → length hs ≡ suc (length hs - 1)
is_last hs d at_last =
    let within = slice_get_within hs (length hs - 1) d at_last in
    omega arith
