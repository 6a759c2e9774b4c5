-- Ranks of ways.
use Rattle.std.proofs.Common.{ℕ, ◌+◌, ◌-◌, ◌<◌, ◌≤◌, ◌≡◌, ◌≢◌, ◌∙◌, ◌⊎◌, inl, inr, sym, ap, refl, arith, zero, suc, eqb, true, false, cond, List, slice_index}
use Rattle.std.proofs.lemmas.Bool.{cases_lt}
use Rattle.std.proofs.lemmas.Bool.Decides.{nat_tests, eqb_tells}
use Rattle.poison_cache.specs.Ranks.{way_of, renewed, AreRanks}
use Rattle.poison_cache.specs.Ways.{ranks_from}

-- a way with the rank is found where there is one
pub way_found : (rank : ℕ → ℕ) (n r w : ℕ) → w < n → rank w ≡ r → (way_of rank n r < n) × (rank (way_of rank n r) ≡ r)
way_found rank zero r w below here = absurd (omega arith)
way_found rank (suc n) r w below here = by_test (way_found rank n r w) (eqb_tells (rank n) r)
  where
    by_test : (w < n → rank w ≡ r → (way_of rank n r < n) × (rank (way_of rank n r) ≡ r))
        → ((eqb (rank n) r ≡ true) × (rank n ≡ r)) ⊎ ((eqb (rank n) r ≡ false) × (rank n ≢ r))
        → (way_of rank (suc n) r < suc n) × (rank (way_of rank (suc n) r) ≡ r)
    by_test rest (inl (test, same)) = rw test (omega arith, same)
    by_test rest (inr (test, other)) =
        let apart : w ≢ n = λ e. other (ap rank (sym e) ∙ here) in
        let found = rest (strict (cases_lt w n) apart) here in
        rw test (let low = found.0 in omega arith, found.1)
      where
        strict : (w < n) ⊎ (n ≤ w) → w ≢ n → w < n
        strict (inl it) apart = it
        strict (inr it) apart = absurd (apart (omega arith))

-- it depends on the ranks of the first ways alone
pub way_same : (f g : ℕ → ℕ) (n r : ℕ) → ((w : ℕ) → w < n → g w ≡ f w) → way_of g n r ≡ way_of f n r
way_same f g zero r same = refl
way_same f g (suc n) r same =
    rw (same n (omega arith)) (ap (λ w. cond (eqb (f n) r) n w) (way_same f g n r (λ w below. same w (omega arith))))

-- each way is the one of its rank
pub own_way : (rank : ℕ → ℕ) (n w : ℕ) → AreRanks n rank → w < n → way_of rank n (rank w) ≡ w
own_way rank n w ranks below =
    let found = way_found rank n (rank w) w below refl in
    ranks.once (way_of rank n (rank w)) w found.0 below found.1

pub ranks_same : (f g : ℕ → ℕ) (n : ℕ) → ((w : ℕ) → w < n → g w ≡ f w) → AreRanks n f → AreRanks n g
ranks_same f g n same ranks = record {
  below = λ w below. rw (same w below) (ranks.below w below);
  once = λ v w v_below w_below e. ranks.once v w v_below w_below (sym (same v v_below) ∙ e ∙ same w w_below);
  each = λ r below.
      let way = way_of f n r in
      let it = ranks.each r below in
      way_found g n r way it.0 (same way it.0 ∙ it.1);
}

-- each way may have its own number
pub own_ranks : (n : ℕ) → AreRanks n (λ w. w)
own_ranks n = record { below = λ w below. below; once = λ v w v_below w_below same. same; each = λ r below. way_found (λ w. w) n r r below refl }

-- the ranks after one was renewed
renewed_below : (n hit r : ℕ) → hit < n → r < n → renewed hit r < n
renewed_below n hit r inside below = grind (arith, nat_tests)

renewed_once : (hit q r : ℕ) → renewed hit q ≡ renewed hit r → q ≡ r
renewed_once hit q r same = grind (arith, nat_tests)

pub renewed_hit : (hit : ℕ) → renewed hit hit ≡ 0
renewed_hit hit = grind (arith, nat_tests)

pub renewed_moved : (hit r : ℕ) → r < hit → renewed hit r ≡ suc r
renewed_moved hit r before = grind (arith, nat_tests)

pub renewed_stays : (hit r : ℕ) → hit < r → renewed hit r ≡ r
renewed_stays hit r behind = grind (arith, nat_tests)

module _ (rank new : ℕ → ℕ) (n hit : ℕ) (inside : hit < n) (ranks : AreRanks n rank) (after : (w : ℕ) → w < n → new w ≡ renewed hit (rank w)) where
  new_once : (v w : ℕ) → v < n → w < n → new v ≡ new w → v ≡ w
  new_once v w v_below w_below same =
      ranks.once v w v_below w_below (renewed_once hit (rank v) (rank w) (sym (after v v_below) ∙ same ∙ after w w_below))

  -- the way of a new rank, by the way of the rank before
  way_is : (q r : ℕ) → q < n → renewed hit q ≡ r → (way_of new n r < n) × (new (way_of new n r) ≡ r) × (way_of new n r ≡ way_of rank n q)
  way_is q r below to =
      let it = ranks.each q below in
      let here : new (way_of rank n q) ≡ r = after (way_of rank n q) it.0 ∙ ap (renewed hit) it.1 ∙ to in
      let found = way_found new n r (way_of rank n q) it.0 here in
      (found.0, found.1, new_once (way_of new n r) (way_of rank n q) found.0 it.0 (found.1 ∙ sym here))

  pub way_front : way_of new n 0 ≡ way_of rank n hit
  way_front = (way_is hit 0 inside (renewed_hit hit)).2

  pub way_moved : (r : ℕ) → r < hit → way_of new n (suc r) ≡ way_of rank n r
  way_moved r before = (way_is r (suc r) (omega arith) (renewed_moved hit r before)).2

  pub way_stays : (r : ℕ) → hit < r → r < n → way_of new n r ≡ way_of rank n r
  way_stays r behind below = (way_is r r below (renewed_stays hit r behind)).2

  pub ranks_renewed : AreRanks n new
  ranks_renewed = record {
    below = λ w below. rw (after w below) (renewed_below n hit (rank w) inside (ranks.below w below));
    once = new_once;
    each = each;
  }
    where
      behind_hit : (r : ℕ) → suc r < n → (hit < suc r) ⊎ (suc r ≤ hit) → (way_of new n (suc r) < n) × (new (way_of new n (suc r)) ≡ suc r)
      behind_hit r below (inl behind) = (let it = way_is (suc r) (suc r) below (renewed_stays hit (suc r) behind) in (it.0, it.1))
      behind_hit r below (inr before) = (let it = way_is r (suc r) (omega arith) (renewed_moved hit r (omega arith)) in (it.0, it.1))

      each : (r : ℕ) → r < n → (way_of new n r < n) × (new (way_of new n r) ≡ r)
      each zero below = (let it = way_is hit 0 inside (renewed_hit hit) in (it.0, it.1))
      each (suc r) below = behind_hit r below (cases_lt hit (suc r))

-- the way of a rank, in the ranks of the ways of all sets
module _ (ranks : List ℕ) (first ways r : ℕ) (are : AreRanks ways (ranks_from ranks first)) where
  pub way_from : (way : ℕ) → first ≤ way → way < first + ways → slice_index ranks way ≡ r → way ≡ first + way_of (ranks_from ranks first) ways r
  way_from way above below here =
      let same : first + (way - first) ≡ way = omega arith in
      let own : way_of (ranks_from ranks first) ways (slice_index ranks (first + (way - first))) ≡ way - first =
      own_way (ranks_from ranks first) ways (way - first) are (omega arith) in
      sym same ∙ ap (λ w. first + w) (sym own) ∙ ap (λ n. first + way_of (ranks_from ranks first) ways n) (ap (slice_index ranks) same ∙ here)

  pub some_way : r < ways → ((i : ℕ) → first ≤ i → i < first + ways → slice_index ranks i ≢ r) → ⊥
  some_way below others =
      let it = are.each r below in
      let inside = it.0 in
      others (first + way_of (ranks_from ranks first) ways r) (omega arith) (omega arith) it.1
