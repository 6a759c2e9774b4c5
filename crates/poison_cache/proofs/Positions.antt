-- Lists by what is at each position.
use Rattle.std.proofs.Common.{ℕ, ◌+◌, ◌<◌, ◌≤◌, ◌≡◌, ◌≢◌, ◌∙◌, ◌⊎◌, inl, inr, sym, ap, refl, List, [], ◌∷◌, ◌++◌, Option, Some, None, length, arith, zero, suc}
use Rattle.std.specs.List.{slice_get, remove}
use Rattle.std.proofs.lemmas.Bool.{cases_lt, cases_eq}
use Rattle.std.proofs.lemmas.Option.{same_Some, none-some}
use Rattle.poison_cache.specs.Positions.{before, up_from, HasNoGap}

-- two lists with the same entry at each index
pub same_entries : {X : Type 0} (xs ys : List X) → ((k : ℕ) → slice_get xs k ≡ slice_get ys k) → xs ≡ ys
same_entries [] [] same = refl
same_entries [] (y ∷ ys) same = absurd (none-some y (same 0))
same_entries (x ∷ xs) [] same = absurd (none-some x (sym (same 0)))
same_entries (x ∷ xs) (y ∷ ys) same =
    ap (λ z. z ∷ xs) (same_Some x y (same 0)) ∙ ap (λ zs. y ∷ zs) (same_entries xs ys (λ k. same (suc k)))

module _ {X : Type 0} where
  -- what is at an index of the list
  before-head : (o : Option X) (xs : List X) → slice_get (before o xs) 0 ≡ o
  before-head None xs = refl
  before-head (Some x) xs = refl

  before-tail : (o : Option X) (xs : List X) (k : ℕ) → (o ≡ None → slice_get xs k ≡ None) → slice_get (before o xs) (suc k) ≡ slice_get xs k
  before-tail None xs k gone = sym (gone refl)
  before-tail (Some x) xs k gone = refl

  pub up_from-at : (at : ℕ → Option X) (n k i : ℕ) → HasNoGap at (k + n) → i < n → slice_get (up_from at k n) i ≡ at (k + i)
  up_from-at at zero k i no_gap below = absurd (omega arith)
  up_from-at at (suc n) k zero no_gap below = before-head (at k) (up_from at (k + 1) n) ∙ ap at (omega arith)
  up_from-at at (suc n) k (suc i) no_gap below =
      let rest : slice_get (up_from at (k + 1) n) i ≡ at (k + 1 + i) =
      up_from-at at n (k + 1) i (λ i j le lt none. no_gap i j le (omega arith) none) (omega arith) in
      before-tail (at k) (up_from at (k + 1) n) i (λ none. rest ∙ no_gap k (k + 1 + i) (omega arith) (omega arith) none)
      ∙ rest ∙ ap at (omega arith)

  pub up_from-past : (at : ℕ → Option X) (n k i : ℕ) → n ≤ i → slice_get (up_from at k n) i ≡ None
  up_from-past at zero k i past = refl
  up_from-past at (suc n) k zero past = absurd (omega arith)
  up_from-past at (suc n) k (suc i) past =
      let rest = up_from-past at n (k + 1) i (omega arith) in
      before-tail (at k) (up_from at (k + 1) n) i (λ none. rest) ∙ rest

  before-length : (o : Option X) (xs : List X) → length (before o xs) ≤ suc (length xs)
  before-length None xs = omega arith
  before-length (Some x) xs = omega arith

  pub up_from-length : (at : ℕ → Option X) (n k : ℕ) → length (up_from at k n) ≤ n
  up_from-length at zero k = omega arith
  up_from-length at (suc n) k =
      let head = before-length (at k) (up_from at (k + 1) n) in
      let rest = up_from-length at n (k + 1) in
      omega arith

  pub up_from-none : (at : ℕ → Option X) (n k : ℕ) → ((i : ℕ) → at i ≡ None) → up_from at k n ≡ []
  up_from-none at zero k none = refl
  up_from-none at (suc n) k none = ap (λ o. before o (up_from at (k + 1) n)) (none k)

  -- all of it depends on the positions that it reads alone
  pub up_from-same : (f g : ℕ → Option X) (n k : ℕ) → ((i : ℕ) → k ≤ i → i < k + n → g i ≡ f i) → up_from g k n ≡ up_from f k n
  up_from-same f g zero k same = refl
  up_from-same f g (suc n) k same =
      ap (λ o. before o (up_from g (k + 1) n)) (same k (omega arith) (omega arith))
      ∙ ap (λ xs. before (f k) xs) (up_from-same f g n (k + 1) (λ i le lt. same i (omega arith) (omega arith)))

  -- an entry of a list without one
  remove-before : (xs : List X) (i k : ℕ) → k < i → slice_get (remove xs i) k ≡ slice_get xs k
  remove-before [] zero k below = absurd (omega arith)
  remove-before [] (suc i) k below = refl
  remove-before (x ∷ xs) zero k below = absurd (omega arith)
  remove-before (x ∷ xs) (suc i) zero below = refl
  remove-before (x ∷ xs) (suc i) (suc k) below = remove-before xs i k (omega arith)

  remove-behind : (xs : List X) (i k : ℕ) → i ≤ k → slice_get (remove xs i) k ≡ slice_get xs (suc k)
  remove-behind [] zero k above = refl
  remove-behind [] (suc i) k above = refl
  remove-behind (x ∷ xs) zero k above = refl
  remove-behind (x ∷ xs) (suc i) zero above = absurd (omega arith)
  remove-behind (x ∷ xs) (suc i) (suc k) above = remove-behind xs i k (omega arith)

  module _ (f : ℕ → Option X) (n hit : ℕ) (inside : hit < n) (no_gap : HasNoGap f n) (g : ℕ → Option X) (d : X) (front : g 0 ≡ Some d)
      (moved : (k : ℕ) → k < hit → g (suc k) ≡ f k) (stays : (k : ℕ) → hit < k → k < n → g k ≡ f k) where
    -- what was at a position is in front: there is no gap then either
    pub fronted_no_gap : HasNoGap g n
    fronted_no_gap zero j le lt none = absurd (none-some d (sym none ∙ front))
    fronted_no_gap (suc i) zero le lt none = absurd (omega arith)
    fronted_no_gap (suc i) (suc j) le lt none = by_hit (cases_lt i hit) (cases_lt j hit)
      where
        by_hit : (i < hit) ⊎ (hit ≤ i) → (j < hit) ⊎ (hit ≤ j) → g (suc j) ≡ None
        by_hit (inl i_before) (inl j_before) = moved j j_before ∙ no_gap i j (omega arith) (omega arith) (sym (moved i i_before) ∙ none)
        by_hit (inl i_before) (inr j_behind) = stays (suc j) (omega arith) lt ∙ no_gap i (suc j) (omega arith) lt (sym (moved i i_before) ∙ none)
        by_hit (inr i_behind) (inl j_before) = absurd (omega arith)
        by_hit (inr i_behind) (inr j_behind) = stays (suc j) (omega arith) lt ∙ no_gap (suc i) (suc j) (omega arith) lt (sym (stays (suc i) (omega arith) (omega arith)) ∙ none)

    -- and the list has it in front
    pub fronted_list : up_from g 0 n ≡ d ∷ remove (up_from f 0 n) hit
    fronted_list = same_entries (up_from g 0 n) (d ∷ remove (up_from f 0 n) hit) at_index
      where
        at : (k : ℕ) → k < n → slice_get (up_from f 0 n) k ≡ f k
        at k below = up_from-at f n 0 k (λ i j le lt none. no_gap i j le (omega arith) none) below ∙ ap f (omega arith)

        at_new : (k : ℕ) → k < n → slice_get (up_from g 0 n) k ≡ g k
        at_new k below = up_from-at g n 0 k (λ i j le lt none. fronted_no_gap i j le (omega arith) none) below ∙ ap g (omega arith)

        by_hit : (k : ℕ) → (k < hit) ⊎ (hit ≤ k) → (suc k < n) ⊎ (n ≤ suc k) → slice_get (up_from g 0 n) (suc k) ≡ slice_get (remove (up_from f 0 n) hit) k
        by_hit k (inl k_before) (inl inner) = at_new (suc k) inner ∙ moved k k_before ∙ sym (at k (omega arith)) ∙ sym (remove-before (up_from f 0 n) hit k k_before)
        by_hit k (inl k_before) (inr outer) = absurd (omega arith)
        by_hit k (inr k_behind) (inl inner) = at_new (suc k) inner ∙ stays (suc k) (omega arith) inner ∙ sym (at (suc k) inner) ∙ sym (remove-behind (up_from f 0 n) hit k k_behind)
        by_hit k (inr k_behind) (inr outer) = up_from-past g n 0 (suc k) outer ∙ sym (up_from-past f n 0 (suc k) outer) ∙ sym (remove-behind (up_from f 0 n) hit k k_behind)

        at_index : (k : ℕ) → slice_get (up_from g 0 n) k ≡ slice_get (d ∷ remove (up_from f 0 n) hit) k
        at_index zero = at_new 0 (omega arith) ∙ front
        at_index (suc k) = by_hit k (cases_lt k hit) (cases_lt (suc k) n)

  -- a list with one entry more
  push-at : (xs : List X) (d : X) (k : ℕ) → length xs ≡ k → slice_get (xs ++ d ∷ []) k ≡ Some d
  push-at [] d zero here = refl
  push-at [] d (suc k) here = absurd (omega arith)
  push-at (x ∷ xs) d zero here = absurd (omega arith)
  push-at (x ∷ xs) d (suc k) here = push-at xs d k (omega arith)

  push-other : (xs : List X) (d : X) (k : ℕ) → length xs ≢ k → slice_get (xs ++ d ∷ []) k ≡ slice_get xs k
  push-other [] d zero other = absurd (other refl)
  push-other [] d (suc k) other = refl
  push-other (x ∷ xs) d zero other = refl
  push-other (x ∷ xs) d (suc k) other = push-other xs d k (λ same. other (omega arith))

  pub first_none : (xs : List X) (k : ℕ) → slice_get xs k ≡ None → ((i : ℕ) → i < k → slice_get xs i ≢ None) → length xs ≡ k
  first_none [] zero none some = refl
  first_none [] (suc k) none some = absurd (some 0 (omega arith) refl)
  first_none (x ∷ xs) zero none some = cc
  first_none (x ∷ xs) (suc k) none some = ap suc (first_none xs k none (λ i below. some (suc i) (omega arith)))

  module _ (f : ℕ → Option X) (n k : ℕ) (inside : k < n) (no_gap : HasNoGap f n) (none : f k ≡ None) (some : (i : ℕ) → i < k → f i ≢ None)
      (g : ℕ → Option X) (d : X) (last : g k ≡ Some d) (stays : (i : ℕ) → i ≢ k → i < n → g i ≡ f i) where
    pub placed_no_gap : HasNoGap g n
    placed_no_gap i j le lt gone = by_place (cases_lt i k) (cases_eq i k)
      where
        by_place : (i < k) ⊎ (k ≤ i) → (i ≡ k) ⊎ (i ≢ k) → g j ≡ None
        by_place before (inl here) = absurd (none-some d (sym gone ∙ ap g here ∙ last))
        by_place (inl before) (inr other) = absurd (some i before (sym (stays i other (omega arith)) ∙ gone))
        by_place (inr behind) (inr other) =
            let strict : k < i = above (cases_lt k i) in
            stays j (λ same. absurd (omega arith)) lt ∙ no_gap k j (omega arith) lt none
          where
            above : (k < i) ⊎ (i ≤ k) → k < i
            above (inl it) = it
            above (inr it) = absurd (other (omega arith))

    pub placed_list : up_from g 0 n ≡ up_from f 0 n ++ d ∷ []
    placed_list = same_entries (up_from g 0 n) (up_from f 0 n ++ d ∷ []) at_index
      where
        at : (i : ℕ) → i < n → slice_get (up_from f 0 n) i ≡ f i
        at i below = up_from-at f n 0 i (λ i j le lt none. no_gap i j le (omega arith) none) below ∙ ap f (omega arith)

        at_new : (i : ℕ) → i < n → slice_get (up_from g 0 n) i ≡ g i
        at_new i below = up_from-at g n 0 i (λ i j le lt none. placed_no_gap i j le (omega arith) none) below ∙ ap g (omega arith)

        entries : length (up_from f 0 n) ≡ k
        entries = first_none (up_from f 0 n) k (at k inside ∙ none) (λ i below gone. some i below (sym (at i (omega arith)) ∙ gone))

        by_place : (i : ℕ) → (i ≡ k) ⊎ (i ≢ k) → (i < n) ⊎ (n ≤ i) → slice_get (up_from g 0 n) i ≡ slice_get (up_from f 0 n ++ d ∷ []) i
        by_place i (inl here) (inl inner) = at_new i inner ∙ ap g here ∙ last ∙ sym (push-at (up_from f 0 n) d i (entries ∙ sym here))
        by_place i (inl here) (inr outer) = absurd (omega arith)
        by_place i (inr other) (inl inner) = at_new i inner ∙ stays i other inner ∙ sym (at i inner) ∙ sym (push-other (up_from f 0 n) d i (λ same. other (sym same ∙ entries)))
        by_place i (inr other) (inr outer) = up_from-past g n 0 i outer ∙ sym (up_from-past f n 0 i outer) ∙ sym (push-other (up_from f 0 n) d i (λ same. other (sym same ∙ entries)))

        at_index : (i : ℕ) → slice_get (up_from g 0 n) i ≡ slice_get (up_from f 0 n ++ d ∷ []) i
        at_index i = by_place i (cases_eq i k) (cases_lt i n)
