-- Cutting a list at its separators.
use Rattle.std.proofs.Common.{◌≡◌, ℕ, suc, zero, ◌+◌, ◌<◌, ◌≤◌, Bool, true, false, not, cond, List, [], ◌∷◌, length, take, drop, refl, ap, sym, ◌∙◌, arith, Option, Some, None, nat_lt}
use Rattle.std.specs.Prelude.{unwrap_or}
use Rattle.std.specs.List.{onto_first, position_or_len}
use Rattle.std.proofs.lemmas.Grind.{common_steps}
use Rattle.std.proofs.lemmas.List.Sums.{prefix_len-le-length}
use Rattle.fault_script.specs.Words.{parts}

parts_step : (p : ℕ → Bool) (b : ℕ) (bs : List ℕ) (t : Bool)
    → (0 < length bs → parts p bs ≡ take (position_or_len p bs) bs ∷ parts p (drop (position_or_len p bs + 1) bs))
    → cond t ([] ∷ parts p bs) (onto_first b (parts p bs))
    ≡ take (cond (not t) (1 + position_or_len p bs) 0) (b ∷ bs) ∷ parts p (drop (cond (not t) (1 + position_or_len p bs) 0 + 1) (b ∷ bs))
parts_step p b bs true rest = refl
parts_step p b [] false rest = refl
parts_step p b (c ∷ cs) false rest =
    let more : 0 < length (c ∷ cs) = omega arith in
    let one : 1 + position_or_len p (c ∷ cs) ≡ suc (position_or_len p (c ∷ cs)) = omega arith in
    let two : 1 + position_or_len p (c ∷ cs) + 1 ≡ suc (position_or_len p (c ∷ cs) + 1) = omega arith in
    ap (onto_first b) (rest more)
    ∙ ap (λ n. take n (b ∷ c ∷ cs) ∷ parts p (drop (position_or_len p (c ∷ cs) + 1) (c ∷ cs))) (sym one)
    ∙ ap (λ n. take (1 + position_or_len p (c ∷ cs)) (b ∷ c ∷ cs) ∷ parts p (drop n (b ∷ c ∷ cs))) (sym two)

-- the first part, and the parts of what stands behind its separator
pub parts_cut : (p : ℕ → Bool) (bs : List ℕ) → 0 < length bs
    → parts p bs ≡ take (position_or_len p bs) bs ∷ parts p (drop (position_or_len p bs + 1) bs)
parts_cut p [] h = absurd (omega arith)
parts_cut p (b ∷ bs) h = parts_step p b bs (p b) (parts_cut p bs)

pub within : {X : Type 0} (p : X → Bool) (xs : List X) → position_or_len p xs ≤ length xs
within p xs = prefix_len-le-length (λ x. not (p x)) xs

-- the index that `position` finds, or the length
pub found_or_len : {X : Type 0} (p : X → Bool) (bs : List X) (r : Option ℕ)
    → r ≡ cond (nat_lt (position_or_len p bs) (length bs)) (Some (position_or_len p bs)) None
    → unwrap_or r (length bs) ≡ position_or_len p bs
found_or_len p bs r h = rw h (chosen (position_or_len p bs) (length bs) (within p bs)) where
  chosen : (n len : ℕ) → n ≤ len → unwrap_or (cond (nat_lt n len) (Some n) None) len ≡ n
  chosen n len h = grind (arith, common_steps)

pub drop_next : (xs : List (List ℕ)) (k : ℕ) (y : List ℕ) (ys : List (List ℕ)) → drop k xs ≡ y ∷ ys → drop (k + 1) xs ≡ ys
drop_next [] zero y ys h = absurd cc
drop_next [] (suc k) y ys h = absurd cc
drop_next (x ∷ xs) zero y ys h = cc
drop_next (x ∷ xs) (suc k) y ys h = let e : suc k + 1 ≡ suc (k + 1) = omega arith in rw e (drop_next xs k y ys h)
