-- Words that are set one after the other.
use Rattle.std.proofs.Common.{ℕ, zero, suc, ◌+◌, ◌≡◌, ◌<◌, ◌≤◌, List, [], ◌∷◌, length, refl, sym, ap, arith, add-one, replicate, get_or, slice_set}

-- the first n of the words, zeros in place of the others
pub filled : List ℕ → ℕ → List ℕ
filled [] n = []
filled (word ∷ words) zero = 0 ∷ filled words 0
filled (word ∷ words) (suc n) = word ∷ filled words n

pub none_filled : (words : List ℕ) → replicate (length words) 0 ≡ filled words 0
unfolding filled
none_filled [] = refl
none_filled (word ∷ words) = ap (λ rest. 0 ∷ rest) (none_filled words)

pub filled-length : (words : List ℕ) (n : ℕ) → length (filled words n) ≡ length words
unfolding filled
filled-length [] n = refl
filled-length (word ∷ words) zero = ap suc (filled-length words 0)
filled-length (word ∷ words) (suc n) = ap suc (filled-length words n)

set_next : (words : List ℕ) (n d : ℕ) → n < length words → slice_set (filled words n) n (get_or words n d) ≡ filled words (suc n)
unfolding filled
set_next [] n d inside = absurd (omega arith)
set_next (word ∷ words) zero d inside = refl
set_next (word ∷ words) (suc n) d inside = ap (λ rest. word ∷ rest) (set_next words n d (omega arith))

pub one_more_filled : (words : List ℕ) (n d : ℕ) → n < length words → slice_set (filled words n) n (get_or words n d) ≡ filled words (n + 1)
one_more_filled words n d inside = rw (add-one n) (set_next words n d inside)

-- a zero is there already
set_zero : (words : List ℕ) (n d : ℕ) → n < length words → get_or words n d ≡ 0 → filled words n ≡ filled words (suc n)
unfolding filled
set_zero [] n d inside is_zero = refl
set_zero (word ∷ words) zero d inside is_zero = ap (λ w. w ∷ filled words 0) (sym is_zero)
set_zero (word ∷ words) (suc n) d inside is_zero = ap (λ rest. word ∷ rest) (set_zero words n d (omega arith) is_zero)

pub zero_filled : (words : List ℕ) (n d : ℕ) → n < length words → get_or words n d ≡ 0 → filled words n ≡ filled words (n + 1)
zero_filled words n d inside is_zero = rw (add-one n) (set_zero words n d inside is_zero)

pub all_filled : (words : List ℕ) (n : ℕ) → length words ≤ n → filled words n ≡ words
unfolding filled
all_filled [] n all = refl
all_filled (word ∷ words) zero all = absurd (omega arith)
all_filled (word ∷ words) (suc n) all = ap (λ rest. word ∷ rest) (all_filled words n (omega arith))
