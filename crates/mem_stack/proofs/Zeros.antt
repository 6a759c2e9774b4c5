-- The codewords of zeros.
use Rattle.std.proofs.Common.{ℕ, zero, suc, ◌≡◌, ◌∷◌, refl, ap, map, replicate}
use Rattle.ecc_memory.specs.Word.{codeword_of}

pub all_zero : (n : ℕ) → replicate n (codeword_of 0) ≡ map codeword_of (replicate n 0)
all_zero zero = refl
all_zero (suc n) = ap (λ cells. codeword_of 0 ∷ cells) (all_zero n)
