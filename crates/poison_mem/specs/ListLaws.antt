-- Laws of lists.
use Rattle.std.proofs.Common.{ℕ, zero, suc, ◌≡◌, refl, replicate, slice_index_or}

-- each entry of a list of equals, and what stands past its end
pub same_all : {X : Type 0} (n k : ℕ) (x : X) → slice_index_or (replicate n x) k x ≡ x
same_all zero k x = refl
same_all (suc n) zero x = refl
same_all (suc n) (suc k) x = same_all n k x
