-- What is read of a reader's bytes, part by part.
use Rattle.std.proofs.Common.{◌≡◌, ℕ, ◌+◌, ◌≤◌, List, ◌++◌, length, Option, Some, None, sym, ap, ◌∙◌, arith, append_assoc, length-append}
use Rattle.std.specs.Io.KnownBytes.{Consumes}

pub consumed_more : (a b c : Option (List ℕ)) (bs cs : List ℕ) → Consumes a b bs → Consumes b c cs → Consumes a c (bs ++ cs)
consumed_more None b c bs cs p q = tt
consumed_more (Some x) None c bs cs p q = absurd p
consumed_more (Some x) (Some y) None bs cs p q = absurd q
consumed_more (Some x) (Some y) (Some z) bs cs p q = p ∙ ap (λ l. bs ++ l) q ∙ sym (append_assoc bs cs z)

-- one more part is within the room that is left
pub within_room : (bs part : List ℕ) (left limit n : ℕ) → length bs + left ≡ limit → length part ≤ left + n → length (bs ++ part) ≤ limit + n
within_room bs part left limit n room h = omega (arith, length-append bs part)
