-- Laws of iteration.
use Rattle.std.specs.Prelude.{◌≡◌, ℕ, zero, suc, ◌+◌}
use Rattle.std.proofs.Common.{refl, ap, ◌∙◌, arith}
use Rattle.ras_machine.specs.Runs.{iterated}

-- so many times and then so many more
pub iterated_more : {X : Type 0} (a b : ℕ) (f : X → X) (x : X) → iterated (a + b) f x ≡ iterated b f (iterated a f x)
unfolding iterated
iterated_more zero b f x = let e : 0 + b ≡ b = omega arith in rw e refl
iterated_more (suc a) b f x = let e : suc a + b ≡ suc (a + b) = omega arith in rw e (iterated_more a b f (f x))

-- what does the same to each does the same so many times
pub iterated_same : {X : Type 0} (n : ℕ) (f g : X → X) → ((x : X) → f x ≡ g x) → (x : X) → iterated n f x ≡ iterated n g x
unfolding iterated
iterated_same zero f g same x = refl
iterated_same (suc n) f g same x = ap (iterated n f) (same x) ∙ iterated_same n f g same (g x)

-- what holds at first and stays so holds after so many times
pub iterated_keeps : {X : Type 0} (P : X → Type 0) (f : X → X) → ((x : X) → P x → P (f x)) → (n : ℕ) (x : X) → P x → P (iterated n f x)
unfolding iterated
iterated_keeps P f step zero x it = it
iterated_keeps P f step (suc n) x it = iterated_keeps P f step n (f x) (step x it)

-- what changes nothing changes nothing however often
pub iterated_stays : {X : Type 0} (n : ℕ) (f : X → X) (x : X) → f x ≡ x → iterated n f x ≡ x
unfolding iterated
iterated_stays zero f x stays = refl
iterated_stays (suc n) f x stays = ap (iterated n f) stays ∙ iterated_stays n f x stays

-- once, and then the times that are left
pub iterated_next : {X : Type 0} (n left : ℕ) (f : X → X) (x : X) → n ≡ suc left → iterated n f x ≡ iterated left f (f x)
unfolding iterated
iterated_next n left f x more = ap (λ n. iterated n f x) more
