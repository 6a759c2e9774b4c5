-- Computations that may be refused, one after the other.
use Rattle.std.specs.Prelude.{Result, Ok, Err}

-- the first refusal stands: f goes on only where there is none
infixl 10 ◌>>=◌
abbrev pub ◌>>=◌ : {A B E : Type 0} → Result A E → (A → Result B E) → Result B E
(Ok x) >>= f = f x
(Err e) >>= f = Err e
