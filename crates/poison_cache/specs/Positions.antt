-- Lists by what is at each position.
use Rattle.std.specs.Prelude.{ℕ, ◌+◌, ◌≡◌, ◌<◌, ◌≤◌, Option, None, Some, List, [], ◌∷◌, zero, suc}

-- an entry before others; where there is none, nothing follows
abbrev pub before : {X : Type 0} → Option X → List X → List X
before None xs = []
before (Some x) xs = x ∷ xs

-- what is at the n positions from one on, up to the first that has nothing
abbrev pub up_from : {X : Type 0} → (ℕ → Option X) → ℕ → ℕ → List X
up_from at k zero = []
up_from at k (suc n) = before (at k) (up_from at (k + 1) n)

-- where nothing is at a position, nothing is behind it
abbrev pub HasNoGap : {X : Type 0} → (ℕ → Option X) → ℕ → Type 0
HasNoGap at n = (i j : ℕ) → i ≤ j → j < n → at i ≡ None → at j ≡ None
