-- The schedule: which hart makes which step.
use Rattle.std.specs.Prelude.{ℕ, ◌%◌, List, [], ◌∷◌, length, slice_index}

-- what the harts of a run are given from outside: the bytes of its input, and its schedule
pub record Given : Type 0 where
  pub input : List ℕ
  pub schedule : List ℕ

-- this input and this schedule
abbrev pub given_by : List ℕ → List ℕ → Given
given_by input schedule = record { input = input; schedule = schedule }

-- The hart, of so many, whose turn step n is: without a schedule each in its turn; else the one that the schedule's byte for this
-- step says, where the schedule begins anew at its end.
abbrev pub pick : List ℕ → ℕ → ℕ → ℕ
pick [] harts n = n % harts
pick (byte ∷ bytes) harts n = slice_index (byte ∷ bytes) (n % length (byte ∷ bytes)) % harts
