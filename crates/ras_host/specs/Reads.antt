-- What a read within a limit answers.
use Rattle.std.specs.Prelude.{◌≡◌, ℕ, ◌<◌, ◌≤◌, List, length, Option}
use Rattle.std.specs.Io.KnownBytes.{Consumes}
use Rattle.ras_host.specs.declared.outside.Got.{Got}
use Rattle.ras_host.specs.declared.outside.Got.TheVariants.{Whole, Longer}

-- the answer of a read within the limit, for a file of these bytes
abbrev pub Gets : List ℕ → ℕ → Got → Type 0
Gets bytes limit (Whole v) = (length bytes ≤ limit) × (v.items ≡ bytes)
Gets bytes limit Longer = limit < length bytes

-- no more bytes than the limit were read
abbrev pub FitsIn : ℕ → Got → Type 0
FitsIn limit (Whole v) = length v.items ≤ limit
FitsIn limit Longer = Unit {0}

-- at most so many bytes were taken from a reader whose bytes are known
abbrev pub TakesAtMost : ℕ → Option (List ℕ) → Option (List ℕ) → Type 0
TakesAtMost n before after = (bytes : List ℕ) × Consumes before after bytes × (length bytes ≤ n)
