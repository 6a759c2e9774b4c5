-- The ways of a set, in arrays that have the ways of all sets.
use Rattle.std.specs.Prelude.{ℕ, ◌+◌, ◌≡◌, ◌≢◌, ◌<◌, ◌≤◌, Bool, true, false, Option, None, Some, List, slice_index, slice_index_or}
use Rattle.poison_cache.specs.declared.ways.Flag.{Flag}
use Rattle.poison_cache.specs.declared.ways.Flag.TheVariants.{Empty, Clean, Dirty}
use Rattle.poison_cache.specs.Ranks.{way_of}

-- the line that a way holds, by its flag
abbrev pub line_as : Flag → ℕ → Option ℕ
line_as Empty line = None
line_as Clean line = Some line
line_as Dirty line = Some line

-- the flag of a way that holds a line
abbrev pub flag_of : Bool → Flag
flag_of true = Dirty
flag_of false = Clean

-- the line that way i holds
abbrev pub line_in : List ℕ → List Flag → ℕ → Option ℕ
line_in lines flags i = line_as (slice_index_or flags i Empty) (slice_index lines i)

-- the way that holds a line, among those from `first` on; none where none of them does
abbrev pub IsWayOf : List ℕ → List Flag → ℕ → ℕ → ℕ → Option ℕ → Type 0
IsWayOf lines flags first ways line None = (i : ℕ) → first ≤ i → i < first + ways → line_in lines flags i ≢ Some line
IsWayOf lines flags first ways line (Some way) = (first ≤ way) × (way < first + ways) × (line_in lines flags way ≡ Some line)

-- the ranks of the ways from `first` on
abbrev pub ranks_from : List ℕ → ℕ → ℕ → ℕ
ranks_from ranks first w = slice_index ranks (first + w)

-- way i holds no line
abbrev pub IsEmptyAt : List Flag → ℕ → Type 0
IsEmptyAt flags i = slice_index_or flags i Empty ≡ Empty

-- the way of the lowest rank that holds no line
pub record IsFirstEmpty (ranks : List ℕ) (flags : List Flag) (first ways way : ℕ) : Type 0 where
  pub rank : ℕ
  pub below : rank < ways
  pub way_is : way ≡ first + way_of (ranks_from ranks first) ways rank
  pub empty : IsEmptyAt flags way
  pub held : (r : ℕ) → r < rank → IsEmptyAt flags (first + way_of (ranks_from ranks first) ways r) → ⊥
