-- The sets of a cache, in flat arrays.
use Rattle.std.specs.Prelude.{ℕ, ◌+◌, ◌*◌, ◌<◌, ◌≤◌, ◌≡◌, Option, None, Some, true, false, List, length, map, slice_index, slice_index_or}
use Rattle.std.specs.List.{range_with_len}
use Rattle.poison_mem.specs.declared.cell.Cell.TheVariants.{Poison}
use Rattle.poison_mem.specs.declared.line.Line.{Line}
use Rattle.poison_mem.specs.declared.cache_state.Held.{Held}
use Rattle.poison_mem.specs.Line.{line_by}
use Rattle.poison_cache.specs.declared.ways.Flag.{Flag}
use Rattle.poison_cache.specs.declared.ways.Flag.TheVariants.{Empty, Clean, Dirty}
use Rattle.poison_cache.specs.declared.sets.TheConstants.{MOST_HELD}
use Rattle.poison_cache.specs.Ranks.{way_of, AreRanks}
use Rattle.poison_cache.specs.Positions.{up_from, HasNoGap}
use Rattle.poison_cache.specs.Ways.{ranks_from}

-- for each way of all sets the number of its line, whether it holds one, its rank in its set, and the line's cells
pub record Arrays : Type 0 where
  pub lines : List ℕ
  pub flags : List Flag
  pub ranks : List ℕ
  pub cells : List Line

-- the cells of a way that there isn't
abbrev pub no_cells : Line
no_cells = line_by (λ _. Poison)

-- what a way holds, by its flag
abbrev pub held_as : Flag → ℕ → Line → Option Held
held_as Empty line cells = None
held_as Clean line cells = Some (record { line = line; dirty = false; cells = cells })
held_as Dirty line cells = Some (record { line = line; dirty = true; cells = cells })

-- what way i holds
abbrev pub entry_in : Arrays → ℕ → Option Held
entry_in a i = held_as (slice_index_or a.flags i Empty) (slice_index a.lines i) (slice_index_or a.cells i no_cells)

-- what the way of a rank holds, of the set whose ways begin at `first`
abbrev pub ranked_in : Arrays → ℕ → ℕ → ℕ → Option Held
ranked_in a ways first r = entry_in a (first + way_of (ranks_from a.ranks first) ways r)

-- what a set holds, by rank
abbrev pub set_list : Arrays → ℕ → ℕ → List Held
set_list a ways set = up_from (ranked_in a ways (set * ways)) 0 ways

-- what each set holds
abbrev pub lists_of : ℕ → ℕ → Arrays → List (List Held)
lists_of sets ways a = map (set_list a ways) (range_with_len 0 sets)

-- The ways of a set have the ranks 0 up, each once. The k ways that hold a line have the ranks 0 to k - 1, since no way
-- without one has a lower rank, and no two of them hold the same line.
pub record IsOrderedSet (a : Arrays) (ways first : ℕ) : Type 0 where
  pub ranks : AreRanks ways (ranks_from a.ranks first)
  pub no_gap : HasNoGap (ranked_in a ways first) ways
  pub single : (v w : ℕ) (g h : Held) → v < ways → w < ways → entry_in a (first + v) ≡ Some g → entry_in a (first + w) ≡ Some h
      → g.line ≡ h.line → v ≡ w

-- each array has all ways of all sets
pub record HaveAllWays (all : ℕ) (a : Arrays) : Type 0 where
  pub lines : length a.lines ≡ all
  pub flags : length a.flags ≡ all
  pub ranks : length a.ranks ≡ all
  pub cells : length a.cells ≡ all

-- the arrays are those of ordered sets
pub record AreSets (sets ways : ℕ) (a : Arrays) : Type 0 where
  pub some : 1 ≤ sets
  pub some_way : 1 ≤ ways
  pub small : sets * ways ≤ MOST_HELD
  pub all : HaveAllWays (sets * ways) a
  pub each : (set : ℕ) → set < sets → IsOrderedSet a ways (set * ways)
