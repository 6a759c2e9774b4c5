-- The entries of one set, the most recent first.
use Rattle.std.specs.Prelude.{ℕ, ◌==◌, ◌-◌, ◌%◌, List, [], ◌∷◌, Option, None, Some, true, nat_lt, if◌then◌else◌, length, take, slice_get, slice_set, slice_index_or}
use Rattle.poison_mem.specs.declared.cache_state.Held.{Held}
use Rattle.poison_mem.specs.declared.line.Line.{Line}
use Rattle.poison_mem.specs.Line.{cell, with_cell}
use Rattle.poison_mem.specs.Merge.{merged_cell}

-- the entry of a line, in a list of entries
abbrev pub entry_of : ℕ → List Held → Option Held
entry_of l [] = None
entry_of l (h ∷ hs) = if h.line == l then Some h else entry_of l hs

-- the entries but for the one of a line
abbrev pub without : ℕ → List Held → List Held
without l [] = []
without l (h ∷ hs) = if h.line == l then hs else h ∷ without l hs

-- a list after a hit: what became of the line's entry is in front; a list without it stays
abbrev pub renewed_as : Option Held → (Held → Held) → ℕ → List Held → List Held
renewed_as None renew l hs = hs
renewed_as (Some h) renew l hs = renew h ∷ without l hs

-- an entry with other cells, to be written back
abbrev pub with_cells : Held → Line → Held
with_cells h cells = record { line = h.line; dirty = true; cells = cells }

-- an entry after a store into one of its cells
abbrev pub stored_into : ℕ → ℕ → ℕ → Held → Held
stored_into i v mask h = with_cells h (with_cell h.cells i (merged_cell (cell h.cells i) v mask))

-- the victim of a full list is its last entry
abbrev pub victim_of : ℕ → List Held → Option Held
victim_of ways hs = if nat_lt (length hs) ways then None else slice_get hs (length hs - 1)

-- an entry that is to be written back
abbrev pub dirty_one : Option Held → Option Held
dirty_one None = None
dirty_one (Some h) = if h.dirty then Some h else None

-- the victim of a full list, where it is to be written back
abbrev pub dirty_victim_of : ℕ → List Held → Option Held
dirty_victim_of ways hs = dirty_one (victim_of ways hs)

-- a list without its victim, where it is full
abbrev pub with_room : ℕ → List Held → List Held
with_room ways hs = if nat_lt (length hs) ways then hs else take (length hs - 1) hs

-- the list of a line: that of its set
abbrev pub line_list : ℕ → List (List Held) → ℕ → List Held
line_list sets lists l = slice_index_or lists (l % sets) []

-- the entry of a line in its set
abbrev pub line_entry : ℕ → List (List Held) → ℕ → Option Held
line_entry sets lists l = entry_of l (line_list sets lists l)

-- the lists with another list for a line
abbrev pub with_line_list : ℕ → List (List Held) → ℕ → List Held → List (List Held)
with_line_list sets lists l list = slice_set lists (l % sets) list

-- the lists after a hit: what became of the line's entry is in front of its set
abbrev pub renewed_in : ℕ → List (List Held) → ℕ → (Held → Held) → List (List Held)
renewed_in sets lists l renew =
    with_line_list sets lists l (renewed_as (line_entry sets lists l) renew l (line_list sets lists l))
