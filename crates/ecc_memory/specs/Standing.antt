-- When a word, and a line, of the memory stands for values (Hsiao 1970).
use Rattle.std.specs.Prelude.{ℕ, ◌^◌, ◌+◌, ◌*◌, ◌%◌, ◌≡◌, ◌≤◌, ◌<◌, Bool, true, false, List, length}
use Rattle.poison_mem.specs.declared.cell.CellState.{CellState}
use Rattle.hsiao_code.specs.Near.{IsNear}
use Rattle.ecc_memory.specs.Word.{bits_of}
use Rattle.ecc_memory.specs.Memory.{cell_at}

-- a marked word took at least two flips; another differs from the value's codeword in no more bits than it counts, at most two
abbrev pub WordStandsAs : Bool → ℕ → ℕ → CellState → Type 0
WordStandsAs true value flips s = 2 ≤ flips
WordStandsAs false value flips s = (s.count ≤ 2) × (s.count ≤ flips) × (value < 2 ^ 64) × IsNear s.count (bits_of s) value

-- the word stands for the value within this many flips
abbrev pub WordStands : ℕ → ℕ → CellState → Type 0
WordStands value flips s = WordStandsAs s.mark value flips s

-- each word of line l stands for the value that f gives it, within the flips that q gives it
abbrev pub LineStands : List CellState → ℕ → (ℕ → ℕ) → (ℕ → ℕ) → Type 0
LineStands cells l f q = (i : ℕ) → i < 8 → WordStands (f (8 * l + i)) (q (8 * l + i)) (cell_at cells (8 * l + i))

-- a memory has whole lines
abbrev pub HasWholeLines : List CellState → Type 0
HasWholeLines cells = length cells % 8 ≡ 0
