-- The words of the memory.
use Rattle.std.specs.Prelude.{ℕ, List, slice_index_or}
use Rattle.poison_mem.specs.declared.cell.CellState.{CellState}
use Rattle.ecc_memory.specs.Word.{codeword_of}

-- word w
abbrev pub cell_at : List CellState → ℕ → CellState
cell_at cells w = slice_index_or cells w (codeword_of 0)
