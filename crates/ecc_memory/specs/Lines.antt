-- The memory as a level by lines, the words of a line in rising order.
use Rattle.std.specs.Prelude.{ℕ, zero, suc, ◌+◌, ◌*◌, List, [], ◌++◌, length, slice_set}
use Rattle.poison_mem.specs.declared.cell.Cell.{Cell}
use Rattle.poison_mem.specs.declared.cell.CellState.{CellState}
use Rattle.poison_mem.specs.declared.line.Line.{Line}
use Rattle.poison_mem.specs.declared.event.Event.{Event}
use Rattle.poison_mem.specs.declared.record_id.RecordId.TheVariants.{Read}
use Rattle.poison_mem.specs.Bus.{Storing}
use Rattle.poison_mem.specs.Line.{cell, line_by}
use Rattle.poison_mem.specs.Cells.{CellCalls}
use Rattle.poison_mem.specs.Level.{Level}
use Rattle.ecc_memory.specs.Word.{codeword_of, word_read, word_put, word_struck, word_scrubbed}
use Rattle.ecc_memory.specs.Memory.{cell_at}

-- what a read of word w shows
abbrev pub shown_at : List CellState → ℕ → Cell
shown_at cells w = (word_read Read w (cell_at cells w)).cell

-- what reads of the words of line l show
abbrev pub shown_line : List CellState → ℕ → Line
shown_line cells l = line_by (λ i. shown_at cells (8 * l + i))

-- the memory after the first n words of line l were read
unfoldable pub after_reads : List CellState → ℕ → ℕ → List CellState
after_reads cells l zero = cells
after_reads cells l (suc n) = slice_set (after_reads cells l n) (8 * l + n) (word_read Read (8 * l + n) (cell_at cells (8 * l + n))).after

-- the events of these reads, in order
unfoldable pub read_events : List CellState → ℕ → ℕ → List Event
read_events cells l zero = []
read_events cells l (suc n) = read_events cells l n ++ (word_read Read (8 * l + n) (cell_at cells (8 * l + n))).events

-- the memory after the first n cells of line l were put
unfoldable pub after_puts : List CellState → ℕ → Line → ℕ → List CellState
after_puts cells l line zero = cells
after_puts cells l line (suc n) = slice_set (after_puts cells l line n) (8 * l + n) (word_put (cell line n) (cell_at cells (8 * l + n)))

-- the memory is a level: a read of a line reads its eight words, a put puts its eight cells
abbrev pub memory_level : Level (List CellState)
memory_level = record {
  words = length;
  get = λ cells l. record { cells = shown_line cells l; after = after_reads cells l 8; events = read_events cells l 8 };
  put = λ cells l line. record { after = after_puts cells l line 8; events = [] };
  peek = shown_line;
}

-- the memory after word w was scrubbed
abbrev pub scrubbed_at : List CellState → ℕ → Storing CellState → Storing (List CellState)
scrubbed_at cells w step = record { after = slice_set cells w step.after; events = step.events }

-- its words take flips: each call does to its word what the rules of a word say, and leaves all others
abbrev pub memory_calls : CellCalls (List CellState)
memory_calls = record {
  load = λ cells w v. slice_set cells w (codeword_of v);
  strike = λ cells w bit. slice_set cells w (word_struck bit (cell_at cells w));
  scrub = λ cells w. scrubbed_at cells w (word_scrubbed w (cell_at cells w));
  cell = cell_at;
  set_cell = slice_set;
}
