-- Two caches over a memory. It is a bus of words that take flips.
use Rattle.std.specs.Prelude.{◌≡◌, ℕ, ◌/◌, ◌%◌, List, [], map, replicate}
use Rattle.poison_mem.specs.declared.cell.CellState.{CellState}
use Rattle.poison_mem.specs.Bus.{BusMeaning, Reading}
use Rattle.poison_mem.specs.Flips.{FlipMeaning}
use Rattle.poison_mem.specs.Line.{cell}
use Rattle.poison_mem.specs.Cells.{CellCalls}
use Rattle.poison_mem.specs.Level.{Level, LineReading}
use Rattle.poison_mem.specs.declared.record_id.RecordId.{RecordId}
use Rattle.poison_mem.specs.declared.record_id.RecordId.TheVariants.{L1, L2}
use Rattle.poison_mem.specs.RecordId.{bank_number, record_number}
use Rattle.mem_stack.specs.declared.stack.TheConstants.{L1_SETS, L1_WAYS, L2_SETS, L2_WAYS}
use Rattle.poison_cache.specs.LogTo.{LogTo}
use Rattle.poison_cache.specs.Cache.{CachedLines, cache_level, cache_calls, cache_store}
use Rattle.ecc_memory.specs.Word.{codeword_of}
use Rattle.ecc_memory.specs.Lines.{memory_level, memory_calls}

-- the lines that the second cache holds, over the memory
abbrev pub SecondLines : Type 0
SecondLines = CachedLines (List CellState)

-- the lines that both caches hold, over the memory
abbrev pub StackLines : Type 0
StackLines = CachedLines SecondLines

-- the second cache, over the memory
abbrev pub second_level : Level SecondLines
second_level = cache_level L2_SETS L2_WAYS memory_level

-- the first cache, over the second
abbrev pub stack_level : Level StackLines
stack_level = cache_level L1_SETS L1_WAYS second_level

-- the calls on the cells of the memory below
abbrev pub stack_calls : CellCalls StackLines
stack_calls = cache_calls (cache_calls memory_calls)

-- a read of a word: its line is read, and the word's cell of it is the answer
abbrev pub word_of_line : LineReading StackLines → ℕ → Reading StackLines
word_of_line got w = record { cell = cell got.cells (w % 8); after = got.after; events = got.events }

-- the stack is a bus: a read is of the word's line, a store is that of the first cache
abbrev pub stack_meaning : BusMeaning StackLines
stack_meaning = record {
  words = stack_level.words;
  read = λ s w. word_of_line (stack_level.get s (w / 8)) w;
  store = λ s w v mask. cache_store L1_SETS L1_WAYS second_level s w v mask;
}

-- the words of its memory take flips; what is seen of a word is its cell of the visible line
abbrev pub stack_flips : FlipMeaning StackLines
stack_flips = record {
  cells = stack_calls;
  view = λ s w. cell (stack_level.peek s (w / 8)) (w % 8);
}

-- a log to a record
abbrev pub log_of : RecordId → LogTo
log_of id = record { bank = bank_number id; rec = record_number id }

-- each cache logs to its own record
abbrev pub LogsToOwnRecords : StackLines → Type 0
LogsToOwnRecords s = (s.log_to ≡ log_of L1) × (s.below.log_to ≡ log_of L2)

-- no line is held, and each cache logs to its own record
abbrev pub fresh_stack : List CellState → StackLines
fresh_stack cells = record {
  lists = replicate L1_SETS [];
  log_to = log_of L1;
  below = record { lists = replicate L2_SETS []; log_to = log_of L2; below = cells };
}

-- no line is held, and the memory's words are the codewords of these values
abbrev pub loaded_stack : List ℕ → StackLines
loaded_stack words = fresh_stack (map codeword_of words)
