-- The stack keeps what it stands for, and of the calls of a run only a flip adds to the flips that a word counts.
use Rattle.std.proofs.Common.{ℕ, ◌^◌, ◌+◌, ◌*◌, ◌/◌, ◌%◌, ◌<◌, ◌≡◌, List, replicate, length, subst, ap, refl, arith, map, slice_index}
use Rattle.std.proofs.lemmas.List.{length-replicate, length-map}
use Rattle.std.proofs.Math.ListN.{get_or-map}
use Rattle.poison_mem.specs.declared.line.Line.{Line}
use Rattle.poison_mem.specs.declared.cell.CellState.{CellState}
use Rattle.poison_mem.specs.declared.record_id.RecordId.TheVariants.{L1, L2}
use Rattle.poison_mem.specs.Bus.{KeepsWords}
use Rattle.poison_mem.specs.Cells.{CellsKeepCounts, raised_at}
use Rattle.poison_mem.specs.Flips.{Shows, IsFaithful, WordsKeepCounts, stored_at, renewed_at}
use Rattle.poison_mem.specs.Line.{cell}
use Rattle.poison_mem.specs.Level.{InRange, LineShows, LinesKeepWords, LinesKeepCounts, KeepsLines, CellsKeepLines}
use Rattle.poison_cache.specs.Cache.{cache_calls}
use Rattle.poison_cache.specs.WordsLaws.{cache_keeps_words, store_words}
use Rattle.poison_cache.specs.EntriesLaws.{no_lines_sound}
use Rattle.poison_cache.specs.CountsLaws.{cache_cells_keep_counts, cache_lines_keep_counts, store_counts}
use Rattle.poison_cache.specs.StandingLaws.{cache_keeps_lines, cache_cells_keep_lines, store-keeps, store-valid, empty-stands}
use Rattle.ecc_memory.specs.Word.{codeword_of}
use Rattle.ecc_memory.specs.Lines.{memory_level, memory_calls}
use Rattle.ecc_memory.specs.Standing.{HasWholeLines, LineStands}
use Rattle.ecc_memory.specs.LinesLaws.{memory_lines_keep_words, memory_keeps_lines, memory_cells_keep_counts, memory_lines_keep_counts, memory_cells_keep_lines, codeword_lines_stand, zero_lines_stand}
use Rattle.mem_stack.specs.declared.stack.TheConstants.{L1_SETS, L1_WAYS, L2_SETS, L2_WAYS}
use Rattle.mem_stack.specs.Stack.{StackLines, second_level, stack_level, stack_calls, stack_meaning, stack_flips, log_of, fresh_stack, loaded_stack}
use Rattle.mem_stack.specs.StackStands.{SecondValid, StackValid, SecondStands, StackLineStands, StackStands}

second_keeps_words : LinesKeepWords second_level
second_keeps_words = cache_keeps_words memory_level memory_lines_keep_words L2_SETS L2_WAYS

second_keeps_lines : KeepsLines second_level SecondValid SecondStands
second_keeps_lines = cache_keeps_lines memory_level HasWholeLines LineStands memory_lines_keep_words memory_keeps_lines L2_SETS L2_WAYS

second_cells_keep_counts : CellsKeepCounts second_level.words (cache_calls memory_calls)
second_cells_keep_counts = cache_cells_keep_counts memory_level memory_calls memory_cells_keep_counts L2_SETS L2_WAYS

second_lines_keep_counts : LinesKeepCounts second_level (cache_calls memory_calls).cell
second_lines_keep_counts = cache_lines_keep_counts memory_level memory_calls memory_lines_keep_counts L2_SETS L2_WAYS

stack_lines_keep_counts : LinesKeepCounts stack_level stack_calls.cell
stack_lines_keep_counts = cache_lines_keep_counts second_level (cache_calls memory_calls) second_lines_keep_counts L1_SETS L1_WAYS

pub stack_cells_keep_counts : CellsKeepCounts stack_meaning.words stack_flips.cells
stack_cells_keep_counts = cache_cells_keep_counts second_level (cache_calls memory_calls) second_cells_keep_counts L1_SETS L1_WAYS

pub stack_words_keep_counts : WordsKeepCounts stack_meaning stack_flips.cells.cell
stack_words_keep_counts = record {
  read = λ s w. stack_lines_keep_counts.get s (w / 8);
  store = λ s w v mask. store_counts second_level (cache_calls memory_calls) second_lines_keep_counts L1_SETS L1_WAYS s w v mask;
}

second_cells_keep_lines : CellsKeepLines second_level (cache_calls memory_calls) SecondValid SecondStands
second_cells_keep_lines = cache_cells_keep_lines memory_level memory_calls HasWholeLines LineStands memory_cells_keep_counts memory_keeps_lines memory_cells_keep_lines L2_SETS L2_WAYS

pub stack_lines_keep_words : LinesKeepWords stack_level
stack_lines_keep_words = cache_keeps_words second_level second_keeps_words L1_SETS L1_WAYS

pub stack_keeps_lines : KeepsLines stack_level StackValid StackLineStands
stack_keeps_lines = cache_keeps_lines second_level SecondValid SecondStands second_keeps_words second_keeps_lines L1_SETS L1_WAYS

pub stack_cells_keep_lines : CellsKeepLines stack_level stack_calls StackValid StackLineStands
stack_cells_keep_lines = cache_cells_keep_lines second_level (cache_calls memory_calls) SecondValid SecondStands second_cells_keep_counts second_keeps_lines second_cells_keep_lines L1_SETS L1_WAYS

-- the line of a word is in range
pub word_in_range : (s : StackLines) (w : ℕ) → StackValid s → w < stack_level.words s → InRange stack_level s (w / 8)
word_in_range s w ok inside = let whole = stack_keeps_lines.whole s ok in omega arith

-- the word's own cell of a line that shows its words
own_cell : (f q : ℕ → ℕ) (w : ℕ) (line : Line) → LineShows f q (w / 8) line → Shows (f w) (q w) (cell line (w % 8))
own_cell f q w line it =
    let same : 8 * (w / 8) + w % 8 ≡ w = omega arith in
    subst (λ k. Shows (f k) (q k) (cell line (w % 8))) same (it (w % 8) (omega arith))

pub stack_keeps_words : KeepsWords stack_meaning
stack_keeps_words = record {
  read = λ s w. stack_lines_keep_words.get s (w / 8);
  store = λ s w v mask. store_words second_level second_keeps_words L1_SETS L1_WAYS s w v mask;
}

-- a state with as many words, in which each line stands that did
kept : (s t : StackLines) (f g q r : ℕ → ℕ) → StackStands s f q → stack_level.words t ≡ stack_level.words s → StackValid t
    → ((l : ℕ) → StackLineStands s l f q → StackLineStands t l g r) → StackStands t g r
kept s t f g q r it same ok lines = record {
  valid = ok;
  each = λ l in_range. lines l (it.each l (subst (λ n. 8 * l + 7 < n) same in_range));
}

-- the stack shows the words that it stands for, or poison only where two flips came, and each call keeps it so
pub stack_faithful : IsFaithful stack_meaning stack_flips StackStands
stack_faithful = record {
  same = λ s f g q r it same up. record {
    valid = it.valid;
    each = λ l in_range. stack_keeps_lines.same s l f g q r (it.each l in_range) (λ i below. same (8 * l + i) (omega arith)) (λ i below. up (8 * l + i) (omega arith));
  };
  read_shows = λ s w f q inside it.
      let in_range = word_in_range s w it.valid inside in
      own_cell f q w (stack_level.get s (w / 8)).cells (stack_keeps_lines.get_shows s (w / 8) f q it.valid in_range (it.each (w / 8) in_range));
  view_shows = λ s w f q inside it.
      let in_range = word_in_range s w it.valid inside in
      own_cell f q w (stack_level.peek s (w / 8)) (stack_keeps_lines.peek_shows s (w / 8) f q it.valid in_range (it.each (w / 8) in_range));
  read_keeps = λ s w f q inside it.
      let in_range = word_in_range s w it.valid inside in
      kept s (stack_level.get s (w / 8)).after f f q q it (stack_lines_keep_words.get s (w / 8)) (stack_keeps_lines.get_valid s (w / 8) it.valid in_range)
      (λ l stood. stack_keeps_lines.get_keeps s (w / 8) l f q it.valid in_range stood);
  store_keeps = λ s w v mask f q inside it.
      let in_range = word_in_range s w it.valid inside in
      kept s (stack_meaning.store s w v mask).after f (stored_at f w v mask) q (renewed_at q w mask) it (stack_keeps_words.store s w v mask)
      (store-valid second_level SecondValid SecondStands second_keeps_words second_keeps_lines L1_SETS L1_WAYS s w v mask it.valid in_range)
      (λ l stood. store-keeps second_level SecondValid SecondStands second_keeps_words second_keeps_lines L1_SETS L1_WAYS s w v mask it.valid in_range l f q stood);
  strike_keeps = λ s w bit f q inside fits third it.
      kept s (stack_flips.cells.strike s w bit) f f q (raised_at q w) it (stack_cells_keep_counts.strike_words s w bit) (stack_cells_keep_lines.strike_valid s w bit it.valid inside fits)
      (λ l stood. stack_cells_keep_lines.strike_keeps s w bit l f q it.valid inside fits third stood);
  scrub_keeps = λ s w f q inside it.
      kept s (stack_flips.cells.scrub s w).after f f q q it (stack_cells_keep_counts.scrub_words s w) (stack_cells_keep_lines.scrub_valid s w it.valid inside)
      (λ l stood. stack_cells_keep_lines.scrub_keeps s w l f q it.valid inside stood);
}

-- a stack that holds no line stands for what its memory stands for
pub fresh_stands : (cells : List CellState) (f q : ℕ → ℕ) → length cells % 8 ≡ 0 → ((l : ℕ) → 8 * l + 7 < length cells → LineStands cells l f q) → StackStands (fresh_stack cells) f q
fresh_stands cells f q whole it = record {
  valid = record {
    lists = no_lines_sound L1_SETS L1_WAYS (length cells) (omega arith) (omega arith) (omega arith);
    below = record { lists = no_lines_sound L2_SETS L2_WAYS (length cells) (omega arith) (omega arith) (omega arith); below = whole };
  };
  each = λ l in_range. empty-stands SecondStands L1_SETS (log_of L1) _ l f q (empty-stands LineStands L2_SETS (log_of L2) cells l f q (it l in_range));
}

-- a stack that was loaded stands for its words, whatever flips are told of them
pub loaded_stands : (words : List ℕ) (q : ℕ → ℕ) → length words % 8 ≡ 0 → ((w : ℕ) → w < length words → slice_index words w < 2 ^ 64)
    → StackStands (loaded_stack words) (slice_index words) q
loaded_stands words q whole small =
    let same : length (map codeword_of words) ≡ length words = length-map words codeword_of in
    fresh_stands (map codeword_of words) (slice_index words) q (rw same whole) (λ l in_range. codeword_lines_stand words l q small (rw same at in_range))

-- a new stack stands for zeros
pub zeros_stand : (n : ℕ) (q : ℕ → ℕ) → n % 8 ≡ 0 → StackStands (fresh_stack (replicate n (codeword_of 0))) (λ _. 0) q
zeros_stand n q whole =
    fresh_stands (replicate n (codeword_of 0)) (λ _. 0) q (rw (length-replicate n (codeword_of 0)) whole)
    (λ l in_range. zero_lines_stand (replicate n (codeword_of 0)) n refl l q)

-- a stack that was loaded has these words, and counts no flip
pub loaded_words : (words : List ℕ) → stack_meaning.words (loaded_stack words) ≡ length words
loaded_words words = length-map words codeword_of

pub loaded_counts : (words : List ℕ) (w : ℕ) → (stack_flips.cells.cell (loaded_stack words) w).count ≡ 0
loaded_counts words w = ap (λ (s : CellState). s.count) (get_or-map codeword_of words w 0)
