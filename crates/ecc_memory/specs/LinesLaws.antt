-- Each call on the memory keeps what its lines stand for, and only a flip adds to the flips that a word counts.
use Rattle.std.proofs.Common.{ℕ, zero, suc, ◌^◌, ◌+◌, ◌*◌, ◌≡◌, ◌≢◌, ◌<◌, ◌≤◌, ◌∙◌, ◌⊎◌, inl, inr, sym, ap, refl, subst, List, length, false, arith, slice_set, map, slice_index, replicate}
use Rattle.std.proofs.lemmas.Bool.{cases_eq, cases_lt}
use Rattle.std.proofs.lemmas.List.{get_or-set_other, get_or-set_same, length-set, set_past}
use Rattle.std.proofs.Math.ListN.{get_or-map}
use Rattle.poison_mem.specs.declared.cell.CellState.{CellState}
use Rattle.poison_mem.specs.declared.line.Line.{Line}
use Rattle.poison_mem.specs.declared.record_id.RecordId.TheVariants.{Read}
use Rattle.poison_mem.specs.Cells.{is_third, raised_at, CountsNoMore, CellsKeepCounts}
use Rattle.poison_mem.specs.CellsLaws.{raised-up, raised_at-same, raised_at-other}
use Rattle.poison_mem.specs.Flips.{Shows}
use Rattle.poison_mem.specs.Line.{cell}
use Rattle.poison_mem.specs.Level.{LinesKeepWords, LinesKeepCounts, KeepsLines, CellsKeepLines, LineShows}
use Rattle.poison_mem.specs.LineLaws.{cell-line_by}
use Rattle.poison_mem.specs.ListLaws.{same_all}
use Rattle.ecc_memory.specs.Word.{codeword_of, word_put, word_struck, word_scrubbed}
use Rattle.ecc_memory.specs.WordLaws.{made-stands, read-shows, read-keeps, put-stands, struck-stands, scrub-stands, stands-more, read-counts, put-counts, struck-counts, scrubbed-counts}
use Rattle.ecc_memory.specs.Memory.{cell_at}
use Rattle.ecc_memory.specs.Lines.{shown_at, shown_line, after_reads, after_puts, memory_level, memory_calls}
use Rattle.ecc_memory.specs.Standing.{WordStands, LineStands, HasWholeLines}

-- a word of the memory after one was set
set-keeps : (cells : List CellState) (w k value flips : ℕ) (new : CellState) → w < length cells → (k ≡ w → WordStands value flips new)
    → WordStands value flips (cell_at cells k) → WordStands value flips (cell_at (slice_set cells w new) k)
set-keeps cells w k value flips new inside at_w it = by_word (cases_eq k w)
  where
    by_word : (k ≡ w) ⊎ (k ≢ w) → WordStands value flips (cell_at (slice_set cells w new) k)
    by_word (inl same) = subst (λ s. WordStands value flips s) (sym (ap (λ n. cell_at (slice_set cells w new) n) same ∙ get_or-set_same cells w new (codeword_of 0) inside)) (at_w same)
    by_word (inr other) = subst (λ s. WordStands value flips s) (sym (get_or-set_other cells w k new (codeword_of 0) other)) it

shown-shows : (cells : List CellState) (l : ℕ) (f q : ℕ → ℕ) → LineStands cells l f q → LineShows f q l (shown_line cells l)
shown-shows cells l f q it i below =
    subst (λ c. Shows (f (8 * l + i)) (q (8 * l + i)) c) (sym (cell-line_by (λ i. shown_at cells (8 * l + i)) i below))
    (read-shows Read (8 * l + i) (f (8 * l + i)) (q (8 * l + i)) (cell_at cells (8 * l + i)) (it i below))

-- reads of the words of a line
pub reads-words : (l : ℕ) (cells : List CellState) (n : ℕ) → length (after_reads cells l n) ≡ length cells
unfolding after_reads
reads-words l cells zero = refl
reads-words l cells (suc n) = length-set (after_reads cells l n) (8 * l + n) _ ∙ reads-words l cells n

reads-keep : (l : ℕ) (cells : List CellState) (n k value flips : ℕ) → 8 * l + n ≤ length cells
    → WordStands value flips (cell_at cells k) → WordStands value flips (cell_at (after_reads cells l n) k)
unfolding after_reads
reads-keep l cells zero k value flips in_range it = it
reads-keep l cells (suc n) k value flips in_range it =
    let inside : 8 * l + n < length (after_reads cells l n) = rw (reads-words l cells n) (omega arith) in
    set-keeps (after_reads cells l n) (8 * l + n) k value flips _ inside
    (λ same. read-keeps Read (8 * l + n) value flips (cell_at cells (8 * l + n)) (subst (λ w. WordStands value flips (cell_at cells w)) same it))
    (reads-keep l cells n k value flips (omega arith) it)

-- puts of the cells of a line
pub puts-words : (l : ℕ) (cells : List CellState) (line : Line) (n : ℕ) → length (after_puts cells l line n) ≡ length cells
unfolding after_puts
puts-words l cells line zero = refl
puts-words l cells line (suc n) = length-set (after_puts cells l line n) (8 * l + n) _ ∙ puts-words l cells line n

puts-others : (l : ℕ) (cells : List CellState) (line : Line) (n k : ℕ) → ((i : ℕ) → i < n → 8 * l + i ≢ k) → cell_at (after_puts cells l line n) k ≡ cell_at cells k
unfolding after_puts
puts-others l cells line zero k apart = refl
puts-others l cells line (suc n) k apart =
    get_or-set_other (after_puts cells l line n) (8 * l + n) k _ (codeword_of 0) (λ same. apart n (omega arith) (sym same))
    ∙ puts-others l cells line n k (λ i below. apart i (omega arith))

puts-stand : (l : ℕ) (cells : List CellState) (line : Line) (n : ℕ) (f q : ℕ → ℕ) → n ≤ 8 → 8 * l + n ≤ length cells → LineShows f q l line
    → (i : ℕ) → i < n → WordStands (f (8 * l + i)) (q (8 * l + i)) (cell_at (after_puts cells l line n) (8 * l + i))
unfolding after_puts
puts-stand l cells line zero f q fits in_range shows i below = absurd (omega arith)
puts-stand l cells line (suc n) f q fits in_range shows i below = by_index (λ under. puts-stand l cells line n f q (omega arith) (omega arith) shows i under) (cases_eq i n)
  where
    inside : 8 * l + n < length (after_puts cells l line n)
    inside = rw (puts-words l cells line n) (omega arith)

    new : CellState
    new = word_put (cell line n) (cell_at cells (8 * l + n))

    by_index : (i < n → WordStands (f (8 * l + i)) (q (8 * l + i)) (cell_at (after_puts cells l line n) (8 * l + i)))
        → (i ≡ n) ⊎ (i ≢ n)
        → WordStands (f (8 * l + i)) (q (8 * l + i)) (cell_at (slice_set (after_puts cells l line n) (8 * l + n) new) (8 * l + i))
    by_index before (inl same) =
        subst (λ k. WordStands (f (8 * l + k)) (q (8 * l + k)) (cell_at (slice_set (after_puts cells l line n) (8 * l + n) new) (8 * l + k))) (sym same)
        (rw (get_or-set_same (after_puts cells l line n) (8 * l + n) new (codeword_of 0) inside)
        (put-stands (f (8 * l + n)) (q (8 * l + n)) (cell_at cells (8 * l + n)) (cell line n) (shows n (omega arith))))
    by_index before (inr other) =
        let apart : 8 * l + i ≢ 8 * l + n = λ same. other (omega arith) in
        rw (get_or-set_other (after_puts cells l line n) (8 * l + n) (8 * l + i) new (codeword_of 0) apart)
        (before (omega arith))

pub memory_lines_keep_words : LinesKeepWords memory_level
memory_lines_keep_words = record {
  get = λ cells l. reads-words l cells 8;
  put = λ cells l line. puts-words l cells line 8;
}

-- the memory shows the words that a line stands for, or poison only where two flips came, and each call keeps it so
pub memory_keeps_lines : KeepsLines memory_level HasWholeLines LineStands
memory_keeps_lines = record {
  whole = λ cells ok. ok;
  same = λ cells l f g q r it same up i below. stands-more (f (8 * l + i)) (g (8 * l + i)) (q (8 * l + i)) (r (8 * l + i)) (cell_at cells (8 * l + i)) (same i below) (up i below) (it i below);
  get_valid = λ cells l ok in_range. rw (reads-words l cells 8) ok;
  put_valid = λ cells l line ok in_range. rw (puts-words l cells line 8) ok;
  get_shows = λ cells l f q ok in_range it. shown-shows cells l f q it;
  peek_shows = λ cells l f q ok in_range it. shown-shows cells l f q it;
  get_keeps = λ cells l k f q ok in_range it i below. reads-keep l cells 8 (8 * k + i) (f (8 * k + i)) (q (8 * k + i)) (omega arith) (it i below);
  put_keeps = λ cells l k line f q ok in_range other it i below.
      let apart : (j : ℕ) → j < 8 → 8 * l + j ≢ 8 * k + i = λ j small same. other (omega arith) in
      rw (puts-others l cells line 8 (8 * k + i) apart) (it i below);
  put_stands = λ cells l line f q ok in_range shows. puts-stand l cells line 8 f q (omega arith) (omega arith) shows;
}

-- ---- the flips that the words count

-- counts within a bound stay so where the word that is set is within it
pub set_within : (cells : List CellState) (w : ℕ) (new : CellState) (most : ℕ → ℕ) → ((k : ℕ) → (cell_at cells k).count ≤ most k) → new.count ≤ most w
    → (k : ℕ) → (cell_at (slice_set cells w new) k).count ≤ most k
set_within cells w new most all low k = by_word (cases_eq k w) (cases_lt w (length cells))
  where
    by_word : (k ≡ w) ⊎ (k ≢ w) → (w < length cells) ⊎ (length cells ≤ w) → (cell_at (slice_set cells w new) k).count ≤ most k
    by_word (inr other) inside = rw (get_or-set_other cells w k new (codeword_of 0) other) (all k)
    by_word (inl same) (inl inside) = rw (same, get_or-set_same cells w new (codeword_of 0) inside) low
    by_word (inl same) (inr past) = rw (set_past cells w new past) (all k)

reads-count : (cells : List CellState) (l n : ℕ) → CountsNoMore cell_at cells (after_reads cells l n)
unfolding after_reads
reads-count cells l zero k = omega arith
reads-count cells l (suc n) k =
    let same = read-counts Read (8 * l + n) (cell_at cells (8 * l + n)) in
    set_within (after_reads cells l n) (8 * l + n) _ (λ k. (cell_at cells k).count) (reads-count cells l n) (omega arith) k

puts-count : (cells : List CellState) (l : ℕ) (line : Line) (n : ℕ) → CountsNoMore cell_at cells (after_puts cells l line n)
unfolding after_puts
puts-count cells l line zero k = omega arith
puts-count cells l line (suc n) k =
    let none = put-counts (cell line n) (cell_at cells (8 * l + n)) in
    set_within (after_puts cells l line n) (8 * l + n) _ (λ k. (cell_at cells k).count) (puts-count cells l line n) (omega arith) k

pub memory_lines_keep_counts : LinesKeepCounts memory_level memory_calls.cell
memory_lines_keep_counts = record {
  get = λ cells l. reads-count cells l 8;
  put = λ cells l line. puts-count cells l line 8;
}

pub memory_cells_keep_counts : CellsKeepCounts memory_level.words memory_calls
memory_cells_keep_counts = record {
  load_words = λ cells w v. length-set cells w _;
  strike_words = λ cells w bit. length-set cells w _;
  scrub_words = λ cells w. length-set cells w _;
  set_cell_words = λ cells w state. length-set cells w state;
  load = λ cells w v. set_within cells w (codeword_of v) (λ k. (cell_at cells k).count) (λ k. omega arith) (omega arith);
  scrub = λ cells w. set_within cells w _ (λ k. (cell_at cells k).count) (λ k. omega arith) (scrubbed-counts w (cell_at cells w));
  strike = λ cells w bit.
      set_within cells w _ (raised_at (λ n. (cell_at cells n).count) w) (λ k. raised-up (λ n. (cell_at cells n).count) w k)
      (let at_w = raised_at-same (λ n. (cell_at cells n).count) w in let most = struck-counts bit (cell_at cells w) in omega arith);
}

-- ---- flips and scrubs

-- any flip but a third one at a word
struck-keeps : (cells : List CellState) (w bit k value : ℕ) (q : ℕ → ℕ) → w < length cells → bit < 72 → is_third (memory_calls.cell cells w) ≡ false
    → WordStands value (q k) (cell_at cells k) → WordStands value (raised_at q w k) (cell_at (memory_calls.strike cells w bit) k)
struck-keeps cells w bit k value q inside fits third it = by_word (cases_eq k w)
  where
    new : CellState
    new = word_struck bit (cell_at cells w)

    by_word : (k ≡ w) ⊎ (k ≢ w) → WordStands value (raised_at q w k) (cell_at (slice_set cells w new) k)
    by_word (inl same) =
        subst (λ n. WordStands value (raised_at q w n) (cell_at (slice_set cells w new) n)) (sym same)
        (rw (raised_at-same q w, get_or-set_same cells w new (codeword_of 0) inside)
        (struck-stands value (q w) bit (cell_at cells w) fits third (subst (λ n. WordStands value (q n) (cell_at cells n)) same it)))
    by_word (inr other) = rw (raised_at-other q w k other, get_or-set_other cells w k new (codeword_of 0) other) it

pub memory_cells_keep_lines : CellsKeepLines memory_level memory_calls HasWholeLines LineStands
memory_cells_keep_lines = record {
  load_valid = λ cells w v ok in_range. rw (memory_cells_keep_counts.load_words cells w v) ok;
  strike_valid = λ cells w bit ok in_range fits. rw (memory_cells_keep_counts.strike_words cells w bit) ok;
  scrub_valid = λ cells w ok in_range. rw (memory_cells_keep_counts.scrub_words cells w) ok;
  set_cell_valid = λ cells w state ok in_range counted. rw (memory_cells_keep_counts.set_cell_words cells w state) ok;
  strike_keeps = λ cells w bit k f q ok in_range fits third it i below. struck-keeps cells w bit (8 * k + i) (f (8 * k + i)) q in_range fits third (it i below);
  scrub_keeps = λ cells w k f q ok in_range it i below.
      set-keeps cells w (8 * k + i) (f (8 * k + i)) (q (8 * k + i)) (word_scrubbed w (cell_at cells w)).after in_range
      (λ same. scrub-stands w (f (8 * k + i)) (q (8 * k + i)) (cell_at cells w) (subst (λ n. WordStands (f (8 * k + i)) (q (8 * k + i)) (cell_at cells n)) same (it i below)))
      (it i below);
}

-- each line of a memory of codewords stands for their values, whatever flips are told of it
pub codeword_lines_stand : (words : List ℕ) (l : ℕ) (q : ℕ → ℕ) → ((w : ℕ) → w < length words → slice_index words w < 2 ^ 64) → 8 * l + 7 < length words
    → LineStands (map codeword_of words) l (slice_index words) q
codeword_lines_stand words l q small in_range i below =
    subst (λ s. WordStands (slice_index words (8 * l + i)) (q (8 * l + i)) s) (sym (get_or-map codeword_of words (8 * l + i) 0))
    (made-stands (slice_index words (8 * l + i)) (q (8 * l + i)) (small (8 * l + i) (omega arith)))

-- and so does each line of a new memory, for zeros
pub zero_lines_stand : (cells : List CellState) (n : ℕ) → cells ≡ replicate n (codeword_of 0) → (l : ℕ) (q : ℕ → ℕ) → LineStands cells l (λ _. 0) q
zero_lines_stand cells n zeros l q i below =
    subst (λ s. WordStands 0 (q (8 * l + i)) s) (sym (ap (λ cells. cell_at cells (8 * l + i)) zeros ∙ same_all n (8 * l + i) (codeword_of 0)))
    (made-stands 0 (q (8 * l + i)) (omega arith))
