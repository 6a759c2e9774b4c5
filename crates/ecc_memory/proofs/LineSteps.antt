-- One more word of a line.
use Rattle.std.proofs.Common.{ℕ, zero, suc, ◌+◌, ◌*◌, ◌≡◌, ◌≤◌, ◌∙◌, List, [], ◌++◌, refl, add-one, arith, slice_set}
use Rattle.std.proofs.lemmas.List.{get_or-set_other}
use Rattle.poison_mem.specs.declared.line.Line.{Line}
use Rattle.poison_mem.specs.declared.cell.CellState.{CellState}
use Rattle.poison_mem.specs.declared.record_id.RecordId.TheVariants.{Read}
use Rattle.poison_mem.specs.Line.{cell}
use Rattle.ecc_memory.specs.Word.{codeword_of, word_read, word_put}
use Rattle.ecc_memory.specs.Memory.{cell_at}
use Rattle.ecc_memory.specs.Lines.{after_reads, read_events, after_puts}

pub none_read : (cells : List CellState) (l : ℕ) → after_reads cells l 0 ≡ cells
unfolding after_reads
none_read cells l = refl

pub none_logged : (cells : List CellState) (l : ℕ) → read_events cells l 0 ≡ []
unfolding read_events
none_logged cells l = refl

pub none_put : (cells : List CellState) (l : ℕ) (line : Line) → after_puts cells l line 0 ≡ cells
unfolding after_puts
none_put cells l line = refl

-- the words from the n-th on are as they were
pub unread : (cells : List CellState) (l n k : ℕ) → 8 * l + n ≤ k → cell_at (after_reads cells l n) k ≡ cell_at cells k
unfolding after_reads
unread cells l zero k above = refl
unread cells l (suc n) k above =
    get_or-set_other (after_reads cells l n) (8 * l + n) k _ (codeword_of 0) (λ same. absurd (omega arith))
    ∙ unread cells l n k (omega arith)

pub unput : (cells : List CellState) (l : ℕ) (line : Line) (n k : ℕ) → 8 * l + n ≤ k → cell_at (after_puts cells l line n) k ≡ cell_at cells k
unfolding after_puts
unput cells l line zero k above = refl
unput cells l line (suc n) k above =
    get_or-set_other (after_puts cells l line n) (8 * l + n) k _ (codeword_of 0) (λ same. absurd (omega arith))
    ∙ unput cells l line n k (omega arith)

pub one_more_read : (cells : List CellState) (l n : ℕ)
    → after_reads cells l (n + 1) ≡ slice_set (after_reads cells l n) (8 * l + n) (word_read Read (8 * l + n) (cell_at (after_reads cells l n) (8 * l + n))).after
unfolding after_reads
one_more_read cells l n = rw (add-one, unread cells l n (8 * l + n) (omega arith)) refl

pub one_more_logged : (cells : List CellState) (l n : ℕ)
    → read_events cells l (n + 1) ≡ read_events cells l n ++ (word_read Read (8 * l + n) (cell_at (after_reads cells l n) (8 * l + n))).events
unfolding read_events
one_more_logged cells l n = rw (add-one, unread cells l n (8 * l + n) (omega arith)) refl

pub one_more_put : (cells : List CellState) (l : ℕ) (line : Line) (n : ℕ)
    → after_puts cells l line (n + 1) ≡ slice_set (after_puts cells l line n) (8 * l + n) (word_put (cell line n) (cell_at (after_puts cells l line n) (8 * l + n)))
unfolding after_puts
one_more_put cells l line n = rw (add-one, unput cells l line n (8 * l + n) (omega arith)) refl
