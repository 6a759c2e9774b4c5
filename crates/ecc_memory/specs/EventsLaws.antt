-- No event of the memory is critical.
use Rattle.std.proofs.Common.{◌≢◌, ℕ, zero, suc, ◌+◌, ◌*◌, Bool, true, false, List, ◌++◌}
use Rattle.std.specs.List.{AllByRecursion}
use Rattle.std.proofs.lemmas.List.Elements.{All-append, All-from_recursion, recursion_from_All}
use Rattle.poison_mem.specs.declared.cell.CellState.{CellState}
use Rattle.poison_mem.specs.declared.event.Class.TheVariants.{Critical}
use Rattle.poison_mem.specs.declared.event.Event.{Event}
use Rattle.poison_mem.specs.declared.record_id.RecordId.{RecordId}
use Rattle.poison_mem.specs.declared.record_id.RecordId.TheVariants.{Read}
use Rattle.hsiao_code.specs.Code.{fix}
use Rattle.hsiao_code.specs.declared.codeword.Decoded.{Decoded}
use Rattle.hsiao_code.specs.declared.codeword.Decoded.TheVariants.{Clean, Fixed, Bad}
use Rattle.ecc_memory.specs.Lines.{read_events}
use Rattle.ecc_memory.specs.Memory.{cell_at}
use Rattle.ecc_memory.specs.Word.{bits_of, read_as, word_read}

-- an event that isn't critical
abbrev pub IsMild : Event → Type 0
IsMild e = e.class ≢ Critical

-- none of these events is critical
abbrev pub AreMild : List Event → Type 0
AreMild events = AllByRecursion IsMild events

pub both_mild : (xs ys : List Event) → AreMild xs → AreMild ys → AreMild (xs ++ ys)
both_mild xs ys h k = recursion_from_All IsMild (xs ++ ys) (All-append IsMild xs ys (All-from_recursion IsMild xs h) (All-from_recursion IsMild ys k))

-- a read of a word
pub word_mild : (id : RecordId) (w : ℕ) (s : CellState) → AreMild (word_read id w s).events
unfolding word_read
word_mild id w s = by_decoded s.mark (fix (bits_of s))
  where
    by_decoded : (marked : Bool) (decoded : Decoded) → AreMild (read_as marked decoded id w s).events
    by_decoded true decoded = tt
    by_decoded false (Clean v) = tt
    by_decoded false (Fixed v bit) = ((λ h. cc), tt)
    by_decoded false Bad = ((λ h. cc), tt)

-- and of words of a line
pub reads_mild : (cells : List CellState) (l n : ℕ) → AreMild (read_events cells l n)
unfolding read_events
reads_mild cells l zero = tt
reads_mild cells l (suc n) =
    both_mild (read_events cells l n) (word_read Read (8 * l + n) (cell_at cells (8 * l + n))).events (reads_mild cells l n)
    (word_mild Read (8 * l + n) (cell_at cells (8 * l + n)))
