-- What a word of the memory is, and its rules (Hsiao 1970; its events and its poison: RERI 1.0, data poisoning).
use Rattle.std.specs.Prelude.{ℕ, ◌+◌, ◌/◌, ◌%◌, ◌^◌, [], ◌∷◌, Bool, true, false, min, if◌then◌else◌}
use Rattle.ras_bits.specs.Map.{word_address}
use Rattle.poison_mem.specs.declared.cell.Cell.{Cell}
use Rattle.poison_mem.specs.declared.cell.Cell.TheVariants.{Good, Poison}
use Rattle.poison_mem.specs.declared.cell.CellState.{CellState}
use Rattle.poison_mem.specs.declared.event.Event.{Event}
use Rattle.poison_mem.specs.declared.event.EventKind.{EventKind}
use Rattle.poison_mem.specs.declared.event.EventKind.TheVariants.{CorrectedWord, BadWord}
use Rattle.poison_mem.specs.declared.record_id.RecordId.{RecordId}
use Rattle.poison_mem.specs.declared.record_id.RecordId.TheVariants.{Scrub}
use Rattle.poison_mem.specs.Bus.{Reading, Storing}
use Rattle.poison_mem.specs.Event.{event_of}
use Rattle.poison_mem.specs.RecordId.{bank_number, record_number}
use Rattle.hsiao_code.specs.Code.{code_bits, check_bits, fix, flip}
use Rattle.hsiao_code.specs.declared.codeword.Decoded.{Decoded}
use Rattle.hsiao_code.specs.declared.codeword.Decoded.TheVariants.{Clean, Fixed, Bad}

-- the 72 bits of a word
abbrev pub bits_of : CellState → ℕ
bits_of s = code_bits s.value s.check

-- the codeword of a value, unmarked, with no flips counted
abbrev pub codeword_of : ℕ → CellState
codeword_of v = record { value = v; check = check_bits v; mark = false; count = 0 }

-- an event of word w for a record
abbrev pub event_of_word : EventKind → RecordId → ℕ → Event
event_of_word kind id w = event_of kind (bank_number id) (record_number id) (word_address w)

-- the event of a corrected word w, whose flipped bit this is
abbrev pub corrected_event : RecordId → ℕ → ℕ → Event
corrected_event id w bit = record (event_of_word CorrectedWord id w) { info = bit }

-- a read of a word, by its mark and what its bits stand for
abbrev pub read_as : Bool → Decoded → RecordId → ℕ → CellState → Reading CellState
read_as true decoded id w s = record { cell = Poison; after = s; events = [] }
read_as false (Clean v) id w s = record { cell = Good v; after = s; events = [] }
read_as false (Fixed v bit) id w s = record { cell = Good v; after = s; events = corrected_event id w bit ∷ [] }
read_as false Bad id w s = record { cell = Poison; after = record s { mark = true }; events = event_of_word BadWord id w ∷ [] }

-- a read of word w, whose event is for a record
unfoldable pub word_read : RecordId → ℕ → CellState → Reading CellState
word_read id w s = read_as s.mark (fix (bits_of s)) id w s

-- a word after a cell is put: a good one makes a new codeword, poison sets the mark
abbrev pub word_put : Cell → CellState → CellState
word_put (Good v) s = codeword_of v
word_put Poison s = record s { mark = true; count = 0 }

-- a word after a flip of a bit: it is counted where the word isn't marked, up to 3
unfoldable pub word_struck : ℕ → CellState → CellState
word_struck bit s =
    let x = flip (bits_of s) bit in
    record { value = x % 2 ^ 64; check = x / 2 ^ 64; mark = s.mark; count = if s.mark then s.count else min (s.count + 1) 3 }

-- a word that was read by a scrub: a good one is put again
abbrev pub put_again : Cell → CellState → CellState
put_again (Good v) s = word_put (Good v) s
put_again Poison s = s

-- a scrub of word w
abbrev pub word_scrubbed : ℕ → CellState → Storing CellState
word_scrubbed w s =
    let got = word_read Scrub w s in
    record { after = put_again got.cell got.after; events = got.events }
