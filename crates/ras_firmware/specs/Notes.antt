-- What the drain has noted of each record.
use Rattle.std.specs.Prelude.{◌≡◌, ℕ, List, length, Option, Some, None, IfSome, slice_index_or, slice_set, replicate}
use Rattle.poison_mem.specs.declared.event.RecordView.{RecordView}
use Rattle.poison_mem.specs.RecordView.{IsSoundView}
use Rattle.poison_mem.specs.RecordId.{bank_number, record_number, all_records}
use Rattle.poison_mem.specs.declared.record_id.RecordId.{RecordId}
use Rattle.poison_mem.specs.declared.record_id.RecordId.TheVariants.{Read, Scrub, L1, L2, Hart}
use Rattle.reri_bank.specs.Views.{IsOf}

-- a note of each record, where one is left, in the order of all records
abbrev pub Notes : Type 0
Notes = List (Option RecordView)

-- the place of a record among all
abbrev pub index_of : RecordId → ℕ
index_of Read = 0
index_of Scrub = 1
index_of L1 = 2
index_of L2 = 3
index_of Hart = 4

-- no note is left
abbrev pub no_notes : Notes
no_notes = replicate (length all_records) None

-- the note of a record
abbrev pub note_at : Notes → RecordId → Option RecordView
note_at notes id = slice_index_or notes (index_of id) None

-- a record's note is set
abbrev pub with_note : Notes → RecordId → Option RecordView → Notes
with_note notes id v = slice_set notes (index_of id) v

-- the note of the record that a bank and a number name
abbrev pub named_note : Notes → Option RecordId → Option RecordView
named_note notes None = None
named_note notes (Some id) = note_at notes id

-- the same note is set
abbrev pub with_named_note : Notes → Option RecordId → Option RecordView → Notes
with_named_note notes None v = notes
with_named_note notes (Some id) v = with_note notes id v

-- a note of a record is a sound view that names it
pub record IsNote (bank rec : ℕ) (v : RecordView) : Type 0 where
  pub sound : IsSoundView v
  pub names : IsOf bank rec v.kept

-- what holds of notes: there is a place for each record, and each note is one of its record
pub record AreNotes (notes : Notes) : Type 0 where
  pub count : length notes ≡ length all_records
  pub each : (id : RecordId)
      → IfSome (note_at notes id) (IsNote (bank_number id) (record_number id))
