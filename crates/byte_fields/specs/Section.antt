-- What a descriptor of a record (UEFI Appendix N, "Section Descriptor") and an entry of a status block (ACPI, "Generic
-- Error Data Entry") tell of a section.
use Rattle.std.specs.Prelude.{◌≡◌, ℕ, ◌+◌, ◌≤◌, List, length, Option, Some, None, if◌then◌else◌}
use Rattle.ras_bits.specs.Bits.{has_bit}
use Rattle.ras_bits.specs.declared.terms.SectionAt.{SectionAt}
use Rattle.byte_fields.specs.declared.slot.Slot.{Slot}
use Rattle.byte_fields.specs.declared.section.SectionSlots.{SectionSlots}
use Rattle.byte_fields.specs.declared.section.TheConstants.{FRU_TEXT_VALID}
use Rattle.byte_fields.specs.Fields.{number_in, bytes_in}

-- a slot of a format that begins at `start` has so many bytes, and all of them are there
pub record IsThere (slot : Slot) (size start : ℕ) (b : List ℕ) : Type 0 where
  pub width : slot.width ≡ size
  pub there : start + slot.offset + size ≤ length b

-- the slots that tell of a section have their lengths, and are there
pub record TellsOfSection (slots : SectionSlots) (start : ℕ) (b : List ℕ) : Type 0 where
  pub kind : IsThere slots.kind 16 start b
  pub length : IsThere slots.length 4 start b
  pub severity : IsThere slots.severity 4 start b
  pub valid : IsThere slots.valid 1 start b
  pub fru : IsThere slots.fru 20 start b

-- the text that names the field-replaceable unit, where its validation bit is set
abbrev pub fru_in : SectionSlots → ℕ → List ℕ → Option (List ℕ)
fru_in slots start b = if has_bit (number_in slots.valid start b) FRU_TEXT_VALID then Some (bytes_in slots.fru start b) else None

-- the section that begins at `section_start`, as what begins at `start` tells
unfoldable pub section_in : SectionSlots → ℕ → ℕ → List ℕ → SectionAt
section_in slots start section_start b = record {
  kind = bytes_in slots.kind start b;
  start = section_start;
  length = number_in slots.length start b;
  severity = number_in slots.severity start b;
  fru = fru_in slots start b;
}
