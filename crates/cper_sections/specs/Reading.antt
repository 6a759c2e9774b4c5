-- What the reader of records answers, the first rule that is broken in the order of the tests.
use Rattle.std.specs.Prelude.{ℕ, ◌+◌, ◌*◌, ◌≤◌, Bool, not, ◌&&◌, ◌==◌, nat_lt, nat_le, if◌then◌else◌, List, map, length, codes, Option, Some, None, Result, Ok, Err}
use Rattle.std.specs.List.{find, range_with_len}
use Rattle.arrayvec.specs.ArrayVec.{ArrayVec}
use Rattle.ras_bits.specs.Results.{◌>>=◌}
use Rattle.ras_bits.specs.declared.terms.SectionAt.{SectionAt}
use Rattle.byte_fields.specs.Fields.{number_in}
use Rattle.byte_fields.specs.Section.{section_in}
use Rattle.cper_sections.specs.Record.{descriptor_length, header_length, end_mark}
use Rattle.cper_sections.specs.declared.header.TheConstants as header
use Rattle.cper_sections.specs.declared.descriptor.TheConstants as descriptor
use Rattle.cper_sections.specs.declared.reading.Cper.{Cper}
use Rattle.cper_sections.specs.declared.reading.CperRefused.{CperRefused}
use Rattle.cper_sections.specs.declared.reading.CperRefused.TheVariants as refused

-- the header's Signature Start, Signature End, Record Length and Section Count
abbrev pub signature_start : List ℕ → ℕ
signature_start b = number_in header.SIGNATURE_START 0 b

-- Signature End
abbrev pub signature_end : List ℕ → ℕ
signature_end b = number_in header.SIGNATURE_END 0 b

-- Record Length
abbrev pub record_length : List ℕ → ℕ
record_length b = number_in header.RECORD_LENGTH 0 b

-- Section Count
abbrev pub section_count : List ℕ → ℕ
section_count b = number_in header.SECTION_COUNT 0 b

-- where descriptor i begins
abbrev pub descriptor_start : ℕ → ℕ
descriptor_start i = header_length + descriptor_length * i

-- where the descriptors end
abbrev pub descriptors_end : List ℕ → ℕ
descriptors_end b = descriptor_start (section_count b)

-- so many descriptors lie in the bytes, 16 at most
pub record HasDescriptors (b : List ℕ) : Type 0 where
  pub few : section_count b ≤ 16
  pub there : descriptors_end b ≤ length b

-- a header is there, and the record and its descriptors lie in the bytes
unfoldable pub header_kept : List ℕ → Result (Unit {0}) CperRefused
header_kept b =
    if nat_lt (length b) header_length then Err refused.Short
    else if not (signature_start b == signature_start (codes "CPER")) then Err refused.Signature
    else if not (signature_end b == end_mark) then Err refused.EndMark
    else if nat_lt (record_length b) header_length then Err refused.Length
    else if nat_lt (length b) (record_length b) then Err refused.Length
    else if section_count b == 0 then Err refused.Sections
    else if nat_lt 16 (section_count b) then Err refused.Sections
    else if nat_lt (record_length b) (descriptors_end b) then Err refused.Sections
    else Ok tt

-- Section Offset, of the descriptor from an offset on
abbrev pub section_offset : List ℕ → ℕ → ℕ
section_offset b at = number_in descriptor.SECTION_OFFSET at b

-- Section Length, of the descriptor from an offset on
abbrev pub section_length : List ℕ → ℕ → ℕ
section_length b at = number_in descriptor.SECTION_LENGTH at b

-- the section of the descriptor from an offset on
abbrev pub section_at : List ℕ → ℕ → SectionAt
section_at b at = section_in descriptor.SECTION at (section_offset b at) b

-- section i begins behind the descriptors and ends before the record does
abbrev pub is_in_place : List ℕ → ℕ → Bool
is_in_place b i =
    nat_le (descriptors_end b) (section_offset b (descriptor_start i))
    && nat_le (section_offset b (descriptor_start i) + section_length b (descriptor_start i))
    (record_length b)

-- the numbers of the sections, counted from 0
abbrev pub section_numbers : List ℕ → List ℕ
section_numbers b = range_with_len 0 (section_count b)

-- the first section that is out of place is refused
abbrev pub none_misplaced : Option ℕ → Result (Unit {0}) CperRefused
none_misplaced None = Ok tt
none_misplaced (Some i) = Err (refused.SectionPlace i)

-- the sections in the order of their descriptors, where all are in place
abbrev pub sections_of : List ℕ → Result (ArrayVec SectionAt) CperRefused
sections_of b = do
  placed ← none_misplaced (find (λ i. not (is_in_place b i)) (section_numbers b))
  Ok (record { items = map (λ i. section_at b (descriptor_start i)) (section_numbers b) })

-- the record at the front
unfoldable pub record_of : List ℕ → Result Cper CperRefused
record_of b = do
  kept ← header_kept b
  sections ← sections_of b
  Ok (record {
    id = number_in header.RECORD_ID 0 b;
    severity = number_in header.ERROR_SEVERITY 0 b;
    at = number_in header.PERSISTENCE 0 b;
    length = record_length b;
    sections = sections;
  })
