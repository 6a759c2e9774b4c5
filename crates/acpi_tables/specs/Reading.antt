-- What the readers answer, the first rule that is broken in the order of the tests.
use Rattle.std.specs.Prelude.{ℕ, zero, suc, ◌+◌, ◌*◌, ◌%◌, Bool, not, ◌||◌, ◌==◌, nat_lt, if◌then◌else◌, List, map, length, take, sum, codes, Option, Some, None, Result, Ok, Err}
use Rattle.std.specs.List.{find, range_with_len}
use Rattle.arrayvec.specs.ArrayVec.{ArrayVec}
use Rattle.ras_bits.specs.Fields.{field}
use Rattle.ras_bits.specs.Results.{◌>>=◌}
use Rattle.ras_bits.specs.declared.terms.SectionAt.{SectionAt}
use Rattle.byte_fields.specs.Fields.{number_in}
use Rattle.byte_fields.specs.Section.{section_in}
use Rattle.acpi_tables.specs.Tables.{bert_length, least_hest}
use Rattle.acpi_tables.specs.ErrorSource.{generic_source, source_length}
use Rattle.acpi_tables.specs.Blocks.{block_header_length}
use Rattle.acpi_tables.specs.Entries.{entry_header_length}
use Rattle.acpi_tables.specs.declared.table_header.TheConstants.{SIGNATURE, LENGTH}
use Rattle.acpi_tables.specs.declared.tables.TheConstants.{ERROR_SOURCE_COUNT, BOOT_ERROR_REGION_LENGTH, BOOT_ERROR_REGION}
use Rattle.acpi_tables.specs.declared.error_source.TheConstants.{SOURCE_TYPE}
use Rattle.acpi_tables.specs.declared.blocks.TheConstants as block
use Rattle.acpi_tables.specs.declared.entries.TheConstants as entry
use Rattle.acpi_tables.specs.declared.refused.TableRefused.{TableRefused}
use Rattle.acpi_tables.specs.declared.refused.TableRefused.TheVariants as refused
use Rattle.acpi_tables.specs.declared.table_reading.HestView.{HestView}
use Rattle.acpi_tables.specs.declared.table_reading.BertView.{BertView}
use Rattle.acpi_tables.specs.declared.block_reading.BlockView.{BlockView}

-- the first of some numbers that was found is refused
abbrev pub refused_at : (ℕ → TableRefused) → Option ℕ → Result (Unit {0}) TableRefused
refused_at refusal None = Ok tt
refused_at refusal (Some i) = Err (refusal i)

-- ---- tables

-- the header's Signature and Length
abbrev pub signature_of : List ℕ → ℕ
signature_of b = number_in SIGNATURE 0 b

-- the length that a table says it has
abbrev pub table_length : List ℕ → ℕ
table_length b = number_in LENGTH 0 b

-- the length of the table at the front, which has its signature, at least so many bytes, all of them there, and
-- bytes that sum to 0
unfoldable pub table_of : List ℕ → ℕ → List ℕ → Result ℕ TableRefused
table_of signature least b =
    if nat_lt (length b) least then Err refused.Short
    else if not (signature_of b == signature_of signature) then Err refused.Signature
    else if nat_lt (table_length b) least then Err refused.Length
    else if nat_lt (length b) (table_length b) then Err refused.Length
    else if not (sum (take (table_length b) b) % 256 == 0) then Err refused.Sum
    else Ok (table_length b)

-- HEST's Error Source Count, and where source i begins
abbrev pub source_count : List ℕ → ℕ
source_count b = number_in ERROR_SOURCE_COUNT 0 b

-- where source i of a HEST begins
abbrev pub source_start : ℕ → ℕ
source_start i = least_hest + source_length * i

-- source i passes the table's end or has another type
abbrev pub is_other_source : ℕ → List ℕ → ℕ → Bool
is_other_source end b i =
    nat_lt end (source_start i + source_length)
    || not (number_in SOURCE_TYPE (source_start i) b == generic_source)

-- the first of so many sources that passes the table's end or has another type is refused
abbrev pub sources_in : ℕ → List ℕ → ℕ → Result (Unit {0}) TableRefused
sources_in end b count =
    refused_at refused.Source (find (is_other_source end b) (range_with_len 0 count))

-- a HEST, or the first rule that it breaks
unfoldable pub hest_of : List ℕ → Result HestView TableRefused
hest_of b = do
  end ← table_of (codes "HEST") least_hest b
  sources ← sources_in end b (source_count b)
  Ok (record { sources = source_count b })

-- a BERT, or the first rule that it breaks
unfoldable pub bert_of : List ℕ → Result BertView TableRefused
bert_of b = do
  end ← table_of (codes "BERT") bert_length b
  Ok (record {
    length = number_in BOOT_ERROR_REGION_LENGTH 0 b;
    address = number_in BOOT_ERROR_REGION 0 b;
  })

-- ---- status blocks

-- Data Length, and the number of entries in Block Status
abbrev pub block_data_length : List ℕ → ℕ
block_data_length b = number_in block.DATA_LENGTH 0 b

-- the number of entries that a block's status says it has
abbrev pub entry_count : List ℕ → ℕ
entry_count b = field (number_in block.BLOCK_STATUS 0 b) 4 10

-- of the entry from an offset on: Error Data Length, and where its section ends
abbrev pub entry_section_length : List ℕ → ℕ → ℕ
entry_section_length b at = number_in entry.ERROR_DATA_LENGTH at b

-- where an entry ends
abbrev pub entry_end : List ℕ → ℕ → ℕ
entry_end b at = at + entry_header_length + entry_section_length b at

-- the section of the entry from an offset on
abbrev pub entry_section : List ℕ → ℕ → SectionAt
entry_section b at = section_in entry.SECTION at (at + entry_header_length) b

-- where entry i begins: the first behind the header, and each of the others where the one before it ends
abbrev pub entry_start : List ℕ → ℕ → ℕ
entry_start b zero = block_header_length
entry_start b (suc i) = entry_end b (entry_start b i)

-- entry i ends behind the data
abbrev pub is_past : ℕ → List ℕ → ℕ → Bool
is_past end b i = nat_lt end (entry_end b (entry_start b i))

-- the sections of so many entries in their order, where no entry passes the end of the data and the last one ends there
abbrev pub entries_in : ℕ → List ℕ → ℕ → Result (ArrayVec SectionAt) TableRefused
entries_in end b count = do
  inside ← refused_at refused.Entry (find (is_past end b) (range_with_len 0 count))
  if entry_start b count == end
      then Ok (record { items = map (λ i. entry_section b (entry_start b i)) (range_with_len 0 count) })
      else Err refused.Length

-- a status block, or the first rule that it breaks
unfoldable pub block_of : List ℕ → Result BlockView TableRefused
block_of b =
    if nat_lt (length b) block_header_length then Err refused.Short
    else if nat_lt (length b) (block_header_length + block_data_length b) then Err refused.Length
    else if nat_lt 16 (entry_count b) then Err refused.Length
    else (do
      sections ← entries_in (block_header_length + block_data_length b) b (entry_count b)
      Ok (record {
        status = number_in block.BLOCK_STATUS 0 b;
        severity = number_in block.ERROR_SEVERITY 0 b;
        entries = sections;
      }))
