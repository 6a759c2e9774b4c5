-- The memory that firmware writes for the operating system.
use Rattle.std.specs.Prelude.{◌≡◌, ℕ, ◌-◌, ◌≤◌, List, [], ◌∷◌, ◌++◌, length, map, Option, Some, None, IfSome}
use Rattle.std.specs.List.{AllByRecursion}
use Rattle.std.specs.Option.{option_to_list}
use Rattle.acpi_tables.specs.Blocks.{block_bytes}
use Rattle.acpi_tables.specs.Tables.{hest_bytes, bert_bytes}
use Rattle.acpi_tables.specs.declared.entries.Entry.{Entry}
use Rattle.byte_fields.specs.Fields.{number_field, laid_out, padded}
use Rattle.cper_sections.specs.Fru.{fru_text}
use Rattle.cper_sections.specs.Record.{section_type, section_bytes}
use Rattle.cper_sections.specs.Severity.{severity_of}
use Rattle.poison_mem.specs.RecordView.{IsListedView}
use Rattle.poison_mem.specs.declared.event.RecordView.{RecordView}
use Rattle.ras_bits.specs.declared.map.TheConstants.{FIRMWARE_START, FIRMWARE_LENGTH, BERT_START, POLLED_POINTER, BOOT_REGION_START, BOOT_REGION_LENGTH, POLLED_BLOCK_START}
use Rattle.ras_firmware.specs.declared.memory.TheConstants.{POLLED_BLOCK_ADDRESS}

-- what is shown there: the views of the polled block, and the fatal one in the boot error region
pub record FirmMemoryState : Type 0 where
  pub polled : List RecordView
  pub region : Option RecordView

-- both are empty at first
abbrev pub new_memory : FirmMemoryState
new_memory = record { polled = []; region = None }

-- the polled block shows the last views that a clear emitted: without any it stays
abbrev pub polled_after : List RecordView → List RecordView → List RecordView
polled_after before [] = before
polled_after before (v ∷ vs) = v ∷ vs

-- the memory after a clear that emits these views
abbrev pub with_polled : FirmMemoryState → List RecordView → FirmMemoryState
with_polled m views = record m { polled = polled_after m.polled views }

-- the memory after a stop: a fatal record is shown in the region, and without one that stays
abbrev pub with_region : FirmMemoryState → Option RecordView → FirmMemoryState
with_region m None = m
with_region m (Some v) = record m { region = Some v }

-- ---- bytes

-- the entry of a view, with its section
abbrev pub entry_of : RecordView → Entry
entry_of v = record {
  kind = section_type v;
  severity = severity_of v.kept.class;
  fru = fru_text v;
  body = record { items = section_bytes v };
}

-- the status block of these views; that of none is 20 zero bytes
unfoldable pub views_block : List RecordView → List ℕ
views_block views = block_bytes (map entry_of views)

-- HEST, and zeros up to BERT
unfoldable pub hest_piece : List ℕ
hest_piece = padded (BERT_START - FIRMWARE_START) hest_bytes

-- BERT, and zeros up to the polled block's address
unfoldable pub bert_piece : List ℕ
bert_piece = padded (POLLED_POINTER - BERT_START) bert_bytes

-- the polled block's address, and zeros up to the boot error region
unfoldable pub pointer_piece : List ℕ
pointer_piece =
    laid_out (BOOT_REGION_START - POLLED_POINTER)
    (number_field POLLED_BLOCK_ADDRESS POLLED_BLOCK_START ∷ [])

-- the boot error region: the block of the fatal view, and zeros
unfoldable pub region_piece : Option RecordView → List ℕ
region_piece region = padded BOOT_REGION_LENGTH (views_block (option_to_list region))

-- the polled block, and zeros up to the memory's end
unfoldable pub polled_piece : List RecordView → List ℕ
polled_piece polled =
    padded (FIRMWARE_LENGTH - (POLLED_BLOCK_START - FIRMWARE_START)) (views_block polled)

-- what stands before the polled block
abbrev pub memory_front : Option RecordView → List ℕ
memory_front region = hest_piece ++ bert_piece ++ pointer_piece ++ region_piece region

-- the bytes of firmware's memory, in the order of the map
abbrev pub memory_bytes : FirmMemoryState → List ℕ
memory_bytes m = memory_front m.region ++ polled_piece m.polled

-- bytes with this capacity are those of the memory, and each view is listed
pub record AreMemory (bytes : List ℕ) (capacity : ℕ) (m : FirmMemoryState) : Type 0 where
  pub bytes_are : bytes ≡ memory_bytes m
  pub front : length (memory_front m.region) ≡ POLLED_BLOCK_START - FIRMWARE_START
  pub count : length bytes ≡ FIRMWARE_LENGTH
  pub room : FIRMWARE_LENGTH ≤ capacity
  pub polled : AllByRecursion IsListedView m.polled
  pub region : IfSome m.region IsListedView
