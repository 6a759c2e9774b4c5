-- The text of firmware's memory.
use Rattle.std.specs.Prelude.{ℕ, ◌-◌, ◌==◌, if◌then◌else◌, List, ◌++◌, length, codes, decimal, Result, Ok, Err}
use Rattle.ras_bits.specs.Results.{◌>>=◌}
use Rattle.ras_bits.specs.declared.map.TheConstants.{FIRMWARE_START, FIRMWARE_LENGTH, BERT_START, POLLED_POINTER, BOOT_REGION_START, BOOT_REGION_LENGTH, POLLED_BLOCK_START, POLLED_BLOCK_LENGTH}
use Rattle.ras_numbers.specs.Numbers.{address_text, hex_text}
use Rattle.byte_fields.specs.Fields.{bytes_at}
use Rattle.acpi_tables.specs.Reading.{hest_of, bert_of, block_of}
use Rattle.acpi_tables.specs.declared.refused.TableRefused.{TableRefused}
use Rattle.acpi_tables.specs.declared.refused.TableRefused.TheVariants as table
use Rattle.acpi_tables.specs.declared.table_reading.HestView.{HestView}
use Rattle.acpi_tables.specs.declared.table_reading.BertView.{BertView}
use Rattle.acpi_tables.specs.declared.block_reading.BlockView.{BlockView}
use Rattle.ras_read.specs.Sections.{section_lines}
use Rattle.ras_read.specs.declared.firmware.FirmwareView.{FirmwareView}
use Rattle.ras_read.specs.declared.refused.ReadRefused.{ReadRefused}
use Rattle.ras_read.specs.declared.refused.ReadRefused.TheVariants as refused

-- where the byte of an address of firmware's memory is in it
abbrev pub offset_of : ℕ → ℕ
offset_of address = address - FIRMWARE_START

-- what firmware's memory has for each reader: the tables, up to what follows them
abbrev pub hest_part : List ℕ → List ℕ
hest_part b = bytes_at (offset_of BERT_START) 0 b

-- BERT, up to the address of the polled block
abbrev pub bert_part : List ℕ → List ℕ
bert_part b = bytes_at (POLLED_POINTER - BERT_START) (offset_of BERT_START) b

-- the boot error region
abbrev pub boot_part : List ℕ → List ℕ
boot_part b = bytes_at BOOT_REGION_LENGTH (offset_of BOOT_REGION_START) b

-- the polled block
abbrev pub polled_part : List ℕ → List ℕ
polled_part b = bytes_at POLLED_BLOCK_LENGTH (offset_of POLLED_BLOCK_START) b

-- the line of HEST
unfoldable pub hest_line : HestView → List ℕ
hest_line v = codes "hest sources " ++ decimal v.sources ++ codes "\n"

-- the line of BERT
unfoldable pub bert_line : BertView → List ℕ
bert_line v = codes "bert length " ++ decimal v.length ++ codes " address " ++ address_text v.address ++ codes "\n"

-- the lines of a block that has a name, and of its sections
unfoldable pub block_lines : List ℕ → List ℕ → BlockView → List ℕ
block_lines name b v =
    name ++ codes " status 0x" ++ hex_text 8 v.status ++ codes " severity " ++ decimal v.severity ++ codes "\n"
    ++ section_lines b v.entries.items

-- a refusal of the table or block at an offset
abbrev pub table_at : {A : Type 0} → ℕ → Result A TableRefused → Result A ReadRefused
table_at at (Ok view) = Ok view
table_at at (Err refusal) = Err (refused.Table at refusal)

-- firmware's memory is whole, and no more is there
unfoldable pub length_kept : List ℕ → Result (Unit {0}) ReadRefused
length_kept b = if length b == FIRMWARE_LENGTH then Ok tt else Err (refused.Table 0 table.Short)

-- what firmware's memory says, or the first table or block that is refused
unfoldable pub firmware_of : List ℕ → Result FirmwareView ReadRefused
firmware_of b = do
  kept ← length_kept b
  hest ← table_at 0 (hest_of (hest_part b))
  bert ← table_at (offset_of BERT_START) (bert_of (bert_part b))
  boot ← table_at (offset_of BOOT_REGION_START) (block_of (boot_part b))
  polled ← table_at (offset_of POLLED_BLOCK_START) (block_of (polled_part b))
  Ok (record { hest = hest; bert = bert; boot = boot; polled = polled })

-- the lines of what firmware's memory says
unfoldable pub firmware_lines : List ℕ → FirmwareView → List ℕ
firmware_lines b v =
    hest_line v.hest ++ bert_line v.bert
    ++ block_lines (codes "boot") (boot_part b) v.boot
    ++ block_lines (codes "polled") (polled_part b) v.polled

-- the text of firmware's memory
abbrev pub firmware_text : List ℕ → Result (List ℕ) ReadRefused
firmware_text b = do
  v ← firmware_of b
  Ok (firmware_lines b v)
