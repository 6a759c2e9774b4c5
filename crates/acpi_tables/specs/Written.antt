-- What the readers find in what was written.
use Rattle.std.specs.Prelude.{◌≡◌, ℕ, ◌+◌, ◌<◌, ◌^◌, List, [], ◌∷◌, length, Some}
use Rattle.ras_bits.specs.declared.terms.SectionAt.{SectionAt}
use Rattle.acpi_tables.specs.Blocks.{block_header_length, block_status, worst_severity}
use Rattle.acpi_tables.specs.Entries.{entry_header_length, entry_length}
use Rattle.acpi_tables.specs.declared.entries.Entry.{Entry}
use Rattle.acpi_tables.specs.declared.block_reading.BlockView.{BlockView}
use Rattle.acpi_tables.specs.declared.table_reading.HestView.{HestView}
use Rattle.acpi_tables.specs.declared.table_reading.BertView.{BertView}
use Rattle.ras_bits.specs.declared.map.TheConstants.{BOOT_REGION_LENGTH, BOOT_REGION_START}

-- what the HEST says: it has one source
abbrev pub hest_view : HestView
hest_view = record { sources = 1 }

-- what the BERT says: the boot error region of the map
abbrev pub bert_view : BertView
bert_view = record { length = BOOT_REGION_LENGTH; address = BOOT_REGION_START }

-- the lengths and numbers of an entry are those of its type
pub record IsEntry (e : Entry) : Type 0 where
  pub kind : length e.kind ≡ 16
  pub severity : e.severity < 2 ^ 32
  pub fru : length e.fru ≡ 20
  pub body : length e.body.items < 2 ^ 32

-- the section of an entry that begins at an offset
abbrev pub section_of : ℕ → Entry → SectionAt
section_of at e = record {
  kind = e.kind;
  start = at + entry_header_length;
  length = length e.body.items;
  severity = e.severity;
  fru = Some e.fru;
}

-- the sections of entries, the first of which begins at an offset
abbrev pub block_sections : ℕ → List Entry → List SectionAt
block_sections at [] = []
block_sections at (e ∷ entries) = section_of at e ∷ block_sections (at + entry_length e) entries

-- what the block of these entries says
abbrev pub block_view : List Entry → BlockView
block_view entries = record {
  status = block_status entries;
  severity = worst_severity entries;
  entries = record { items = block_sections block_header_length entries };
}
