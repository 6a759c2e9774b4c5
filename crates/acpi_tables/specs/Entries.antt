-- Entries of a status block (ACPI, "Generic Error Data Entry").
use Rattle.std.specs.Prelude.{ℕ, ◌+◌, List, [], ◌∷◌, ◌++◌, length}
use Rattle.byte_fields.specs.Fields.{Field, number_field, bytes_field, laid_out}
use Rattle.acpi_tables.specs.declared.entries.Entry.{Entry}
use Rattle.acpi_tables.specs.declared.entries.TheConstants.{SECTION_TYPE, ERROR_SEVERITY, REVISION, VALIDATION_BITS, ERROR_DATA_LENGTH, FRU_TEXT}

-- the length of an entry before its section
abbrev pub entry_header_length : ℕ
entry_header_length = 72

-- what stands before the section; bit 1 of the validation bits is that of the FRU text
abbrev pub entry_fields : Entry → List Field
entry_fields e =
    bytes_field SECTION_TYPE e.kind
    ∷ number_field ERROR_SEVERITY e.severity
    ∷ number_field REVISION 0x0300
    ∷ number_field VALIDATION_BITS 2
    ∷ number_field ERROR_DATA_LENGTH (length e.body.items)
    ∷ bytes_field FRU_TEXT e.fru
    ∷ []

-- the 72 bytes before the section
abbrev pub entry_header : Entry → List ℕ
entry_header e = laid_out entry_header_length (entry_fields e)

-- the bytes of an entry with its section
abbrev pub entry_bytes : Entry → List ℕ
entry_bytes e = entry_header e ++ e.body.items

-- the length of an entry with its section
abbrev pub entry_length : Entry → ℕ
entry_length e = entry_header_length + length e.body.items
