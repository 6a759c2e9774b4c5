-- What every table begins with (ACPI, "System Description Table Header"), and its checksum.
use Rattle.std.specs.Prelude.{◌≡◌, ℕ, ◌-◌, ◌%◌, List, [], ◌∷◌, sum, codes}
use Rattle.byte_fields.specs.Fields.{Field, number_field, bytes_field}
use Rattle.acpi_tables.specs.declared.table_header.TheConstants.{SIGNATURE, LENGTH, REVISION, CHECKSUM, OEM_ID, OEM_TABLE_ID, OEM_REVISION, CREATOR_ID, CREATOR_REVISION}

-- the header of a table; the names are this project's
abbrev pub header_fields : List ℕ → ℕ → ℕ → List Field
header_fields signature table_length checksum =
    bytes_field SIGNATURE signature
    ∷ number_field LENGTH table_length
    ∷ number_field REVISION 1
    ∷ number_field CHECKSUM checksum
    ∷ bytes_field OEM_ID (codes "RASMCH")
    ∷ bytes_field OEM_TABLE_ID (codes "RASMACHN")
    ∷ number_field OEM_REVISION 1
    ∷ bytes_field CREATOR_ID (codes "RASM")
    ∷ number_field CREATOR_REVISION 1
    ∷ []

-- the bytes sum to 0 modulo 256
abbrev pub SumsToZero : List ℕ → Type 0
SumsToZero bytes = sum bytes % 256 ≡ 0

-- the checksum that lets bytes sum to 0 modulo 256, which do so far without it
abbrev pub checksum_of : List ℕ → ℕ
checksum_of bytes = (256 - sum bytes % 256) % 256
