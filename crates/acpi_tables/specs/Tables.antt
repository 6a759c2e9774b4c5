-- The tables HEST and BERT (ACPI, "Hardware Error Source Table" and "Boot Error Record Table").
use Rattle.std.specs.Prelude.{ℕ, ◌+◌, List, [], ◌∷◌, ◌++◌, codes}
use Rattle.ras_bits.specs.declared.map.TheConstants.{BOOT_REGION_LENGTH, BOOT_REGION_START}
use Rattle.byte_fields.specs.Fields.{number_field, bytes_field, laid_out, number_in}
use Rattle.acpi_tables.specs.TableHeader.{checksum_of, header_fields}
use Rattle.acpi_tables.specs.ErrorSource.{error_source}
use Rattle.acpi_tables.specs.declared.error_source.TheConstants.{ADDRESS, ERROR_STATUS_ADDRESS}
use Rattle.acpi_tables.specs.declared.tables.TheConstants.{ERROR_SOURCE_COUNT, FIRST_SOURCE, BOOT_ERROR_REGION_LENGTH, BOOT_ERROR_REGION}

-- the length of a HEST with one source, in bytes
abbrev pub hest_length : ℕ
hest_length = 104

-- the least length of a HEST: its header, with the number of sources
abbrev pub least_hest : ℕ
least_hest = 40

-- the length of a BERT
abbrev pub bert_length : ℕ
bert_length = 48

-- a HEST with one source, and a checksum
abbrev pub hest_with : ℕ → List ℕ
hest_with checksum = laid_out hest_length (
    header_fields (codes "HEST") hest_length checksum
    ++ number_field ERROR_SOURCE_COUNT 1
    ∷ bytes_field FIRST_SOURCE error_source
    ∷ [])

-- a BERT with the region of the map, and a checksum
abbrev pub bert_with : ℕ → List ℕ
bert_with checksum = laid_out bert_length (
    header_fields (codes "BERT") bert_length checksum
    ++ number_field BOOT_ERROR_REGION_LENGTH BOOT_REGION_LENGTH
    ∷ number_field BOOT_ERROR_REGION BOOT_REGION_START
    ∷ [])

-- the HEST, with its checksum
abbrev pub hest_bytes : List ℕ
hest_bytes = hest_with (checksum_of (hest_with 0))

-- the BERT, with its checksum
abbrev pub bert_bytes : List ℕ
bert_bytes = bert_with (checksum_of (bert_with 0))

-- the address in the address structure of a HEST's first source
abbrev pub status_address : List ℕ → ℕ
status_address b = number_in ADDRESS (FIRST_SOURCE.offset + ERROR_STATUS_ADDRESS.offset) b
