-- The error source of HEST (ACPI, "Generic Hardware Error Source").
use Rattle.std.specs.Prelude.{ℕ, List, [], ◌∷◌}
use Rattle.ras_bits.specs.declared.map.TheConstants.{POLLED_BLOCK_LENGTH, POLLED_POINTER}
use Rattle.byte_fields.specs.Fields.{number_field, bytes_field, laid_out}
use Rattle.acpi_tables.specs.declared.error_source.TheConstants.{SOURCE_TYPE, RELATED_SOURCE_ID, ENABLED, RECORDS_TO_PREALLOCATE, MAX_SECTIONS_PER_RECORD, ERROR_STATUS_ADDRESS, NOTIFICATION_STRUCTURE, ERROR_STATUS_BLOCK_LENGTH, REGISTER_BIT_WIDTH, ACCESS_SIZE, ADDRESS, NOTIFICATION_LENGTH, POLL_INTERVAL, POLL_MILLISECONDS, MOST_ENTRIES}

-- ACPI, "Generic Address Structure": a word of system memory (space 0), read as a quad word
abbrev pub address_structure : ℕ → List ℕ
address_structure address = laid_out 12 (
    number_field REGISTER_BIT_WIDTH 64
    ∷ number_field ACCESS_SIZE 4
    ∷ number_field ADDRESS address
    ∷ [])

-- ACPI, "Hardware Error Notification": the block is polled (type 0)
abbrev pub notification_structure : List ℕ
notification_structure = laid_out 28 (
    number_field NOTIFICATION_LENGTH 28
    ∷ number_field POLL_INTERVAL POLL_MILLISECONDS
    ∷ [])

-- the type of a generic hardware error source
abbrev pub generic_source : ℕ
generic_source = 9

-- the length of a source in bytes
abbrev pub source_length : ℕ
source_length = 64

-- the source: number 0, related to no other, with one record of as many sections as a block has entries
abbrev pub error_source : List ℕ
error_source = laid_out source_length (
    number_field SOURCE_TYPE generic_source
    ∷ number_field RELATED_SOURCE_ID 0xFFFF
    ∷ number_field ENABLED 1
    ∷ number_field RECORDS_TO_PREALLOCATE 1
    ∷ number_field MAX_SECTIONS_PER_RECORD MOST_ENTRIES
    ∷ bytes_field ERROR_STATUS_ADDRESS (address_structure POLLED_POINTER)
    ∷ bytes_field NOTIFICATION_STRUCTURE notification_structure
    ∷ number_field ERROR_STATUS_BLOCK_LENGTH POLLED_BLOCK_LENGTH
    ∷ [])
