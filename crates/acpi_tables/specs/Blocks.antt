-- Status blocks (ACPI, "Generic Error Status Block").
use Rattle.std.specs.Prelude.{ℕ, ◌+◌, ◌*◌, ◌==◌, nat_lt, if◌then◌else◌, List, [], ◌∷◌, ◌++◌, length, sum_by, count_by, flat_map}
use Rattle.std.specs.Int.{from_bool}
use Rattle.byte_fields.specs.Fields.{Field, number_field, laid_out}
use Rattle.acpi_tables.specs.Entries.{entry_bytes, entry_length}
use Rattle.acpi_tables.specs.declared.entries.Entry.{Entry}
use Rattle.acpi_tables.specs.declared.blocks.TheConstants.{BLOCK_STATUS, DATA_LENGTH, ERROR_SEVERITY}

-- the length of what stands before the entries of a block
abbrev pub block_header_length : ℕ
block_header_length = 20

-- how many entries have the severity
abbrev pub count_of : ℕ → List Entry → ℕ
count_of severity entries = count_by (λ (e : Entry). e.severity == severity) entries

-- how many are uncorrected: recoverable (0) or fatal (1); how many are corrected (2)
abbrev pub uncorrected : List Entry → ℕ
uncorrected entries = count_of 0 entries + count_of 1 entries

-- how many entries are corrected errors
abbrev pub corrected : List Entry → ℕ
corrected entries = count_of 2 entries

-- Block Status: an uncorrected error, a corrected one, several of these, and the number of entries
abbrev pub block_status : List Entry → ℕ
block_status entries =
    from_bool (nat_lt 0 (uncorrected entries)) + 2 * from_bool (nat_lt 0 (corrected entries))
    + 4 * from_bool (nat_lt 1 (uncorrected entries)) + 8 * from_bool (nat_lt 1 (corrected entries))
    + 16 * length entries

-- the worst severity: fatal (1), then recoverable (0), then corrected (2); 0 without entries
abbrev pub worst_severity : List Entry → ℕ
worst_severity entries =
    if nat_lt 0 (count_of 1 entries) then 1
    else if nat_lt 0 (count_of 0 entries) then 0
    else if nat_lt 0 (count_of 2 entries) then 2
    else 0

-- the length of all entries together
abbrev pub data_length : List Entry → ℕ
data_length entries = sum_by entry_length entries

-- what stands before the entries; there is no raw data
abbrev pub block_fields : List Entry → List Field
block_fields entries =
    number_field BLOCK_STATUS (block_status entries)
    ∷ number_field DATA_LENGTH (data_length entries)
    ∷ number_field ERROR_SEVERITY (worst_severity entries)
    ∷ []

-- a block with its entries
abbrev pub block_bytes : List Entry → List ℕ
block_bytes entries =
    laid_out block_header_length (block_fields entries) ++ flat_map entry_bytes entries
