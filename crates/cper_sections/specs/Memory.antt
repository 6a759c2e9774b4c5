-- UEFI Appendix N, "Memory Error Section".
use Rattle.std.specs.Prelude.{ℕ, ◌==◌, if◌then◌else◌, List, [], ◌∷◌}
use Rattle.byte_fields.specs.Fields.{Field, number_field, laid_out}
use Rattle.poison_mem.specs.declared.event.Class.{Class}
use Rattle.poison_mem.specs.declared.event.Class.TheVariants.{Corrected, Deferred, Critical}
use Rattle.poison_mem.specs.declared.event.RecordView.{RecordView}
use Rattle.cper_sections.specs.declared.memory.TheConstants.{VALIDATION_BITS, PHYSICAL_ADDRESS, MEMORY_ERROR_TYPE}

-- Memory Error Type: single-bit ECC, multi-bit ECC; of a patrol scrub: corrected, uncorrected
abbrev pub demand_error_type : Class → ℕ
demand_error_type Corrected = 2
demand_error_type Deferred = 3
demand_error_type Critical = 3

-- that of a word that a scrub read
abbrev pub scrub_error_type : Class → ℕ
scrub_error_type Corrected = 13
scrub_error_type Deferred = 14
scrub_error_type Critical = 14

-- by the record: of reads, or of scrubs
abbrev pub memory_error_type : RecordView → ℕ
memory_error_type v =
    if v.kept.rec == 0 then demand_error_type v.kept.class else scrub_error_type v.kept.class

-- what is valid of a memory's error: Physical Address (bit 1) and Memory Error Type (bit 14)
abbrev pub memory_fields : RecordView → List Field
memory_fields v =
    number_field VALIDATION_BITS 0x4002
    ∷ number_field PHYSICAL_ADDRESS v.kept.addr
    ∷ number_field MEMORY_ERROR_TYPE (memory_error_type v)
    ∷ []

-- the 80 bytes of a memory section
abbrev pub memory_section : RecordView → List ℕ
memory_section v = laid_out 80 (memory_fields v)
