-- The bytes of records (UEFI Appendix N).
use Rattle.std.specs.Prelude.{ℕ, ◌+◌, ◌==◌, if◌then◌else◌, List, [], ◌∷◌, ◌++◌, length, codes}
use Rattle.byte_fields.specs.Fields.{Field, number_field, bytes_field, laid_out}
use Rattle.poison_mem.specs.declared.event.RecordView.{RecordView}
use Rattle.cper_sections.specs.Severity.{severity_of}
use Rattle.cper_sections.specs.Fru.{fru_text}
use Rattle.cper_sections.specs.Memory.{memory_section}
use Rattle.cper_sections.specs.Processor.{processor_section}
use Rattle.cper_sections.specs.declared.memory.TheConstants.{MEMORY_SECTION}
use Rattle.cper_sections.specs.declared.processor.TheConstants.{PROCESSOR_SECTION}
use Rattle.cper_sections.specs.declared.header.TheConstants.{CREATOR, PLATFORM_ERROR}
use Rattle.cper_sections.specs.declared.header.TheConstants as header
use Rattle.cper_sections.specs.declared.descriptor.TheConstants as descriptor

-- the lengths of a record's header and of a section descriptor in bytes
abbrev pub header_length : ℕ
header_length = 128

-- the length of a section descriptor
abbrev pub descriptor_length : ℕ
descriptor_length = 72

-- where the one section of a record begins
abbrev pub section_start : ℕ
section_start = header_length + descriptor_length

-- what stands at the end of the signature
abbrev pub end_mark : ℕ
end_mark = 0xFFFFFFFF

-- UEFI Appendix N, "Common Platform Error Record Header", of a record with one section; the persistence information is the
-- step of the kept event
abbrev pub header_fields : RecordView → ℕ → ℕ → List Field
header_fields v id record_length =
    bytes_field header.SIGNATURE_START (codes "CPER")
    ∷ number_field header.REVISION 0x0101
    ∷ number_field header.SIGNATURE_END end_mark
    ∷ number_field header.SECTION_COUNT 1
    ∷ number_field header.ERROR_SEVERITY (severity_of v.kept.class)
    ∷ number_field header.RECORD_LENGTH record_length
    ∷ bytes_field header.CREATOR_ID CREATOR
    ∷ bytes_field header.NOTIFICATION_TYPE PLATFORM_ERROR
    ∷ number_field header.RECORD_ID id
    ∷ number_field header.PERSISTENCE v.kept.at
    ∷ []

-- the 128 bytes of a header
abbrev pub record_header : RecordView → ℕ → ℕ → List ℕ
record_header v id record_length = laid_out header_length (header_fields v id record_length)

-- UEFI Appendix N, "Section Descriptor", of a primary section with an FRU text (bit 1 of the validation bits)
abbrev pub descriptor_fields : RecordView → List ℕ → ℕ → List Field
descriptor_fields v section_type section_length =
    number_field descriptor.SECTION_OFFSET section_start
    ∷ number_field descriptor.SECTION_LENGTH section_length
    ∷ number_field descriptor.REVISION 0x0100
    ∷ number_field descriptor.VALIDATION_BITS 2
    ∷ number_field descriptor.FLAGS 1
    ∷ bytes_field descriptor.SECTION_TYPE section_type
    ∷ number_field descriptor.SECTION_SEVERITY (severity_of v.kept.class)
    ∷ bytes_field descriptor.FRU_TEXT (fru_text v)
    ∷ []

-- the 72 bytes of a descriptor
abbrev pub section_descriptor : RecordView → List ℕ → ℕ → List ℕ
section_descriptor v section_type section_length =
    laid_out descriptor_length (descriptor_fields v section_type section_length)

-- the record of a view whose one section has this type and these bytes
abbrev pub record_of_section : RecordView → ℕ → List ℕ → List ℕ → List ℕ
record_of_section v id section_type section =
    record_header v id (section_start + length section)
    ++ (section_descriptor v section_type (length section) ++ section)

-- the type of a view's section: a memory section for bank 0, else a processor section
abbrev pub section_type : RecordView → List ℕ
section_type v = if v.kept.bank == 0 then MEMORY_SECTION else PROCESSOR_SECTION

-- the section of a view
abbrev pub section_bytes : RecordView → List ℕ
section_bytes v = if v.kept.bank == 0 then memory_section v else processor_section v

-- the record of a view, with a record id
abbrev pub record_bytes : RecordView → ℕ → List ℕ
record_bytes v id = record_of_section v id (section_type v) (section_bytes v)
