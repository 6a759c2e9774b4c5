-- UEFI Appendix N, "Generic Processor Error Section".
use Rattle.std.specs.Prelude.{ℕ, ◌==◌, if◌then◌else◌, List, [], ◌∷◌}
use Rattle.ras_bits.specs.Fields.{field}
use Rattle.byte_fields.specs.Fields.{Field, number_field, laid_out}
use Rattle.poison_mem.specs.UseKind.{use_number}
use Rattle.poison_mem.specs.declared.cell.UseKind.TheVariants.{Fetch}
use Rattle.poison_mem.specs.declared.event.RecordView.{RecordView}
use Rattle.cper_sections.specs.declared.processor.TheConstants.{VALIDATION_BITS, ERROR_TYPE, OPERATION, LEVEL, PROCESSOR_ID, TARGET_ADDRESS, INSTRUCTION_IP}

-- what is valid of a cache's error: error type (bit 2; a cache is 1), level (bit 5) and target address (bit 9)
abbrev pub cache_fields : RecordView → List Field
cache_fields v =
    number_field VALIDATION_BITS 0x0224
    ∷ number_field ERROR_TYPE 1
    ∷ number_field LEVEL v.kept.rec
    ∷ number_field TARGET_ADDRESS v.kept.addr
    ∷ []

-- Operation: instruction execution (3) where the word was fetched, else data read (1); bits 7:0 of a consumption's `info`
-- are the number of the use
abbrev pub hart_operation : ℕ → ℕ
hart_operation info = if field info 0 8 == use_number Fetch then 3 else 1

-- what is valid of a hart's error: error type (bit 2; a micro-architectural structure is 8), operation (bit 3), processor
-- (bit 8), which bits 15:8 of a consumption's `info` name, target address (bit 9) and IP (bit 12)
abbrev pub hart_fields : RecordView → List Field
hart_fields v =
    number_field VALIDATION_BITS 0x130C
    ∷ number_field ERROR_TYPE 8
    ∷ number_field OPERATION (hart_operation v.kept.info)
    ∷ number_field PROCESSOR_ID (field v.kept.info 8 8)
    ∷ number_field TARGET_ADDRESS v.kept.addr
    ∷ number_field INSTRUCTION_IP v.kept.suppl
    ∷ []

-- by the bank: of a hart, or of a cache
abbrev pub processor_fields : RecordView → List Field
processor_fields v = if v.kept.bank == 2 then hart_fields v else cache_fields v

-- the 192 bytes of a processor section
abbrev pub processor_section : RecordView → List ℕ
processor_section v = laid_out 192 (processor_fields v)
