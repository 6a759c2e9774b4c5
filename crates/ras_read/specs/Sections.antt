-- The lines of sections, each by its type (UEFI Appendix N, "Memory Error Section", "Generic Processor Error Section").
use Rattle.std.specs.Prelude.{ℕ, ◌+◌, ◌≤◌, ◌&&◌, nat_le, if◌then◌else◌, List, ◌++◌, length, codes, decimal, Option, bytes_eq}
use Rattle.std.specs.List.{flat_map}
use Rattle.hex.specs.Hex.{encode_lower}
use Rattle.ras_bits.specs.declared.terms.SectionAt.{SectionAt}
use Rattle.byte_fields.specs.Fields.{number_in}
use Rattle.cper_sections.specs.declared.memory.TheConstants as memory
use Rattle.cper_sections.specs.declared.processor.TheConstants as processor
use Rattle.ras_read.specs.declared.memory.MemoryView.{MemoryView}
use Rattle.ras_read.specs.declared.processor.ProcessorView.{ProcessorView}
use Rattle.ras_read.specs.Values.{valid_number, decimal_shown, address_shown, fru_shown}

-- what is valid of the memory section that begins at `start`
abbrev pub memory_view : ℕ → List ℕ → MemoryView
memory_view start b = record {
  address = valid_number (number_in memory.VALIDATION_BITS start b) memory.PHYSICAL_ADDRESS_VALID memory.PHYSICAL_ADDRESS start b;
  kind = valid_number (number_in memory.VALIDATION_BITS start b) memory.MEMORY_ERROR_TYPE_VALID memory.MEMORY_ERROR_TYPE start b;
}

-- the line of a memory section
unfoldable pub memory_line : MemoryView → Option (List ℕ) → List ℕ
memory_line v fru =
    codes "  memory address " ++ address_shown v.address ++ codes " kind " ++ decimal_shown v.kind
    ++ codes " fru " ++ fru_shown fru ++ codes "\n"

-- what is valid of the processor section that begins at `start`
abbrev pub processor_view : ℕ → List ℕ → ProcessorView
processor_view start b = record {
  kind = valid_number (number_in processor.VALIDATION_BITS start b) processor.ERROR_TYPE_VALID processor.ERROR_TYPE start b;
  operation = valid_number (number_in processor.VALIDATION_BITS start b) processor.OPERATION_VALID processor.OPERATION start b;
  level = valid_number (number_in processor.VALIDATION_BITS start b) processor.LEVEL_VALID processor.LEVEL start b;
  id = valid_number (number_in processor.VALIDATION_BITS start b) processor.PROCESSOR_ID_VALID processor.PROCESSOR_ID start b;
  target = valid_number (number_in processor.VALIDATION_BITS start b) processor.TARGET_ADDRESS_VALID processor.TARGET_ADDRESS start b;
  ip = valid_number (number_in processor.VALIDATION_BITS start b) processor.INSTRUCTION_IP_VALID processor.INSTRUCTION_IP start b;
}

-- the line of a processor section
unfoldable pub processor_line : ProcessorView → Option (List ℕ) → List ℕ
processor_line v fru =
    codes "  processor kind " ++ decimal_shown v.kind ++ codes " operation " ++ decimal_shown v.operation
    ++ codes " level " ++ decimal_shown v.level ++ codes " id " ++ decimal_shown v.id
    ++ codes " target " ++ address_shown v.target ++ codes " ip " ++ address_shown v.ip
    ++ codes " fru " ++ fru_shown fru ++ codes "\n"

-- the line of any other section: its type as hexadecimal text, and its length
unfoldable pub other_line : SectionAt → List ℕ
other_line s = codes "  other " ++ encode_lower s.kind ++ codes " length " ++ decimal s.length ++ codes "\n"

-- the line of a section, by its type, where it has that type's least length
unfoldable pub section_line : List ℕ → SectionAt → List ℕ
section_line b s =
    if bytes_eq s.kind memory.MEMORY_SECTION && nat_le memory.LEAST_LENGTH s.length then memory_line (memory_view s.start b) s.fru
    else if bytes_eq s.kind processor.PROCESSOR_SECTION && nat_le processor.LEAST_LENGTH s.length then processor_line (processor_view s.start b) s.fru
    else other_line s

-- the lines of sections, in their order
abbrev pub section_lines : List ℕ → List SectionAt → List ℕ
section_lines b sections = flat_map (section_line b) sections

-- a section lies in the bytes of what holds it
abbrev pub IsInside : List ℕ → SectionAt → Type 0
IsInside b s = s.start + s.length ≤ length b
