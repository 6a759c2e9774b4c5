-- The file header and the program headers of an ELF-64 file, by the names of the specification (ELF-64, "File Header" and
-- "Program Header Table").
use Rattle.std.specs.Prelude.{ℕ, ◌+◌, ◌*◌, ◌<◌, ◌≤◌, Bool, ◌==◌, List, length, get_or}
use Rattle.ras_bits.specs.Fields.{number_at}
use Rattle.elf_load.specs.declared.headers.ProgramHeader.{ProgramHeader}

-- EI_CLASS, the file's class: 2 for 64-bit objects
abbrev pub ei_class : List ℕ → ℕ
ei_class b = get_or b 4 0

-- EI_DATA, the byte order: 1 for the least significant byte first
abbrev pub ei_data : List ℕ → ℕ
ei_data b = get_or b 5 0

-- the object file's type: 2 for an executable file
abbrev pub e_type : List ℕ → ℕ
e_type b = number_at 2 16 b

-- the architecture: 243 for RISC-V
abbrev pub e_machine : List ℕ → ℕ
e_machine b = number_at 2 18 b

-- the address at which the program is entered
abbrev pub e_entry : List ℕ → ℕ
e_entry b = number_at 8 24 b

-- the offset of the first program header in the file
abbrev pub e_phoff : List ℕ → ℕ
e_phoff b = number_at 8 32 b

-- flags of the architecture
abbrev pub e_flags : List ℕ → ℕ
e_flags b = number_at 4 48 b

-- the length of a program header
abbrev pub e_phentsize : List ℕ → ℕ
e_phentsize b = number_at 2 54 b

-- the number of program headers
abbrev pub e_phnum : List ℕ → ℕ
e_phnum b = number_at 2 56 b

-- the program header at an offset of the file
abbrev pub header_at : List ℕ → ℕ → ProgramHeader
header_at b at = record {
  p_type = number_at 4 at b;
  p_offset = number_at 8 (at + 8) b;
  p_paddr = number_at 8 (at + 24) b;
  p_filesz = number_at 8 (at + 32) b;
  p_memsz = number_at 8 (at + 40) b;
}

-- program header k, counted from 0
abbrev pub program_header : List ℕ → ℕ → ProgramHeader
program_header b k = header_at b (e_phoff b + 56 * k)

-- the segment is loaded
abbrev pub is_load : ProgramHeader → Bool
is_load h = h.p_type == 1

-- each program header lies in the file
pub record HasHeaders (b : List ℕ) : Type 0 where
  pub file : 64 ≤ length b
  pub header : (k : ℕ) → k < e_phnum b → e_phoff b + 56 * k + 56 ≤ length b
