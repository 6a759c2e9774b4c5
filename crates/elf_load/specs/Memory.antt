-- Memory as an image leaves it: the byte at each physical address (ELF-64, program loading).
use Rattle.std.specs.Prelude.{◌≡◌, ℕ, zero, suc, ◌+◌, ◌-◌, ◌<◌, ◌&&◌, Bool, false, nat_le, nat_lt, if◌then◌else◌, List, length, get_or}
use Rattle.std.specs.Int.{to_le_bytes, w64}
use Rattle.ras_bits.specs.Map.{word_address}
use Rattle.ras_bits.specs.declared.map.TheConstants.{RAM_START}
use Rattle.elf_load.specs.Headers.{e_phnum, program_header, is_load}
use Rattle.elf_load.specs.Rules.{is_at_fault}
use Rattle.elf_load.specs.declared.headers.ProgramHeader.{ProgramHeader}
use Rattle.elf_load.specs.declared.rules.Sought.TheVariants as sought

-- memory before anything is loaded
abbrev pub zero_memory : ℕ → ℕ
zero_memory address = 0

-- the address is one of so many from a start on
abbrev pub is_within : ℕ → ℕ → ℕ → Bool
is_within start n address = nat_le start address && nat_lt address (start + n)

-- byte i of a segment: that of the file, and 0 behind its file part
abbrev pub segment_byte : List ℕ → ProgramHeader → ℕ → ℕ
segment_byte b h i = if nat_lt i h.p_filesz then get_or b (h.p_offset + i) 0 else 0

-- a segment was loaded, if its header is a load header
unfoldable pub with_segment : List ℕ → ProgramHeader → (ℕ → ℕ) → ℕ → ℕ
with_segment b h memory address =
    if is_load h && is_within h.p_paddr h.p_memsz address then segment_byte b h (address - h.p_paddr) else memory address

-- the first n segments were loaded, in order, so that a later one wins
abbrev pub segments_loaded : List ℕ → ℕ → ℕ → ℕ
segments_loaded b zero = zero_memory
segments_loaded b (suc n) = with_segment b (program_header b n) (segments_loaded b n)

-- memory as an ELF file leaves it
abbrev pub file_memory : List ℕ → ℕ → ℕ
file_memory b = segments_loaded b (e_phnum b)

-- memory as raw bytes leave it
abbrev pub raw_memory : List ℕ → ℕ → ℕ
raw_memory b address = if is_within RAM_START (length b) address then get_or b (address - RAM_START) 0 else 0

-- byte j of word w, the lowest first, is the byte so far behind the address of that word
pub record HoldsBytes (words : List ℕ) (memory : ℕ → ℕ) : Type 0 where
  pub at : (w j : ℕ) → w < length words → j < 8 → get_or (to_le_bytes w64 (get_or words w 0)) j 0 ≡ memory (word_address w + j)

-- a segment whose file part lies in the file, and which lies in RAM itself
pub record SegmentFits (b : List ℕ) (ram_words : ℕ) (h : ProgramHeader) : Type 0 where
  pub part : (is_load h && is_at_fault b ram_words sought.FilePart h) ≡ false
  pub inside : (is_load h && is_at_fault b ram_words sought.Outside h) ≡ false

-- all segments of a file fit
pub record SegmentsFit (b : List ℕ) (ram_words : ℕ) : Type 0 where
  pub each : (k : ℕ) → k < e_phnum b → SegmentFits b ram_words (program_header b k)
