-- Which rule an image breaks first (ELF-64; e_flags: RISC-V psABI; the entry: unprivileged manual).
use Rattle.std.specs.Prelude.{◌≡◌, ℕ, zero, suc, ◌+◌, ◌*◌, ◌%◌, ◌<◌, Bool, true, false, not, ◌&&◌, ◌||◌, ◌==◌, nat_le, nat_lt, if◌then◌else◌, List, length, Option, Some, None, Result, Ok, Err}
use Rattle.ras_bits.specs.Fields.{field, number_at}
use Rattle.ras_bits.specs.Map.{word_address, is_ram}
use Rattle.ras_bits.specs.Results.{◌>>=◌}
use Rattle.ras_bits.specs.declared.map.TheConstants.{RAM_START}
use Rattle.elf_load.specs.Headers.{ei_class, ei_data, e_type, e_machine, e_entry, e_phoff, e_flags, e_phentsize, e_phnum, program_header, is_load}
use Rattle.elf_load.specs.declared.headers.ProgramHeader.{ProgramHeader}
use Rattle.elf_load.specs.declared.rules.Sought.{Sought}
use Rattle.elf_load.specs.declared.rules.Sought.TheVariants as sought
use Rattle.elf_load.specs.declared.refusals.ElfRefused.{ElfRefused}
use Rattle.elf_load.specs.declared.refusals.ElfRefused.TheVariants as refused

-- The file header

-- there are no program headers, or they have the length of one and lie in the file
abbrev pub headers_fit : List ℕ → Bool
headers_fit b = e_phnum b == 0 || (e_phentsize b == 56 && nat_le (e_phoff b + 56 * e_phnum b) (length b))

-- what the file header must be
unfoldable pub file_kept : List ℕ → Result (Unit {0}) ElfRefused
file_kept b =
    if nat_lt (length b) 64 then Err refused.Short
    else if not (number_at 4 0 b == 0x464C457F) then Err refused.Magic
    else if not (ei_class b == 2 && ei_data b == 1) then Err refused.Class
    else if not (e_type b == 2) then Err refused.ExecType
    else if not (e_machine b == 243) then Err refused.Machine
    else if not (field (e_flags b) 0 1 == 0) then Err refused.Compressed
    else if not (field (e_flags b) 1 2 == 0) then Err refused.HardFloat
    else if not (field (e_flags b) 3 1 == 0) then Err refused.Reduced
    else if not (headers_fit b) then Err refused.Headers
    else if nat_lt 64 (e_phnum b) then Err refused.TooMany
    else Ok tt

-- Load headers

-- what a load header is looked for by: any; its file part passes the file; its file part is longer than
-- its segment; its segment doesn't lie in RAM
abbrev pub is_at_fault : List ℕ → ℕ → Sought → ProgramHeader → Bool
is_at_fault b ram_words sought.Load h = true
is_at_fault b ram_words sought.FilePart h = not (h.p_filesz == 0) && nat_lt (length b) (h.p_offset + h.p_filesz)
is_at_fault b ram_words sought.Sizes h = nat_lt h.p_memsz h.p_filesz
is_at_fault b ram_words sought.Outside h =
    not (h.p_memsz == 0) && not (nat_le RAM_START h.p_paddr && nat_le (h.p_paddr + h.p_memsz) (word_address ram_words))

-- program header k is a load header that is sought
unfoldable pub is_sought : List ℕ → ℕ → Sought → ℕ → Bool
is_sought b ram_words wanted k = is_load (program_header b k) && is_at_fault b ram_words wanted (program_header b k)

-- the first of so many numbers from k on that passes a test
abbrev pub first_from : (ℕ → Bool) → ℕ → ℕ → Option ℕ
first_from test k zero = None
first_from test k (suc left) = if test k then Some k else first_from test (k + 1) left

-- the first load header that is sought
abbrev pub first_sought : List ℕ → ℕ → Sought → Option ℕ
first_sought b ram_words wanted = first_from (is_sought b ram_words wanted) 0 (e_phnum b)

-- there must be a load header, and none at fault
abbrev pub refusal_of : Sought → Option ℕ → Result (Unit {0}) ElfRefused
refusal_of sought.Load None = Err refused.NoLoad
refusal_of sought.Load (Some k) = Ok tt
refusal_of sought.FilePart None = Ok tt
refusal_of sought.FilePart (Some k) = Err (refused.FilePart k)
refusal_of sought.Sizes None = Ok tt
refusal_of sought.Sizes (Some k) = Err (refused.Sizes k)
refusal_of sought.Outside None = Ok tt
refusal_of sought.Outside (Some k) = Err (refused.Outside k)

-- a rule of load headers, tried on all of them
unfoldable pub rule_kept : List ℕ → ℕ → Sought → Result (Unit {0}) ElfRefused
rule_kept b ram_words wanted = refusal_of wanted (first_sought b ram_words wanted)

-- no load header is at fault
abbrev pub NoneFound : List ℕ → ℕ → Sought → Type 0
NoneFound b ram_words sought.Load = Unit {0}
NoneFound b ram_words wanted = (k : ℕ) → k < e_phnum b → is_sought b ram_words wanted k ≡ false

-- Images

-- an instruction of RAM is entered
unfoldable pub entry_kept : List ℕ → ℕ → Result (Unit {0}) ElfRefused
entry_kept b ram_words =
    if e_entry b % 4 == 0 && is_ram ram_words (e_entry b) then Ok tt else Err refused.Entry

-- the first rule that a file breaks, each tried on all headers before the next
unfoldable pub all_rules_kept : List ℕ → ℕ → Result (Unit {0}) ElfRefused
all_rules_kept b ram_words = do
  file ← file_kept b
  load ← rule_kept b ram_words sought.Load
  part ← rule_kept b ram_words sought.FilePart
  sizes ← rule_kept b ram_words sought.Sizes
  inside ← rule_kept b ram_words sought.Outside
  entry_kept b ram_words

-- raw bytes must fit RAM
abbrev pub raw_kept : List ℕ → ℕ → Result (Unit {0}) ElfRefused
raw_kept b ram_words = if nat_lt (8 * ram_words) (length b) then Err (refused.Outside 0) else Ok tt
