-- What an image is to a machine (ELF-64 for a file; raw bytes are this project's).
use Rattle.std.specs.Prelude.{◌≡◌, ℕ, zero, suc, ◌+◌, ◌*◌, Bool, true, false, List, map, Result, Ok, Err}
use Rattle.std.specs.List.{range_with_len}
use Rattle.ras_bits.specs.Map.{word_address}
use Rattle.ras_bits.specs.Results.{◌>>=◌}
use Rattle.ras_bits.specs.declared.map.TheConstants.{RAM_START}
use Rattle.elf_load.specs.Headers.{e_entry}
use Rattle.elf_load.specs.Rules.{all_rules_kept, raw_kept}
use Rattle.elf_load.specs.Memory.{file_memory, raw_memory}
use Rattle.elf_load.specs.declared.refusals.ElfRefused.{ElfRefused}
use Rattle.elf_load.specs.declared.refusals.ElfRefused.TheVariants as refused

-- the words of RAM, and the address at which they are entered
pub record Program : Type 0 where
  pub words : List ℕ
  pub entry : ℕ

-- the number of so many bytes of memory from an address on, the lowest first
abbrev pub little_number_in : (ℕ → ℕ) → ℕ → ℕ → ℕ
little_number_in memory address zero = 0
little_number_in memory address (suc n) = memory address + 256 * little_number_in memory (address + 1) n

-- word w of RAM: the number of its eight bytes
unfoldable pub word_in : (ℕ → ℕ) → ℕ → ℕ
word_in memory w = little_number_in memory (word_address w) 8

-- so many words of memory from the start of RAM on
unfoldable pub image_words : (ℕ → ℕ) → ℕ → List ℕ
image_words memory ram_words = map (word_in memory) (range_with_len 0 ram_words)

-- these words, and an entry
abbrev pub program_of : (ℕ → ℕ) → ℕ → ℕ → Program
program_of memory ram_words entry = record { words = image_words memory ram_words; entry = entry }

-- the program that an image is in a RAM of so many words, or the first rule that it breaks. An image is an
-- ELF-64 file, or raw bytes
unfoldable pub image_of : Bool → List ℕ → ℕ → Result Program ElfRefused
image_of false b ram_words = do
  kept ← all_rules_kept b ram_words
  Ok (program_of (file_memory b) ram_words (e_entry b))
image_of true b ram_words = do
  kept ← raw_kept b ram_words
  Ok (program_of (raw_memory b) ram_words RAM_START)

-- what an image is was answered, or that memory ran out, which says nothing of it
abbrev pub AnswersOrNoMemory : Result Program ElfRefused → Result Program ElfRefused → Type 0
AnswersOrNoMemory image (Ok program) = image ≡ Ok program
AnswersOrNoMemory image (Err refused.NoMemory) = Unit {0}
AnswersOrNoMemory image (Err refusal) = image ≡ Err refusal
