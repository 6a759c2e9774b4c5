-- Bytes that were written into memory.
use Rattle.std.specs.Prelude.{◌≡◌, ℕ, ◌+◌, ◌-◌, ◌<◌, ◌==◌, if◌then◌else◌, List, get_or}
use Rattle.std.specs.Int.{to_le_bytes, w64}
use Rattle.elf_load.specs.Memory.{is_within}

-- one byte was written
abbrev pub with_byte : ℕ → ℕ → (ℕ → ℕ) → ℕ → ℕ
with_byte at byte memory address = if address == at then byte else memory address

-- n bytes of a part were written from a start on, zeros behind its end
abbrev pub with_part : List ℕ → ℕ → ℕ → (ℕ → ℕ) → ℕ → ℕ
with_part part start n memory address = if is_within start n address then get_or part (address - start) 0 else memory address

-- the word of a part's bytes from byte i on, zeros behind its end
pub record IsWordAt (part : List ℕ) (i word : ℕ) : Type 0 where
  pub byte : (j : ℕ) → j < 8 → get_or (to_le_bytes w64 word) j 0 ≡ get_or part (i + j) 0
