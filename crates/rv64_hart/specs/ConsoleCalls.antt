-- Calls to the firmware that write bytes of memory to the console, and bytes of the input to memory (SBI 2.0, "Debug Console
-- Extension").
use Rattle.std.specs.Prelude.{ℕ, zero, suc, ◌+◌, ◌-◌, ◌/◌, ◌%◌, ◌==◌, min, max, List, [], ◌∷◌, ◌++◌, take, drop, length, Option, Some, None, if◌then◌else◌}
use Rattle.std.specs.Int.{w64, to_le_bytes}
use Rattle.ras_bits.specs.Fields.{number_at}
use Rattle.ras_bits.specs.Map.{word_address, word_at}
use Rattle.poison_mem.specs.declared.cell.UseKind.{UseKind}
use Rattle.poison_mem.specs.Asking.{Asking, Answer, asked, ◌>>=◌}
use Rattle.sbi_calls.specs.declared.error.SbiError.TheVariants.{InvalidParam}
use Rattle.rv64_hart.specs.State.{ArchitecturalState}
use Rattle.rv64_hart.specs.Access.{byte_mask, placed}
use Rattle.rv64_hart.specs.Outcome.{Outcome, Store, went, writing, taking}
use Rattle.rv64_hart.specs.Answers.{answered, refused}

-- how many words hold n bytes from an address on
abbrev pub words_touched : ℕ → ℕ → ℕ
words_touched address n = if n == 0 then 0 else (address % 8 + n + 7) / 8

-- the bytes of n words from word w on, asked for in rising order, behind those that are there
unfoldable pub bytes_asked : List ℕ → ℕ → ℕ → Asking (List ℕ)
bytes_asked bytes w zero = Answer bytes
bytes_asked bytes w (suc n) = do
  value ← asked w UseKind.Sbi
  bytes_asked (bytes ++ to_le_bytes w64 value) (w + 1) n

-- a console write: no byte is written before the last word is there
unfoldable pub bytes_written : ArchitecturalState → ℕ → ℕ → Asking Outcome
bytes_written h address n = do
  bytes ← bytes_asked [] (word_at address) (words_touched address n)
  writing (answered h n) (take n (drop (address % 8) bytes))

-- the bytes of a list, laid from an address on, that fall into word w, and which byte of it the first one is
pub record Part : Type 0 where
  pub first : ℕ
  pub bytes : List ℕ

-- the part of a span of bytes that lies in word w
abbrev pub part_of : ℕ → List ℕ → ℕ → Part
part_of address bytes w =
    let base = word_address w in
    let from = max address base in
    let to = min (address + length bytes) (base + 8) in
    record { first = from - base; bytes = take (to - from) (drop (from - address) bytes) }

-- the store of a part: its mask has its bytes and no others
abbrev pub part_stored : ℕ → Part → Store
part_stored w part = record {
  w = w;
  value = placed part.first (number_at 8 0 part.bytes);
  mask = byte_mask part.first (length part.bytes);
}

-- one store for each of n words from word w on, in rising order
unfoldable pub parts_stored : ℕ → List ℕ → ℕ → ℕ → List Store
parts_stored address bytes w zero = []
parts_stored address bytes w (suc n) = part_stored w (part_of address bytes w) ∷ parts_stored address bytes (w + 1) n

-- the stores of bytes from an address on
abbrev pub span_stored : ℕ → List ℕ → List Store
span_stored address bytes = parts_stored address bytes (word_at address) (words_touched address (length bytes))

-- a console read: the first bytes of the input, at most n, go to memory
unfoldable pub bytes_read : ArchitecturalState → List ℕ → ℕ → ℕ → Asking Outcome
bytes_read h input address n =
    let bytes = take n input in
    taking (answered h (length bytes)) (length bytes) (span_stored address bytes)

-- a call that names bytes in memory, which are refused where they don't all lie there
abbrev pub with_span : ArchitecturalState → (ℕ → ℕ → Asking Outcome) → Option (ℕ × ℕ) → Asking Outcome
with_span h go_on None = went (refused h InvalidParam)
with_span h go_on (Some (address, n)) = go_on address n
