-- Bytes of RAM, what a console write takes of them, and what a console read leaves of them.
use Rattle.std.specs.Prelude.{◌≡◌, ℕ, ◌+◌, ◌%◌, ◌<◌, ◌≤◌, ◌⊎◌, List, [], ◌∷◌, length, slice_index}
use Rattle.std.specs.Int.{w64, to_le_bytes}
use Rattle.ras_bits.specs.Map.{word_at}
use Rattle.ras_bits.specs.declared.map.TheConstants.{RAM_START}
use Rattle.poison_mem.specs.Asking.{Asking, Answer, Ask}
use Rattle.poison_mem.specs.Flat.{flat_meaning}
use Rattle.rv64_hart.specs.Outcome.{Outcome, Store}

-- the byte at an address of a RAM of these words
abbrev pub byte_at : List ℕ → ℕ → ℕ
byte_at ram address = slice_index (to_le_bytes w64 (slice_index ram (word_at address))) (address % 8)

-- what a computation answers where these words answer its asks
abbrev pub answered_by : {X : Type 0} → List ℕ → Asking X → X
answered_by ram (Answer x) = x
answered_by ram (Ask w use_kind go_on) = answered_by ram (go_on (slice_index ram w))

-- an outcome writes the n bytes of RAM from an address on
pub record WritesRam (ram : List ℕ) (address n : ℕ) (o : Outcome) : Type 0 where
  pub count : length o.bytes ≡ n
  pub each : (i : ℕ) → i < n → slice_index o.bytes i ≡ byte_at ram (address + i)

-- a RAM of these words after stores, in order
abbrev pub ram_after : List ℕ → List Store → List ℕ
ram_after ram [] = ram
ram_after ram (s ∷ stores) = ram_after (flat_meaning.store ram s.w s.value s.mask).after stores

-- an outcome takes these bytes of the input and leaves them in RAM from an address on; all other bytes of RAM stay
pub record FillsRam (ram : List ℕ) (address : ℕ) (bytes : List ℕ) (o : Outcome) : Type 0 where
  pub count : o.taken ≡ length bytes
  pub each : (i : ℕ) → i < length bytes → byte_at (ram_after ram o.stores) (address + i) ≡ slice_index bytes i
  pub others : (a : ℕ) → RAM_START ≤ a → (a < address) ⊎ (address + length bytes ≤ a)
      → byte_at (ram_after ram o.stores) a ≡ byte_at ram a
