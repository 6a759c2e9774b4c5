-- A word after a store of some of its bytes (unprivileged manual, "Load and Store Instructions"; poison: RISC-V RERI).
use Rattle.std.specs.Prelude.{ℕ, List, [], ◌∷◌, ◌==◌, ◌/◌, ◌%◌, ◌^◌, if◌then◌else◌, slice_index, bit_and}
use Rattle.std.specs.Int.{w64, to_le_bytes, from_le_bytes}
use Rattle.poison_mem.specs.declared.cell.Cell.{Cell}
use Rattle.poison_mem.specs.declared.cell.Cell.TheVariants.{Good, Poison}

-- byte i: that of the value where the mask's bit i is set, else that of the old word
abbrev pub byte_after : List ℕ → List ℕ → ℕ → ℕ → ℕ
byte_after old value mask i = if bit_and (mask / 2 ^ i) 1 == 1 then slice_index value i else slice_index old i

-- the eight bytes, least significant first
abbrev pub bytes_after : List ℕ → List ℕ → ℕ → List ℕ
bytes_after old value mask =
    byte_after old value mask 0 ∷ byte_after old value mask 1 ∷ byte_after old value mask 2 ∷ byte_after old value mask 3
    ∷ byte_after old value mask 4 ∷ byte_after old value mask 5 ∷ byte_after old value mask 6 ∷ byte_after old value mask 7 ∷ []

-- the word of these bytes
unfoldable pub blended : ℕ → ℕ → ℕ → ℕ
blended old value mask = from_le_bytes w64 (bytes_after (to_le_bytes w64 old) (to_le_bytes w64 value) mask)

-- a word after a store: the value itself under a whole mask, else the bytes of both
abbrev pub merged_value : ℕ → ℕ → ℕ → ℕ
merged_value old value mask = (if mask == 255 then value else blended old value mask) % 2 ^ 64

-- a cell after a store: poison stays poison but under a whole mask
abbrev pub merged_cell : Cell → ℕ → ℕ → Cell
merged_cell (Good old) value mask = Good (merged_value old value mask)
merged_cell Poison value mask = if mask == 255 then Good (value % 2 ^ 64) else Poison
