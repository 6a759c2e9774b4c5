-- The physical address map: the words of RAM.
use Rattle.std.specs.Prelude.{ℕ, ◌+◌, ◌-◌, ◌*◌, ◌/◌, Bool, ◌&&◌, nat_le, nat_lt}
use Rattle.ras_bits.specs.declared.map.TheConstants.{RAM_START}

-- the physical address of the first byte of word w of RAM
abbrev pub word_address : ℕ → ℕ
word_address w = RAM_START + 8 * w

-- the word that the byte at an address in RAM lies in
abbrev pub word_at : ℕ → ℕ
word_at address = (address - RAM_START) / 8

-- the byte at this address lies in a RAM of so many words
abbrev pub is_ram : ℕ → ℕ → Bool
is_ram words address = nat_le RAM_START address && nat_lt address (word_address words)
