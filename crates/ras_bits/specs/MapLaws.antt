-- Words of RAM and their addresses.
use Rattle.std.proofs.Common.{◌≡◌, ℕ, ◌%◌, ◌<◌, ◌≤◌, true, arith}
use Rattle.ras_bits.specs.Map.{word_address, word_at, is_ram}
use Rattle.ras_bits.specs.declared.map.TheConstants.{RAM_START}

-- the first byte of a word lies in that word
pub word_at_address : (w : ℕ) → word_at (word_address w) ≡ w
word_at_address w = omega arith

-- an address in RAM is at or behind its start
pub ram_from : (words address : ℕ) → is_ram words address ≡ true → RAM_START ≤ address
ram_from words address h = grind arith

-- and before its end
pub ram_to : (words address : ℕ) → is_ram words address ≡ true → address < word_address words
ram_to words address h = grind arith

-- an address in RAM lies in one of its words
pub word_at_lt : (words address : ℕ) → is_ram words address ≡ true → word_at address < words
word_at_lt words address h = omega (arith, ram_from words address h, ram_to words address h)

-- an address from the start of RAM up to its end is in RAM
pub is_ram_between : (words address : ℕ) → RAM_START ≤ address → address < word_address words → is_ram words address ≡ true
is_ram_between words address h k = grind arith

-- each word of RAM begins in RAM
pub address_is_ram : (words w : ℕ) → w < words → is_ram words (word_address w) ≡ true
address_is_ram words w h = is_ram_between words (word_address w) (omega arith) (omega arith)
