-- The code over 72 bits: 64 data bits, and 8 check bits above them (Hsiao 1970).
use Rattle.std.specs.Prelude.{ℕ, zero, suc, ◌+◌, ◌*◌, ◌%◌, ◌^◌, ◌==◌, List, [], ◌∷◌, slice_index, bit_xor, if◌then◌else◌, Option, Some, None, option_map}
use Rattle.std.specs.Option.{unwrap_or}
use Rattle.std.specs.Int.{bit_at}
use Rattle.hsiao_code.specs.declared.codeword.Decoded.{Decoded}
use Rattle.hsiao_code.specs.declared.codeword.Decoded.TheVariants.{Clean, Fixed, Bad}

-- the column of each bit of a codeword, the lowest first: 64 data bits, then 8 check bits
unfoldable pub columns : List ℕ
columns =
    0x07 ∷ 0x0B ∷ 0x0D ∷ 0x0E ∷ 0x13 ∷ 0x15 ∷ 0x16 ∷ 0x19 ∷ 0x1A ∷ 0x1C ∷ 0x23 ∷ 0x25 ∷ 0x26 ∷ 0x29 ∷ 0x2A ∷ 0x2C ∷
    0x31 ∷ 0x32 ∷ 0x34 ∷ 0x38 ∷ 0x43 ∷ 0x45 ∷ 0x46 ∷ 0x49 ∷ 0x4A ∷ 0x4C ∷ 0x51 ∷ 0x52 ∷ 0x54 ∷ 0x58 ∷ 0x61 ∷ 0x62 ∷
    0x64 ∷ 0x68 ∷ 0x70 ∷ 0x83 ∷ 0x85 ∷ 0x86 ∷ 0x89 ∷ 0x8A ∷ 0x8C ∷ 0x91 ∷ 0x92 ∷ 0x94 ∷ 0x98 ∷ 0xA1 ∷ 0xA2 ∷ 0xA4 ∷
    0xA8 ∷ 0xB0 ∷ 0xC1 ∷ 0xC2 ∷ 0xC4 ∷ 0xC8 ∷ 0xD0 ∷ 0xE0 ∷ 0x1F ∷ 0x3E ∷ 0x7C ∷ 0xF8 ∷ 0xF1 ∷ 0xE3 ∷ 0xC7 ∷ 0x8F ∷
    0x01 ∷ 0x02 ∷ 0x04 ∷ 0x08 ∷ 0x10 ∷ 0x20 ∷ 0x40 ∷ 0x80 ∷ []

-- the column of a bit of a codeword
unfoldable pub column_at : ℕ → ℕ
column_at bit = slice_index columns bit

-- the xor of the numbers f i of those bits i below n that are set in x
unfoldable pub xor_of : (ℕ → ℕ) → ℕ → ℕ → ℕ
xor_of f x zero = 0
xor_of f x (suc i) = bit_xor (xor_of f x i) (bit_at x i * f i)

-- the check bits of a word of data
unfoldable pub check_bits : ℕ → ℕ
check_bits v = xor_of column_at v 64

-- the 72 bits with this data and these check bits
abbrev pub code_bits : ℕ → ℕ → ℕ
code_bits v check = v + check * 2 ^ 64

-- the codeword of a word of data
abbrev pub code : ℕ → ℕ
code v = code_bits v (check_bits v)

-- the syndrome of 72 bits, which is 0 at the codewords
unfoldable pub syndrome_of : ℕ → ℕ
syndrome_of x = xor_of column_at x 72

-- x with bit j flipped
abbrev pub flip : ℕ → ℕ → ℕ
flip x j = bit_xor x (2 ^ j)

-- the data of 72 bits
abbrev pub data_of : ℕ → ℕ
data_of x = x % 2 ^ 64

-- x with one bit below n flipped, where that makes a codeword; otherwise it is bad
unfoldable pub fix_by_flip : ℕ → ℕ → Decoded
fix_by_flip x zero = Bad
fix_by_flip x (suc j) = if syndrome_of (flip x j) == 0 then Fixed (data_of (flip x j)) j else fix_by_flip x j

-- what 72 bits stand for: a codeword, one flip away from a codeword, or neither
unfoldable pub fix : ℕ → Decoded
fix x = if syndrome_of x == 0 then Clean (data_of x) else fix_by_flip x 72

-- what byte k of a word adds to its check bits, where that byte is b
unfoldable pub check_of_byte : ℕ → ℕ → ℕ
check_of_byte k b = xor_of (λ i. column_at (8 * k + i)) b 8

-- the first index of a number in a list
unfoldable pub first_index : ℕ → List ℕ → Option ℕ
first_index c [] = None
first_index c (d ∷ ds) = if d == c then Some 0 else option_map suc (first_index c ds)

-- 72 for the syndrome of a codeword, the bit whose column the syndrome is, and otherwise 73
unfoldable pub bit_of_syndrome : ℕ → ℕ
bit_of_syndrome s = if s == 0 then 72 else unwrap_or (first_index s columns) 73
