-- Numbers in text: digits in positional notation (ASCII).
use Rattle.std.specs.Prelude.{ℕ, zero, suc, ◌+◌, ◌-◌, ◌*◌, ◌/◌, ◌%◌, ◌^◌, ◌&&◌, nat_le, nat_lt, if◌then◌else◌, List, [], ◌∷◌, ◌++◌, length, take, drop, codes, Option, Some, None, option_map, option_and_then}
use Rattle.std.specs.Str.{bytes_eq}

-- what a byte counts for as a digit: 0 to 9, and a to f of either case for 10 to 15
abbrev pub digit_value : ℕ → Option ℕ
digit_value byte =
    if nat_le 48 byte && nat_le byte 57 then Some (byte - 48)
    else if nat_le 97 byte && nat_le byte 102 then Some (byte - 87)
    else if nat_le 65 byte && nat_le byte 70 then Some (byte - 55)
    else None

-- the number, if it is below the limit
abbrev pub below : ℕ → ℕ → Option ℕ
below limit n = if nat_lt n limit then Some n else None

-- what a byte counts for as a digit of the base
abbrev pub digit_in : ℕ → ℕ → Option ℕ
digit_in base byte = option_and_then (below base) (digit_value byte)

-- what the bytes count for, if each is a digit of the base
abbrev pub digits_in : ℕ → List ℕ → Option (List ℕ)
digits_in base [] = Some []
digits_in base (byte ∷ bytes) = option_and_then (λ digit. option_map (λ digits. digit ∷ digits) (digits_in base bytes)) (digit_in base byte)

-- the number that digits stand for: each counts base to the power of how many stand behind it
abbrev pub positional : ℕ → List ℕ → ℕ
positional base [] = 0
positional base (digit ∷ digits) = digit * base ^ length digits + positional base digits

-- the number below 2^64 that one or more digits of the base stand for
abbrev pub number_in : ℕ → List ℕ → Option ℕ
number_in base [] = None
number_in base (byte ∷ bytes) = option_and_then (below (2 ^ 64)) (option_map (positional base) (digits_in base (byte ∷ bytes)))

-- the number that a text is: 0x and hexadecimal digits, or decimal digits
abbrev pub number_of : List ℕ → Option ℕ
number_of text = if bytes_eq (take 2 text) (codes "0x") then number_in 16 (drop 2 text) else number_in 10 text

-- the hexadecimal digit for a value below 16, in lower case
abbrev pub hex_digit : ℕ → ℕ
hex_digit value = if nat_lt value 10 then 48 + value else 87 + value

-- the low so many hexadecimal digits of a number, in lower case, the last one last
unfoldable pub hex_text : ℕ → ℕ → List ℕ
hex_text zero n = []
hex_text (suc width) n = hex_text width (n / 16) ++ hex_digit (n % 16) ∷ []

-- an address: 0x and sixteen hexadecimal digits
unfoldable pub address_text : ℕ → List ℕ
address_text n = codes "0x" ++ hex_text 16 n
