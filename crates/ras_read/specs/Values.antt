-- How values are printed (this project's text).
use Rattle.std.specs.Prelude.{ℕ, ◌==◌, ◌&&◌, nat_le, if◌then◌else◌, List, [], ◌∷◌, codes, decimal, Option, Some, None}
use Rattle.ras_bits.specs.Bits.{has_bit}
use Rattle.ras_numbers.specs.Numbers.{address_text}
use Rattle.byte_fields.specs.declared.slot.Slot.{Slot}
use Rattle.byte_fields.specs.Fields.{number_in}

-- the number in a slot of the section that begins at `start`, where its bit of the validation bits is set
abbrev pub valid_number : ℕ → ℕ → Slot → ℕ → List ℕ → Option ℕ
valid_number validation bit slot start b = if has_bit validation bit then Some (number_in slot start b) else None

-- what stands for a value that isn't valid
abbrev pub dash : List ℕ
dash = codes "-"

-- a number in decimal, where it is valid
abbrev pub decimal_shown : Option ℕ → List ℕ
decimal_shown None = dash
decimal_shown (Some n) = decimal n

-- an address, where it is valid
abbrev pub address_shown : Option ℕ → List ℕ
address_shown None = dash
address_shown (Some n) = address_text n

-- a byte of a text: one outside printable ASCII is shown as a full stop (46)
abbrev pub shown_byte : ℕ → ℕ
shown_byte byte = if nat_le 32 byte && nat_le byte 126 then byte else 46

-- a text that ends before its first zero
abbrev pub shown_text : List ℕ → List ℕ
shown_text [] = []
shown_text (byte ∷ bytes) = if byte == 0 then [] else shown_byte byte ∷ shown_text bytes

-- the text that names the field-replaceable unit, where it is valid
abbrev pub fru_shown : Option (List ℕ) → List ℕ
fru_shown None = dash
fru_shown (Some text) = shown_text text
