-- Formats as lists of fields, each at its slot (numbers are little-endian, as in ACPI and UEFI).
use Rattle.byteorder.specs.Endian.{little_bytes}
use Rattle.std.specs.Prelude.{◌≡◌, ℕ, ◌+◌, ◌-◌, Bool, ◌&&◌, nat_le, List, [], ◌∷◌, ◌++◌, length, take, drop, replicate}
use Rattle.ras_bits.specs.Fields.{number_at}
use Rattle.byte_fields.specs.declared.slot.Slot.{Slot}

-- a number as so many bytes, the lowest first
unfoldable pub little : ℕ → ℕ → List ℕ
little width value = little_bytes width value

-- so many zero bytes
unfoldable pub zeros : ℕ → List ℕ
zeros n = replicate n 0

-- the n bytes from offset `at` on
unfoldable pub bytes_at : ℕ → ℕ → List ℕ → List ℕ
bytes_at n at b = take n (drop at b)

-- the bytes with zeros behind them, up to a length
unfoldable pub padded : ℕ → List ℕ → List ℕ
padded n b = b ++ zeros (n - length b)

-- ---- what is written

-- what a field holds: a little-endian number, or bytes in their order
pub data Content : Type 0 where
  Number : ℕ → Content
  Bytes : List ℕ → Content

-- a slot of a format, with what it holds
pub record Field : Type 0 where
  pub slot : Slot
  pub content : Content

-- a slot that holds a number
abbrev pub number_field : Slot → ℕ → Field
number_field slot value = record { slot = slot; content = Number value }

-- a slot that holds bytes
abbrev pub bytes_field : Slot → List ℕ → Field
bytes_field slot bytes = record { slot = slot; content = Bytes bytes }

-- what a field holds, as so many bytes
abbrev pub content_bytes : ℕ → Content → List ℕ
content_bytes width (Number value) = little width value
content_bytes width (Bytes bytes) = bytes

-- the bytes so far with zeros up to the field's slot, and what it holds
abbrev pub with_slot : List ℕ → Field → List ℕ
with_slot front f = padded f.slot.offset front ++ content_bytes f.slot.width f.content

-- the bytes so far with each field at its slot, in rising order
abbrev pub with_slots : List ℕ → List Field → List ℕ
with_slots front [] = front
with_slots front (f ∷ fs) = with_slots (with_slot front f) fs

-- so many bytes with the fields at their slots; what isn't named is zero
abbrev pub laid_out : ℕ → List Field → List ℕ
laid_out n fields = padded n (with_slots [] fields)

-- ---- what is read

-- the number in a slot of the format that begins at offset `start`
abbrev pub number_in : Slot → ℕ → List ℕ → ℕ
number_in slot start b = number_at slot.width (start + slot.offset) b

-- the bytes in a slot of the format that begins at offset `start`
abbrev pub bytes_in : Slot → ℕ → List ℕ → List ℕ
bytes_in slot start b = bytes_at slot.width (start + slot.offset) b

-- a field stands at its slot: the bytes there are what it holds
abbrev pub StandsAtSlot : List ℕ → Field → Type 0
StandsAtSlot b f = bytes_at f.slot.width f.slot.offset b ≡ content_bytes f.slot.width f.content

-- ---- which fields fit a format

-- the slots follow each other from an offset on, and end before the format does
abbrev pub fit_between : ℕ → ℕ → List Field → Bool
fit_between start end [] = nat_le start end
fit_between start end (f ∷ fs) = nat_le start f.slot.offset && fit_between (f.slot.offset + f.slot.width) end fs

-- bytes that a field holds are as many as its slot has
abbrev pub HasWidth : ℕ → Content → Type 0 → Type 0
HasWidth width (Number value) others = others
HasWidth width (Bytes bytes) others = (length bytes ≡ width) × others

-- each field has the length of its slot
abbrev pub HaveWidths : List Field → Type 0
HaveWidths [] = Unit {0}
HaveWidths (f ∷ fs) = HasWidth f.slot.width f.content (HaveWidths fs)
