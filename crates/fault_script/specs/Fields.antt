-- The fields behind the step of a line: which words each takes, and how it is written.
use Rattle.std.specs.Prelude.{ℕ, ◌%◌, Bool, ◌&&◌, ◌==◌, nat_le, if◌then◌else◌, List, Option, Some, None, Result, Ok, Err, codes, decimal}
use Rattle.std.specs.Str.{bytes_eq}
use Rattle.ras_bits.specs.Map.{is_ram}
use Rattle.ras_bits.specs.Results.{◌>>=◌}
use Rattle.ras_numbers.specs.Numbers.{number_of, address_text}
use Rattle.poison_mem.specs.declared.event.Class.{Class}
use Rattle.poison_mem.specs.declared.event.Class.TheVariants.{Corrected, Deferred, Critical}
use Rattle.fault_script.specs.declared.lines.Why.{Why}
use Rattle.fault_script.specs.declared.lines.Why.TheVariants as why

-- the names of fields
pub data Field : Type 0 where
  Address : Field
  Bit : Field
  Bank : Field
  Record : Field
  ClassName : Field
  Delay : Field
  Value : Field

-- what they hold: a line has some of them
pub record Fields : Type 0 where
  pub address : ℕ
  pub bit : ℕ
  pub bank : ℕ
  pub rec : ℕ
  pub class : Class
  pub delay : ℕ
  pub value : ℕ

-- before any is read
abbrev pub no_fields : Fields
no_fields = record { address = 0; bit = 0; bank = 0; rec = 0; class = Corrected; delay = 0; value = 0 }

-- ---- reading

-- a field that is no number is refused as that
abbrev pub number_or : Option ℕ → Result ℕ Why
number_or None = Err why.Number
number_or (Some n) = Ok n

-- a number that is at most the limit
unfoldable pub number_up_to : Why → ℕ → List ℕ → Result ℕ Why
number_up_to refusal limit word = do
  n ← number_or (number_of word)
  if nat_le n limit then Ok n else Err refusal

-- the address of a word in a RAM of so many words
abbrev pub is_word_address : ℕ → ℕ → Bool
is_word_address ram_words n = n % 8 == 0 && is_ram ram_words n

-- an address of a word in RAM
unfoldable pub address_of : ℕ → List ℕ → Result ℕ Why
address_of ram_words word = do
  n ← number_or (number_of word)
  if is_word_address ram_words n then Ok n else Err why.Address

-- a delay in steps
unfoldable pub delay_of : List ℕ → Result ℕ Why
delay_of word = do
  n ← number_or (number_of word)
  if nat_le 1 n && nat_le n 65535 then Ok n else Err why.Delay

-- a class as RERI calls it
abbrev pub class_text : Class → List ℕ
class_text Corrected = codes "ce"
class_text Deferred = codes "ued"
class_text Critical = codes "uec"

-- the class that a word names
unfoldable pub class_of : List ℕ → Result Class Why
class_of word =
    if bytes_eq word (class_text Corrected) then Ok Corrected
    else if bytes_eq word (class_text Deferred) then Ok Deferred
    else if bytes_eq word (class_text Critical) then Ok Critical
    else Err why.Class

-- what a word says as this field, beside the fields that were read before
abbrev pub field_read : ℕ → Field → List ℕ → Fields → Result Fields Why
field_read ram_words Address word fields = do
  n ← address_of ram_words word
  Ok (record fields { address = n })
field_read ram_words Bit word fields = do
  n ← number_up_to why.Bit 71 word
  Ok (record fields { bit = n })
field_read ram_words Bank word fields = do
  n ← number_up_to why.Bank 1 word
  Ok (record fields { bank = n })
field_read ram_words Record word fields = do
  n ← number_up_to why.Bank 1 word
  Ok (record fields { rec = n })
field_read ram_words ClassName word fields = do
  class ← class_of word
  Ok (record fields { class = class })
field_read ram_words Delay word fields = do
  n ← delay_of word
  Ok (record fields { delay = n })
field_read ram_words Value word fields = do
  n ← number_up_to why.Number 255 word
  Ok (record fields { value = n })

-- ---- writing

-- the word for a field
abbrev pub field_text : Field → Fields → List ℕ
field_text Address fields = address_text fields.address
field_text Bit fields = decimal fields.bit
field_text Bank fields = decimal fields.bank
field_text Record fields = decimal fields.rec
field_text ClassName fields = class_text fields.class
field_text Delay fields = decimal fields.delay
field_text Value fields = decimal fields.value
