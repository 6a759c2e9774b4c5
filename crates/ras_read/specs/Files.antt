-- The text of a file of records or of firmware's memory.
use Rattle.std.specs.Prelude.{◌≡◌, ℕ, ◌==◌, if◌then◌else◌, List, [], length, codes, take, bytes_eq, Result, Ok, Err}
use Rattle.ras_read.specs.Records.{records_text}
use Rattle.ras_read.specs.Firmware.{firmware_text}
use Rattle.ras_read.specs.declared.refused.ReadRefused.{ReadRefused}
use Rattle.ras_read.specs.declared.refused.ReadRefused.TheVariants as refused

-- the text of a file, by its first four bytes, or its first place that is refused
abbrev pub file_text : List ℕ → Result (List ℕ) ReadRefused
file_text b =
    if length b == 0 then Ok []
    else if bytes_eq (codes "CPER") (take 4 b) then records_text b
    else if bytes_eq (codes "HEST") (take 4 b) then firmware_text b
    else Err refused.Kind

-- a refusal is that of the reading; want of memory says nothing of what is read
abbrev pub IsRefusalOf : Result (List ℕ) ReadRefused → ReadRefused → Type 0
IsRefusalOf read refused.NoMemory = Unit {0}
IsRefusalOf read refused.Kind = read ≡ Err refused.Kind
IsRefusalOf read (refused.Bad at refusal) = read ≡ Err (refused.Bad at refusal)
IsRefusalOf read (refused.Table at refusal) = read ≡ Err (refused.Table at refusal)
