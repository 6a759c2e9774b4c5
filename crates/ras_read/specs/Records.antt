-- The text of a records file.
use Rattle.std.specs.Prelude.{ℕ, zero, suc, ◌+◌, ◌<◌, ◌≤◌, nat_le, if◌then◌else◌, List, [], ◌++◌, length, drop, codes, decimal, Result, Ok, Err}
use Rattle.std.specs.List.{AllByRecursion}
use Rattle.ras_bits.specs.Results.{◌>>=◌}
use Rattle.cper_sections.specs.Reading.{record_of}
use Rattle.cper_sections.specs.declared.reading.Cper.{Cper}
use Rattle.cper_sections.specs.declared.reading.CperRefused.{CperRefused}
use Rattle.ras_read.specs.Sections.{IsInside, section_lines}
use Rattle.ras_read.specs.declared.refused.ReadRefused.{ReadRefused}
use Rattle.ras_read.specs.declared.refused.ReadRefused.TheVariants as refused

-- the line of a record
unfoldable pub record_line : Cper → List ℕ
record_line r =
    codes "record " ++ decimal r.id ++ codes " severity " ++ decimal r.severity ++ codes " at " ++ decimal r.at
    ++ codes " length " ++ decimal r.length ++ codes " sections " ++ decimal (length r.sections.items)
    ++ codes "\n"

-- the lines of a record that begins with these bytes, and of its sections
unfoldable pub record_lines : List ℕ → Cper → List ℕ
record_lines b r = record_line r ++ section_lines b r.sections.items

-- a record has bytes, all of which are there, and its sections lie in them
pub record IsWhole (b : List ℕ) (r : Cper) : Type 0 where
  pub some : 0 < r.length
  pub there : r.length ≤ length b
  pub inside : AllByRecursion (IsInside b) r.sections.items

-- a refusal of the record at an offset
abbrev pub bad_at : ℕ → Result Cper CperRefused → Result Cper ReadRefused
bad_at at (Ok r) = Ok r
bad_at at (Err refusal) = Err (refused.Bad at refusal)

-- the records from an offset on, each at the end of the last, or the first that is refused; a record has bytes, so that no
-- more are left than bytes
unfoldable pub records_from : ℕ → List ℕ → ℕ → Result (List ℕ) ReadRefused
records_from zero b at = Ok []
records_from (suc left) b at =
    if nat_le (length b) at then Ok []
    else (do
      r ← bad_at at (record_of (drop at b))
      lines ← records_from left b (at + r.length)
      Ok (record_lines (drop at b) r ++ lines))

-- the text of a records file, or its first record that is refused
abbrev pub records_text : List ℕ → Result (List ℕ) ReadRefused
records_text b = records_from (length b) b 0
