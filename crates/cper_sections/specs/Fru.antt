-- The text that names a record (this project's own), in the place of the name of a field-replaceable unit (UEFI Appendix N,
-- "Section Descriptor").
use Rattle.std.specs.Prelude.{ℕ, ◌+◌, ◌/◌, ◌%◌, ◌^◌, Bool, if◌then◌else◌, List, [], ◌∷◌, ◌++◌, codes}
use Rattle.std.specs.Int.{from_bool}
use Rattle.poison_mem.specs.declared.event.RecordView.{RecordView}

-- a decimal digit, as text
abbrev pub digit : ℕ → List ℕ
digit n = (48 + n) ∷ []

-- a flag, as text
abbrev pub flag : Bool → List ℕ
flag b = digit (from_bool b)

-- behind the number of corrected errors: a plus sign (43) where there were more, else a space (32)
abbrev pub more_mark : Bool → List ℕ
more_mark more = (if more then 43 else 32) ∷ []

-- the FRU text, as in `b0r0 c00001 s100 m0`: bank, record, number of corrected errors and a plus sign where there were
-- more, the classes that came, and whether there were several of the worst; a zero ends it
abbrev pub fru_text : RecordView → List ℕ
fru_text v =
    codes "b" ++ digit v.kept.bank ++ codes "r" ++ digit v.kept.rec
    ++ codes " c" ++ digit (v.cec / 10 ^ 4 % 10) ++ digit (v.cec / 10 ^ 3 % 10)
    ++ digit (v.cec / 10 ^ 2 % 10) ++ digit (v.cec / 10 % 10) ++ digit (v.cec % 10)
    ++ more_mark v.ceco ++ codes "s" ++ flag v.ce ++ flag v.ued ++ flag v.uec
    ++ codes " m" ++ flag v.mo ++ 0 ∷ []
