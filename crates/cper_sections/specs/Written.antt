-- What the reader finds in a record that was written.
use Rattle.std.specs.Prelude.{ℕ, ◌+◌, List, [], ◌∷◌, length, Some}
use Rattle.poison_mem.specs.declared.event.RecordView.{RecordView}
use Rattle.cper_sections.specs.Severity.{severity_of}
use Rattle.cper_sections.specs.Fru.{fru_text}
use Rattle.cper_sections.specs.Record.{section_bytes, section_start, section_type}
use Rattle.cper_sections.specs.declared.reading.Cper.{Cper}

-- what the record of a view says, whose one section has this type and length
abbrev pub cper_with : RecordView → ℕ → List ℕ → ℕ → Cper
cper_with v id kind length = record {
  id = id;
  severity = severity_of v.kept.class;
  at = v.kept.at;
  length = section_start + length;
  sections = record {
    items = record {
      kind = kind;
      start = section_start;
      length = length;
      severity = severity_of v.kept.class;
      fru = Some (fru_text v);
    } ∷ [];
  };
}

-- what is read of the record of a view with an id
abbrev pub cper_of : RecordView → ℕ → Cper
cper_of v id = cper_with v id (section_type v) (length (section_bytes v))
