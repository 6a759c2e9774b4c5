use Rattle.std.proofs.Common.{◌≡◌, ◌-◌}
use Rattle.arrayvec.specs.ArrayVec.{array_vec_len}
use Rattle.cper_sections.specs.Reading.{section_count, sections_of}
use Rattle.cper_sections.proofs.SectionLemmas.{sections_from}
use Rattle.cper_sections.proofs.reading.read_sections.Given as goal

abbrev pub invariant-loop-i : goal.invariant-loop-i
invariant-loop-i l = record {
  whole : sections_from l.b l.sections.items l.i (section_count l.b - l.i) ≡ sections_of l.b;
  room : array_vec_len l.sections ≡ l.i;
}
