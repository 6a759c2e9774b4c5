use Rattle.std.proofs.Common.{◌≡◌, ◌-◌, ◌≤◌}
use Rattle.arrayvec.specs.ArrayVec.{array_vec_len}
use Rattle.acpi_tables.specs.Reading.{entries_in, entry_start}
use Rattle.acpi_tables.proofs.BlockLemmas.{entries_from}
use Rattle.acpi_tables.proofs.block_reading.read_entries.Given as goal

abbrev pub invariant-loop-i : goal.invariant-loop-i
invariant-loop-i l = record {
  whole : entries_from l.end l.b l.count l.entries.items l.i (l.count - l.i) ≡ entries_in l.end l.b l.count;
  place : l.at ≡ entry_start l.b l.i;
  inside : l.at ≤ l.end;
  room : array_vec_len l.entries ≡ l.i;
}
