use Rattle.std.proofs.Common.{◌≡◌, ◌≤◌, ◌*◌, take}
use Rattle.acpi_tables.specs.Blocks.{data_length}
use Rattle.acpi_tables.proofs.blocks.length_of.Given as goal

abbrev pub invariant-loop-entry : goal.invariant-loop-entry
invariant-loop-entry l = record {
  value : l.total ≡ data_length (take l.entry-index l.entries);
  bound : l.total ≤ 264 * l.entry-index;
}
