use Rattle.std.proofs.Common.{◌≡◌, ◌≤◌, take}
use Rattle.acpi_tables.specs.Blocks.{count_of}
use Rattle.acpi_tables.proofs.blocks.count_of.Given as goal

abbrev pub invariant-loop-entry : goal.invariant-loop-entry
invariant-loop-entry l = record {
  value : l.count ≡ count_of l.severity (take l.entry-index l.entries);
  some : l.count ≤ l.entry-index;
}
