use Rattle.std.proofs.Common.{◌≡◌, ◌-◌}
use Rattle.acpi_tables.specs.Reading.{sources_in}
use Rattle.acpi_tables.proofs.TableLemmas.{sources_from}
use Rattle.acpi_tables.proofs.table_reading.read_sources.Given as goal

abbrev pub invariant-loop-i : goal.invariant-loop-i
invariant-loop-i l = sources_from l.end l.b l.i (l.count - l.i) ≡ sources_in l.end l.b l.count
