use Rattle.std.proofs.Common.{◌≡◌, ◌+◌, ◌*◌, ◌≤◌, ◌++◌, take, drop}
use Rattle.std.specs.List.{All, flat_map}
use Rattle.arrayvec.specs.ArrayVec.{array_vec_len}
use Rattle.acpi_tables.specs.Blocks.{block_bytes}
use Rattle.acpi_tables.specs.Entries.{entry_bytes}
use Rattle.acpi_tables.specs.Written.{IsEntry}
use Rattle.acpi_tables.proofs.blocks.status_block.Given as goal

abbrev pub invariant-loop-entry : goal.invariant-loop-entry
invariant-loop-entry l = record {
  whole : l.out.items ++ flat_map entry_bytes (drop l.entry-index l.entries) ≡ block_bytes l.entries;
  typed : All IsEntry (take l.entry-index l.entries);
  room : array_vec_len l.out ≤ 20 + 264 * l.entry-index;
}
