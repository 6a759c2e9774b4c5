use Rattle.std.proofs.Common.{◌≡◌, ◌≤◌, ◌++◌, length, ◌-◌, ◌*◌}
use Rattle.std.specs.List.{flat_map, range_with_len}
use Rattle.ras_report.specs.Records.{file_bytes, record_number}
use Rattle.ras_report.proofs.records.write_records.Given as goal

abbrev pub invariant-loop-view : goal.invariant-loop-view
invariant-loop-view l = record {
  whole : l.b ++ flat_map (record_number l.r.views) (range_with_len l.view-index (length l.r.views - l.view-index)) ≡ file_bytes l.r.views;
  number : l.id ≡ l.view-index;
  room : length l.b ≤ 392 * l.view-index;
}
