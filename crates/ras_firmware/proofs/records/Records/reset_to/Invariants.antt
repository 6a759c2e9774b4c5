use Rattle.std.proofs.Common.{◌≡◌, ◌≤◌, take}
use Rattle.std.specs.Vec.{vec_capacity}
use Rattle.ras_firmware.specs.declared.records.TheConstants.{MOST_RECORDS}
use Rattle.ras_firmware.proofs.records.Records.reset_to.Given as goal

abbrev pub invariant-loop-view : goal.invariant-loop-view
invariant-loop-view l = (l.self-inside.views.items ≡ take l.view-index l.fn.v) × (MOST_RECORDS ≤ vec_capacity l.self-inside.views)
