use Rattle.std.proofs.Common.{◌≡◌, take}
use Rattle.ras_firmware.specs.Records.{with_all}
use Rattle.ras_firmware.proofs.records.Records.emit_all.Given as goal

abbrev pub invariant-loop-view : goal.invariant-loop-view
invariant-loop-view l = l.self ≡ with_all l.fn.self (take l.view-index l.fn.views)
