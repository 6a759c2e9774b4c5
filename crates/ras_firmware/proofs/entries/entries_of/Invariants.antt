use Rattle.std.proofs.Common.{◌≡◌, map, take}
use Rattle.ras_firmware.specs.Memory.{entry_of}
use Rattle.ras_firmware.proofs.entries.entries_of.Given as goal

abbrev pub invariant-loop-view : goal.invariant-loop-view
invariant-loop-view l = l.entries.items ≡ map entry_of (take l.view-index l.fn.views)
