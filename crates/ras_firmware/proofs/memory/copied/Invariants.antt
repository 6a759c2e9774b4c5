use Rattle.std.proofs.Common.{◌≡◌, take}
use Rattle.ras_firmware.proofs.memory.copied.Given as goal

abbrev pub invariant-loop-view : goal.invariant-loop-view
invariant-loop-view l = l.copy.items ≡ take l.view-index l.fn.views
