use Rattle.std.proofs.Common.{◌≡◌}
use Rattle.ras_firmware.specs.Drain.{marked}
use Rattle.ras_firmware.specs.Notes.{AreNotes}
use Rattle.ras_firmware.proofs.States.{changed_first, notes_first}
use Rattle.ras_firmware.proofs.drain.marked_notes.Given as goal

abbrev pub invariant-loop-i : goal.invariant-loop-i
invariant-loop-i l = record {
  banks : l.banks ≡ changed_first (λ id. marked) l.i l.fn.banks;
  notes : l.notes ≡ notes_first l.i l.fn.banks;
  each : AreNotes l.notes;
}
