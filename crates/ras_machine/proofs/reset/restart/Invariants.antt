use Rattle.std.proofs.Common.{◌≡◌, length}
use Rattle.ras_machine.proofs.Resets.{RestartedTo}
use Rattle.ras_machine.proofs.reset.restart.Given as goal

abbrev pub invariant-loop-i : goal.invariant-loop-i
invariant-loop-i l = record {
  memory : l.harts.memory ≡ l.fn.harts.memory;
  first : RestartedTo l.harts.harts (length l.fn.harts.harts) l.entry l.i;
}
