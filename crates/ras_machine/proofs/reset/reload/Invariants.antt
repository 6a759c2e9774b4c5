use Rattle.ras_machine.proofs.Resets.{LoadedTo}
use Rattle.ras_machine.proofs.reset.reload.Given as goal

abbrev pub invariant-loop-w : goal.invariant-loop-w
invariant-loop-w l = LoadedTo l.words l.w l.stack
