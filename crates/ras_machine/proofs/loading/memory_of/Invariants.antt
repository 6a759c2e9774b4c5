use Rattle.std.proofs.Common.{◌≡◌}
use Rattle.ras_machine.proofs.Filled.{filled}
use Rattle.ras_machine.proofs.loading.memory_of.Given as goal

-- the first words so far
abbrev pub invariant-loop-w : goal.invariant-loop-w
invariant-loop-w l = l.memory ≡ filled l.words l.w
