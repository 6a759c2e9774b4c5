use Rattle.std.proofs.Common.{◌≡◌}
use Rattle.mem_stack.specs.Stack.{loaded_stack}
use Rattle.ras_machine.proofs.Filled.{filled}
use Rattle.ras_machine.proofs.loading.stack_of.Given as goal

-- the first words so far
abbrev pub invariant-loop-w : goal.invariant-loop-w
invariant-loop-w l = l.stack ≡ loaded_stack (filled l.words l.w)
