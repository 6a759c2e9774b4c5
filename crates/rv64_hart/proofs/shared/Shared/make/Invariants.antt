use Rattle.std.proofs.Common.{◌≡◌}
use Rattle.rv64_hart.specs.Harts.{stopped_from}
use Rattle.rv64_hart.proofs.shared.Shared.make.Given as goal

-- the harts so far
abbrev pub invariant-loop-id : goal.invariant-loop-id
invariant-loop-id g l = l.waiting.items ≡ stopped_from 0 l.id l.entry
