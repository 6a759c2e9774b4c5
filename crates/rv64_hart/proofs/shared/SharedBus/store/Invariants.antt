use Rattle.std.proofs.Common.{◌≡◌}
use Rattle.rv64_hart.specs.State.{saw_store}
use Rattle.rv64_hart.proofs.HartsLemmas.{map_first}
use Rattle.rv64_hart.proofs.shared.SharedBus.store.Given as goal

-- the first harts have seen the store
abbrev pub invariant-loop-hart : goal.invariant-loop-hart
invariant-loop-hart g l = l.hart-items ≡ map_first (saw_store l.w) l.hart-index l.fn.self.waiting
