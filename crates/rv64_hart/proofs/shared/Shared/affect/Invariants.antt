use Rattle.std.proofs.Common.{◌≡◌}
use Rattle.rv64_hart.specs.Harts.{affected}
use Rattle.rv64_hart.proofs.HartsLemmas.{map_first}
use Rattle.rv64_hart.proofs.shared.Shared.affect.Given as goal

-- the first harts are as the effect leaves them
abbrev pub invariant-loop-hart : goal.invariant-loop-hart
invariant-loop-hart g l = l.hart-items ≡ map_first (affected l.acting l.effect) l.hart-index l.fn.self.waiting
