use Rattle.std.proofs.Common.{◌≡◌}
use Rattle.poison_mem.specs.Bus.{logged_all}
use Rattle.poison_cache.specs.Cache.{poison_events}
use Rattle.poison_cache.proofs.eviction.log_poison.Given as goal

-- the events of the words so far
abbrev pub invariant-loop-i : goal.invariant-loop-i
invariant-loop-i g l = l.g ≡ logged_all g.G.EventLog.logged l.initial.g (poison_events l.log_to l.held.line l.held.cells l.i)
