use Rattle.std.proofs.Common.{lit<}
use Rattle.poison_mem.specs.Level.{InRange}
use Rattle.poison_cache.specs.Cache.{cache_get}
use Rattle.poison_cache.specs.StandingLaws.{cache_keeps_lines}
use Rattle.poison_cache.proofs.SetLists.{set_in_range}
use Rattle.poison_cache.proofs.cache.CacheLineMem.read_line.Goals as goal

pub get_line-requires : goal.get_line-requires
get_line-requires g c = (
  lit< tt,
  (
    set_in_range g.M.LineMem.level g.row.SETS g.row.WAYS c.args.l _ _ c.self.invariant.lists,
    rw (← c.self.view_is) at c.requires,
  ),
)

pub invariant_of-self : goal.invariant_of-self
unfolding cache_get
invariant_of-self g c =
    let m = g.M.LineMem in
    let in_range : InRange m.level c.self.inside.below c.args.l = rw (← c.self.view_is) at c.requires in
    rw (c.get_line.ensures.sets, c.get_line.ensures.below)
    ((cache_keeps_lines m.level m.valid m.stands g.met.M.LineMem.keeps_words g.met.M.LineMem.keeps_lines g.row.SETS g.row.WAYS).get_valid _ c.args.l c.self.invariant in_range)

pub returns-clause-cells : goal.returns-clause-cells
unfolding cache_get
returns-clause-cells g c = rw (← c.self.view_is) c.get_line.ensures.cells

pub returns-clause-after : goal.returns-clause-after
unfolding cache_get
returns-clause-after g c = rw (← c.self.view_is) (rw (c.get_line.ensures.sets, c.get_line.ensures.below))

pub returns-clause-events : goal.returns-clause-events
unfolding cache_get
returns-clause-events g c = rw (← c.self.view_is) c.get_line.ensures.events
