use Rattle.std.proofs.Common.{lit<}
use Rattle.poison_mem.specs.Level.{InRange}
use Rattle.poison_cache.specs.Cache.{cache_put}
use Rattle.poison_cache.specs.StandingLaws.{cache_keeps_lines}
use Rattle.poison_cache.proofs.SetLists.{set_in_range}
use Rattle.poison_cache.proofs.cache.CacheLineMem.put_line.Goals as goal

pub put_line-requires : goal.put_line-requires
put_line-requires g c = (
  lit< tt,
  (
    set_in_range g.M.LineMem.level g.row.SETS g.row.WAYS c.args.l _ _ c.self.invariant.lists,
    rw (← c.self.view_is) at c.requires,
  ),
)

pub invariant_of-self : goal.invariant_of-self
unfolding cache_put
invariant_of-self g c =
    let m = g.M.LineMem in
    let in_range : InRange m.level c.self.inside.below c.args.l = rw (← c.self.view_is) at c.requires in
    rw (c.put_line.ensures.sets, c.put_line.ensures.below)
    ((cache_keeps_lines m.level m.valid m.stands g.met.M.LineMem.keeps_words g.met.M.LineMem.keeps_lines g.row.SETS g.row.WAYS).put_valid _ c.args.l c.args.cells.now c.self.invariant in_range)

pub returns-clause-after : goal.returns-clause-after
unfolding cache_put
returns-clause-after g c = rw (← c.self.view_is) (rw (c.put_line.ensures.sets, c.put_line.ensures.below))

pub returns-clause-events : goal.returns-clause-events
unfolding cache_put
returns-clause-events g c = rw (← c.self.view_is) c.put_line.ensures.events
