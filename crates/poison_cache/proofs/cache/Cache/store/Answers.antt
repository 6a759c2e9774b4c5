use Rattle.std.proofs.Common.{lit<, ◌/◌}
use Rattle.poison_mem.specs.Level.{InRange}
use Rattle.poison_cache.specs.Cache.{cache_store}
use Rattle.poison_cache.specs.StandingLaws.{store-keeps, store-valid}
use Rattle.poison_cache.proofs.SetLists.{line_in_range, set_in_range}
use Rattle.poison_cache.proofs.cache.Cache.store.Goals as goal

pub store_word-requires : goal.store_word-requires
store_word-requires g c = (
  lit< tt,
  (
    set_in_range g.M.LineMem.level g.row.SETS g.row.WAYS (c.args.w / 8) _ _ c.self.invariant.lists,
    line_in_range g.M.LineMem.level g.M.LineMem.valid g.M.LineMem.stands g.met.M.LineMem.keeps_lines _ c.args.w c.self.invariant.below (rw (← c.self.view_is) at c.requires),
  ),
)

pub invariant_of-self : goal.invariant_of-self
unfolding cache_store
invariant_of-self g c =
    let m = g.M.LineMem in
    let in_range : InRange m.level c.self.inside.below (c.args.w / 8) = line_in_range m.level m.valid m.stands g.met.M.LineMem.keeps_lines _ c.args.w c.self.invariant.below (rw (← c.self.view_is) at c.requires) in
    rw (c.store_word.ensures.sets, c.store_word.ensures.below)
    (store-valid m.level m.valid m.stands g.met.M.LineMem.keeps_words g.met.M.LineMem.keeps_lines g.row.SETS g.row.WAYS _ c.args.w c.args.v c.args.mask c.self.invariant in_range)

pub returns-clause-after : goal.returns-clause-after
unfolding cache_store
returns-clause-after g c = rw (← c.self.view_is) (rw (c.store_word.ensures.sets, c.store_word.ensures.below))

pub returns-clause-events : goal.returns-clause-events
unfolding cache_store
returns-clause-events g c = rw (← c.self.view_is) c.store_word.ensures.events

pub returns-clause-kept : goal.returns-clause-kept
unfolding cache_store
returns-clause-kept g c =
    let m = g.M.LineMem in
    let in_range : InRange m.level c.self.inside.below (c.args.w / 8) = line_in_range m.level m.valid m.stands g.met.M.LineMem.keeps_lines _ c.args.w c.self.invariant.below (rw (← c.self.view_is) at c.requires) in
    rw (← c.self.view_is, c.store_word.ensures.sets, c.store_word.ensures.below)
    (store-keeps m.level m.valid m.stands g.met.M.LineMem.keeps_words g.met.M.LineMem.keeps_lines g.row.SETS g.row.WAYS _ c.args.w c.args.v c.args.mask c.self.invariant in_range)
