use Rattle.std.proofs.Common.{lit<, ◌/◌}
use Rattle.poison_mem.specs.Level.{InRange}
use Rattle.poison_cache.specs.Cache.{cache_get}
use Rattle.poison_cache.specs.StandingLaws.{cache_keeps_lines}
use Rattle.poison_cache.proofs.SetLists.{line_in_range, set_in_range}
use Rattle.poison_cache.proofs.cache.Cache.read_word.Goals as goal

pub get_word-requires : goal.get_word-requires
get_word-requires g c = (
  lit< tt,
  (
    set_in_range g.M.LineMem.level g.row.SETS g.row.WAYS (c.args.w / 8) _ _ c.self.invariant.lists,
    line_in_range g.M.LineMem.level g.M.LineMem.valid g.M.LineMem.stands g.met.M.LineMem.keeps_lines _ c.args.w c.self.invariant.below (rw (← c.self.view_is) at c.requires),
  ),
)

pub invariant_of-self : goal.invariant_of-self
unfolding cache_get
invariant_of-self g c =
    let m = g.M.LineMem in
    let in_range : InRange m.level c.self.inside.below (c.args.w / 8) = line_in_range m.level m.valid m.stands g.met.M.LineMem.keeps_lines _ c.args.w c.self.invariant.below (rw (← c.self.view_is) at c.requires) in
    rw (c.get_word.ensures.sets, c.get_word.ensures.below)
    ((cache_keeps_lines m.level m.valid m.stands g.met.M.LineMem.keeps_words g.met.M.LineMem.keeps_lines g.row.SETS g.row.WAYS).get_valid _ (c.args.w / 8) c.self.invariant in_range)

pub returns-clause-cell : goal.returns-clause-cell
unfolding cache_get
returns-clause-cell g c = rw (← c.self.view_is) c.get_word.ensures.cell

pub returns-clause-after : goal.returns-clause-after
unfolding cache_get
returns-clause-after g c = rw (← c.self.view_is) (rw (c.get_word.ensures.sets, c.get_word.ensures.below))

pub returns-clause-events : goal.returns-clause-events
unfolding cache_get
returns-clause-events g c = rw (← c.self.view_is) c.get_word.ensures.events
