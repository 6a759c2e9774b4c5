use Rattle.std.proofs.Common.{◌≡◌, ◌∙◌, None, sym, ap}
use Rattle.poison_mem.specs.Bus.{logged_all}
use Rattle.poison_cache.specs.Recent.{dirty_victim_of, line_list}
use Rattle.poison_cache.proofs.Hits.{clean_room, none_held}
use Rattle.poison_cache.proofs.eviction.make_room.Goals as goal

pub returns-else-has_dirty_victim-clause-below : goal.returns-else-has_dirty_victim-clause-below
returns-else-has_dirty_victim-clause-below g c =
    let hs = line_list g.row.SETS c.args.sets.now c.args.l in
    let clean : dirty_victim_of g.row.WAYS hs ≡ None = none_held (dirty_victim_of g.row.WAYS hs) (sym c.has_dirty_victim.ensures ∙ c.if-has_dirty_victim.false) in
    sym (clean_room g.M.LineMem.level c.args.log_to g.row.WAYS hs c.args.below.now clean).0

pub returns-else-has_dirty_victim-clause-events : goal.returns-else-has_dirty_victim-clause-events
returns-else-has_dirty_victim-clause-events g c =
    let hs = line_list g.row.SETS c.args.sets.now c.args.l in
    let clean : dirty_victim_of g.row.WAYS hs ≡ None = none_held (dirty_victim_of g.row.WAYS hs) (sym c.has_dirty_victim.ensures ∙ c.if-has_dirty_victim.false) in
    ap (logged_all g.G.EventLog.logged c.args.g.now) (sym (clean_room g.M.LineMem.level c.args.log_to g.row.WAYS hs c.args.below.now clean).1)
