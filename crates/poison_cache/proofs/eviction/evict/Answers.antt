use Rattle.std.proofs.Common.{◌%◌, ◌∙◌, [], sym, ap, slice_index_or}
use Rattle.poison_mem.specs.Bus.{logged_all}
use Rattle.poison_cache.proofs.Hits.{dirty_room, clean_room}
use Rattle.poison_cache.proofs.eviction.evict.Goals as goal

pub returns-in-Some-clause-below : goal.returns-in-Some-clause-below
returns-in-Some-clause-below g c =
    c.write_back.ensures.after ∙ sym (dirty_room g.M.LineMem.level c.args.log_to g.row.WAYS (slice_index_or c.args.sets.now (c.args.l % g.row.SETS) []) c.args.below.now c.in-Some.victim (sym c.in-Some.ensures)).0

pub returns-in-Some-clause-events : goal.returns-in-Some-clause-events
returns-in-Some-clause-events g c =
    c.write_back.ensures.events
    ∙ ap (logged_all g.G.EventLog.logged c.args.g.now)
    (sym (dirty_room g.M.LineMem.level c.args.log_to g.row.WAYS (slice_index_or c.args.sets.now (c.args.l % g.row.SETS) []) c.args.below.now c.in-Some.victim (sym c.in-Some.ensures)).1)

pub returns-in-None-clause-below : goal.returns-in-None-clause-below
returns-in-None-clause-below g c = sym (clean_room g.M.LineMem.level c.args.log_to g.row.WAYS (slice_index_or c.args.sets.now (c.args.l % g.row.SETS) []) c.args.below.now (sym c.in-None.ensures)).0

pub returns-in-None-clause-events : goal.returns-in-None-clause-events
returns-in-None-clause-events g c =
    ap (logged_all g.G.EventLog.logged c.args.g.now)
    (sym (clean_room g.M.LineMem.level c.args.log_to g.row.WAYS (slice_index_or c.args.sets.now (c.args.l % g.row.SETS) []) c.args.below.now (sym c.in-None.ensures)).1)
