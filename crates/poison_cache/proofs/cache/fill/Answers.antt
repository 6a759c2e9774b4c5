use Rattle.std.proofs.Common.{◌%◌, ◌∙◌, [], None, refl, ap, slice_index_or, slice_set}
use Rattle.poison_cache.proofs.Hits.{miss_entries}
use Rattle.poison_cache.proofs.cache.fill.Goals as goal

pub returns-clause-sets : goal.returns-clause-sets
returns-clause-sets g c =
    c.put_first.ensures ∙ ap (slice_set c.args.sets.now (c.args.l % g.row.SETS))
    (miss_entries g.M.LineMem.level c.args.log_to g.row.WAYS (slice_index_or c.args.sets.now (c.args.l % g.row.SETS) []) c.args.below.now c.args.l None c.fetch-cells.result refl c.fetch-cells.ensures.cells)
