use Rattle.std.proofs.Common.{◌∙◌, ◌%◌, ◌/◌, [], ap, slice_index_or, slice_set}
use Rattle.poison_cache.specs.Recent.{entry_of}
use Rattle.poison_cache.specs.Cache.{get_in, store_in}
use Rattle.poison_cache.proofs.Hits.{store_miss_entries}
use Rattle.poison_cache.proofs.cache.store_missed.Goals as goal

pub returns-clause-sets : goal.returns-clause-sets
unfolding get_in store_in
returns-clause-sets g c =
    (rw (c.set.ensures, c.merge.ensures, c.cell.ensures) at c.put_first.ensures)
    ∙ ap (λ es. slice_set c.args.sets.now (c.args.w / 8 % g.row.SETS) es)
    (store_miss_entries g.M.LineMem.level c.args.log_to g.row.WAYS (slice_index_or c.args.sets.now (c.args.w / 8 % g.row.SETS) []) c.args.below.now c.args.w c.args.v c.args.mask
    (entry_of (c.args.w / 8) (slice_index_or c.args.sets.now (c.args.w / 8 % g.row.SETS) [])) _ c.requires.absent c.fetch-cells.ensures.cells)

pub returns-clause-below : goal.returns-clause-below
unfolding get_in store_in
returns-clause-below g c = rw c.requires.absent c.fetch-cells.ensures.below

pub returns-clause-events : goal.returns-clause-events
unfolding get_in store_in
returns-clause-events g c = rw c.requires.absent c.fetch-cells.ensures.events
