use Rattle.std.proofs.Common.{lit<, ◌≡◌, ◌∙◌, ◌%◌, [], None, refl, sym, ap, slice_index_or, slice_set}
use Rattle.poison_cache.specs.Recent.{entry_of}
use Rattle.poison_cache.specs.Cache.{put_in}
use Rattle.poison_cache.proofs.Hits.{none_held, lists_stay, put_hit_entries, put_hit_below, put_hit_events, put_miss_entries}
use Rattle.poison_cache.proofs.cache.put_line.Goals as goal

pub put_first-requires : goal.put_first-requires
put_first-requires g c =
    let missed : entry_of c.args.l (slice_index_or c.args.sets.now (c.args.l % g.row.SETS) []) ≡ None = none_held (entry_of c.args.l (slice_index_or c.args.sets.now (c.args.l % g.row.SETS) [])) (sym c.put_cells.ensures.held ∙ c.if-not-put_cells.true) in
    let same : c.put_cells.new.self ≡ c.args.sets.now = c.put_cells.ensures.after ∙ lists_stay c.args.sets.now (c.args.l % g.row.SETS) c.args.l _ (entry_of c.args.l (slice_index_or c.args.sets.now (c.args.l % g.row.SETS) [])) missed in
    (lit< tt, rw (same, missed))

pub returns-then-not-put_cells-clause-sets : goal.returns-then-not-put_cells-clause-sets
unfolding put_in
returns-then-not-put_cells-clause-sets g c =
    let missed : (entry_of c.args.l (slice_index_or c.args.sets.now (c.args.l % g.row.SETS) [])) ≡ None = none_held (entry_of c.args.l (slice_index_or c.args.sets.now (c.args.l % g.row.SETS) [])) (sym c.put_cells.ensures.held ∙ c.if-not-put_cells.true) in
    let same : c.put_cells.new.self ≡ c.args.sets.now = c.put_cells.ensures.after ∙ lists_stay c.args.sets.now (c.args.l % g.row.SETS) c.args.l _ (entry_of c.args.l (slice_index_or c.args.sets.now (c.args.l % g.row.SETS) [])) missed in
    (rw same at c.put_first.ensures) ∙ ap (λ es. slice_set c.args.sets.now (c.args.l % g.row.SETS) es) (put_miss_entries g.M.LineMem.level c.args.log_to g.row.WAYS (slice_index_or c.args.sets.now (c.args.l % g.row.SETS) []) c.args.below.now c.args.l c.args.cells.now (entry_of c.args.l (slice_index_or c.args.sets.now (c.args.l % g.row.SETS) [])) missed)

pub returns-then-not-put_cells-clause-below : goal.returns-then-not-put_cells-clause-below
unfolding put_in
returns-then-not-put_cells-clause-below g c =
    let missed : (entry_of c.args.l (slice_index_or c.args.sets.now (c.args.l % g.row.SETS) [])) ≡ None = none_held (entry_of c.args.l (slice_index_or c.args.sets.now (c.args.l % g.row.SETS) [])) (sym c.put_cells.ensures.held ∙ c.if-not-put_cells.true) in
    let same : c.put_cells.new.self ≡ c.args.sets.now = c.put_cells.ensures.after ∙ lists_stay c.args.sets.now (c.args.l % g.row.SETS) c.args.l _ (entry_of c.args.l (slice_index_or c.args.sets.now (c.args.l % g.row.SETS) [])) missed in
    rw missed (rw same at c.make_room.ensures.below)

pub returns-then-not-put_cells-clause-events : goal.returns-then-not-put_cells-clause-events
unfolding put_in
returns-then-not-put_cells-clause-events g c =
    let missed : (entry_of c.args.l (slice_index_or c.args.sets.now (c.args.l % g.row.SETS) [])) ≡ None = none_held (entry_of c.args.l (slice_index_or c.args.sets.now (c.args.l % g.row.SETS) [])) (sym c.put_cells.ensures.held ∙ c.if-not-put_cells.true) in
    let same : c.put_cells.new.self ≡ c.args.sets.now = c.put_cells.ensures.after ∙ lists_stay c.args.sets.now (c.args.l % g.row.SETS) c.args.l _ (entry_of c.args.l (slice_index_or c.args.sets.now (c.args.l % g.row.SETS) [])) missed in
    rw missed (rw same at c.make_room.ensures.events)

pub returns-else-not-put_cells-clause-sets : goal.returns-else-not-put_cells-clause-sets
unfolding put_in
returns-else-not-put_cells-clause-sets g c =
    c.put_cells.ensures.after ∙ ap (λ es. slice_set c.args.sets.now (c.args.l % g.row.SETS) es) (put_hit_entries g.M.LineMem.level c.args.log_to g.row.WAYS (slice_index_or c.args.sets.now (c.args.l % g.row.SETS) []) c.args.below.now c.args.l c.args.cells.now (entry_of c.args.l (slice_index_or c.args.sets.now (c.args.l % g.row.SETS) [])) refl (sym c.put_cells.ensures.held ∙ c.if-not-put_cells.false))

pub returns-else-not-put_cells-clause-below : goal.returns-else-not-put_cells-clause-below
unfolding put_in
returns-else-not-put_cells-clause-below g c = put_hit_below g.M.LineMem.level c.args.log_to g.row.WAYS (slice_index_or c.args.sets.now (c.args.l % g.row.SETS) []) c.args.below.now c.args.l c.args.cells.now (entry_of c.args.l (slice_index_or c.args.sets.now (c.args.l % g.row.SETS) [])) (sym c.put_cells.ensures.held ∙ c.if-not-put_cells.false)

pub returns-else-not-put_cells-clause-events : goal.returns-else-not-put_cells-clause-events
unfolding put_in
returns-else-not-put_cells-clause-events g c = rw (put_hit_events g.M.LineMem.level c.args.log_to g.row.WAYS (slice_index_or c.args.sets.now (c.args.l % g.row.SETS) []) c.args.below.now c.args.l c.args.cells.now (entry_of c.args.l (slice_index_or c.args.sets.now (c.args.l % g.row.SETS) [])) (sym c.put_cells.ensures.held ∙ c.if-not-put_cells.false))
