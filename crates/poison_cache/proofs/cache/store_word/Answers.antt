use Rattle.std.proofs.Common.{lit<, ◌≡◌, ◌∙◌, ◌%◌, ◌/◌, [], None, refl, sym, ap, slice_index_or, slice_set}
use Rattle.poison_cache.specs.Recent.{entry_of}
use Rattle.poison_cache.specs.Cache.{get_in, store_in}
use Rattle.poison_cache.proofs.Hits.{none_held, lists_stay, hit_below, hit_events, store_hit_entries}
use Rattle.poison_cache.proofs.cache.store_word.Goals as goal

pub store_missed-requires : goal.store_missed-requires
store_missed-requires g c =
    let missed : (entry_of (c.args.w / 8) (slice_index_or c.args.sets.now (c.args.w / 8 % g.row.SETS) [])) ≡ None = none_held (entry_of (c.args.w / 8) (slice_index_or c.args.sets.now (c.args.w / 8 % g.row.SETS) [])) (sym c.store_cell.ensures.held ∙ c.if-not-store_cell.true) in
    let same : c.store_cell.new.self ≡ c.args.sets.now = c.store_cell.ensures.after ∙ lists_stay c.args.sets.now (c.args.w / 8 % g.row.SETS) (c.args.w / 8) _ (entry_of (c.args.w / 8) (slice_index_or c.args.sets.now (c.args.w / 8 % g.row.SETS) [])) missed in
    (lit< tt, rw same (c.requires.range, (c.requires.line, missed)))

pub returns-then-not-store_cell-clause-sets : goal.returns-then-not-store_cell-clause-sets
returns-then-not-store_cell-clause-sets g c =
    let missed : (entry_of (c.args.w / 8) (slice_index_or c.args.sets.now (c.args.w / 8 % g.row.SETS) [])) ≡ None = none_held (entry_of (c.args.w / 8) (slice_index_or c.args.sets.now (c.args.w / 8 % g.row.SETS) [])) (sym c.store_cell.ensures.held ∙ c.if-not-store_cell.true) in
    let same : c.store_cell.new.self ≡ c.args.sets.now = c.store_cell.ensures.after ∙ lists_stay c.args.sets.now (c.args.w / 8 % g.row.SETS) (c.args.w / 8) _ (entry_of (c.args.w / 8) (slice_index_or c.args.sets.now (c.args.w / 8 % g.row.SETS) [])) missed in
    rw same at c.store_missed.ensures.sets

pub returns-then-not-store_cell-clause-below : goal.returns-then-not-store_cell-clause-below
returns-then-not-store_cell-clause-below g c =
    let missed : (entry_of (c.args.w / 8) (slice_index_or c.args.sets.now (c.args.w / 8 % g.row.SETS) [])) ≡ None = none_held (entry_of (c.args.w / 8) (slice_index_or c.args.sets.now (c.args.w / 8 % g.row.SETS) [])) (sym c.store_cell.ensures.held ∙ c.if-not-store_cell.true) in
    let same : c.store_cell.new.self ≡ c.args.sets.now = c.store_cell.ensures.after ∙ lists_stay c.args.sets.now (c.args.w / 8 % g.row.SETS) (c.args.w / 8) _ (entry_of (c.args.w / 8) (slice_index_or c.args.sets.now (c.args.w / 8 % g.row.SETS) [])) missed in
    rw same at c.store_missed.ensures.below

pub returns-then-not-store_cell-clause-events : goal.returns-then-not-store_cell-clause-events
returns-then-not-store_cell-clause-events g c =
    let missed : (entry_of (c.args.w / 8) (slice_index_or c.args.sets.now (c.args.w / 8 % g.row.SETS) [])) ≡ None = none_held (entry_of (c.args.w / 8) (slice_index_or c.args.sets.now (c.args.w / 8 % g.row.SETS) [])) (sym c.store_cell.ensures.held ∙ c.if-not-store_cell.true) in
    let same : c.store_cell.new.self ≡ c.args.sets.now = c.store_cell.ensures.after ∙ lists_stay c.args.sets.now (c.args.w / 8 % g.row.SETS) (c.args.w / 8) _ (entry_of (c.args.w / 8) (slice_index_or c.args.sets.now (c.args.w / 8 % g.row.SETS) [])) missed in
    rw same at c.store_missed.ensures.events

pub returns-else-not-store_cell-clause-sets : goal.returns-else-not-store_cell-clause-sets
unfolding get_in store_in
returns-else-not-store_cell-clause-sets g c =
    c.store_cell.ensures.after ∙ ap (λ es. slice_set c.args.sets.now (c.args.w / 8 % g.row.SETS) es) (store_hit_entries g.M.LineMem.level c.args.log_to g.row.WAYS (slice_index_or c.args.sets.now (c.args.w / 8 % g.row.SETS) []) c.args.below.now c.args.w c.args.v c.args.mask (entry_of (c.args.w / 8) (slice_index_or c.args.sets.now (c.args.w / 8 % g.row.SETS) [])) refl (sym c.store_cell.ensures.held ∙ c.if-not-store_cell.false))

pub returns-else-not-store_cell-clause-below : goal.returns-else-not-store_cell-clause-below
unfolding get_in store_in
returns-else-not-store_cell-clause-below g c = hit_below g.M.LineMem.level c.args.log_to g.row.WAYS (slice_index_or c.args.sets.now (c.args.w / 8 % g.row.SETS) []) c.args.below.now (c.args.w / 8) (entry_of (c.args.w / 8) (slice_index_or c.args.sets.now (c.args.w / 8 % g.row.SETS) [])) (sym c.store_cell.ensures.held ∙ c.if-not-store_cell.false)

pub returns-else-not-store_cell-clause-events : goal.returns-else-not-store_cell-clause-events
unfolding get_in store_in
returns-else-not-store_cell-clause-events g c = rw (hit_events g.M.LineMem.level c.args.log_to g.row.WAYS (slice_index_or c.args.sets.now (c.args.w / 8 % g.row.SETS) []) c.args.below.now (c.args.w / 8) (entry_of (c.args.w / 8) (slice_index_or c.args.sets.now (c.args.w / 8 % g.row.SETS) [])) (sym c.store_cell.ensures.held ∙ c.if-not-store_cell.false))
