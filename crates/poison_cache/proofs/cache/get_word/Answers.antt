use Rattle.std.proofs.Common.{lit<, ◌≡◌, ◌∙◌, ◌%◌, ◌/◌, [], None, ap, slice_index_or, slice_set}
use Rattle.poison_cache.specs.Recent.{entry_of}
use Rattle.poison_cache.specs.Cache.{get_in}
use Rattle.poison_cache.proofs.Hits.{none_found, some_found, lists_stay, hit_word, hit_entries, hit_below, hit_events}
use Rattle.poison_cache.proofs.cache.get_word.Goals as goal

pub returns-in-Some-clause-cell : goal.returns-in-Some-clause-cell
unfolding get_in
returns-in-Some-clause-cell g c = hit_word g.M.LineMem.level c.args.log_to g.row.WAYS (slice_index_or c.args.sets.now (c.args.w / 8 % g.row.SETS) []) c.args.below.now (c.args.w / 8) (c.args.w % 8) (entry_of (c.args.w / 8) (slice_index_or c.args.sets.now (c.args.w / 8 % g.row.SETS) [])) _ c.in-Some.ensures.cell

pub returns-in-Some-clause-sets : goal.returns-in-Some-clause-sets
unfolding get_in
returns-in-Some-clause-sets g c =
    c.in-Some.ensures.after ∙ ap (λ es. slice_set c.args.sets.now (c.args.w / 8 % g.row.SETS) es)
    (hit_entries g.M.LineMem.level c.args.log_to g.row.WAYS (slice_index_or c.args.sets.now (c.args.w / 8 % g.row.SETS) []) c.args.below.now (c.args.w / 8) (entry_of (c.args.w / 8) (slice_index_or c.args.sets.now (c.args.w / 8 % g.row.SETS) [])) (some_found _ (entry_of (c.args.w / 8) (slice_index_or c.args.sets.now (c.args.w / 8 % g.row.SETS) [])) _ c.in-Some.ensures.cell))

pub returns-in-Some-clause-below : goal.returns-in-Some-clause-below
unfolding get_in
returns-in-Some-clause-below g c = hit_below g.M.LineMem.level c.args.log_to g.row.WAYS (slice_index_or c.args.sets.now (c.args.w / 8 % g.row.SETS) []) c.args.below.now (c.args.w / 8) (entry_of (c.args.w / 8) (slice_index_or c.args.sets.now (c.args.w / 8 % g.row.SETS) [])) (some_found _ (entry_of (c.args.w / 8) (slice_index_or c.args.sets.now (c.args.w / 8 % g.row.SETS) [])) _ c.in-Some.ensures.cell)

pub returns-in-Some-clause-events : goal.returns-in-Some-clause-events
unfolding get_in
returns-in-Some-clause-events g c = rw (hit_events g.M.LineMem.level c.args.log_to g.row.WAYS (slice_index_or c.args.sets.now (c.args.w / 8 % g.row.SETS) []) c.args.below.now (c.args.w / 8) (entry_of (c.args.w / 8) (slice_index_or c.args.sets.now (c.args.w / 8 % g.row.SETS) [])) (some_found _ (entry_of (c.args.w / 8) (slice_index_or c.args.sets.now (c.args.w / 8 % g.row.SETS) [])) _ c.in-Some.ensures.cell))

pub fill_word-requires : goal.fill_word-requires
fill_word-requires g c =
    let missed : entry_of (c.args.w / 8) (slice_index_or c.args.sets.now (c.args.w / 8 % g.row.SETS) []) ≡ None = none_found _ (entry_of (c.args.w / 8) (slice_index_or c.args.sets.now (c.args.w / 8 % g.row.SETS) [])) c.in-None.ensures.cell in
    let same : c.read_cell.new.self ≡ c.args.sets.now = c.in-None.ensures.after ∙ lists_stay c.args.sets.now (c.args.w / 8 % g.row.SETS) (c.args.w / 8) _ (entry_of (c.args.w / 8) (slice_index_or c.args.sets.now (c.args.w / 8 % g.row.SETS) [])) missed in
    (lit< tt, rw same (c.requires.range, (c.requires.line, missed)))

pub returns-in-None-clause-cell : goal.returns-in-None-clause-cell
unfolding get_in
returns-in-None-clause-cell g c =
    let missed : entry_of (c.args.w / 8) (slice_index_or c.args.sets.now (c.args.w / 8 % g.row.SETS) []) ≡ None = none_found _ (entry_of (c.args.w / 8) (slice_index_or c.args.sets.now (c.args.w / 8 % g.row.SETS) [])) c.in-None.ensures.cell in
    let same : c.read_cell.new.self ≡ c.args.sets.now = c.in-None.ensures.after ∙ lists_stay c.args.sets.now (c.args.w / 8 % g.row.SETS) (c.args.w / 8) _ (entry_of (c.args.w / 8) (slice_index_or c.args.sets.now (c.args.w / 8 % g.row.SETS) [])) missed in
    rw missed (rw same at c.fill_word.ensures.cell)

pub returns-in-None-clause-sets : goal.returns-in-None-clause-sets
unfolding get_in
returns-in-None-clause-sets g c =
    let missed : entry_of (c.args.w / 8) (slice_index_or c.args.sets.now (c.args.w / 8 % g.row.SETS) []) ≡ None = none_found _ (entry_of (c.args.w / 8) (slice_index_or c.args.sets.now (c.args.w / 8 % g.row.SETS) [])) c.in-None.ensures.cell in
    let same : c.read_cell.new.self ≡ c.args.sets.now = c.in-None.ensures.after ∙ lists_stay c.args.sets.now (c.args.w / 8 % g.row.SETS) (c.args.w / 8) _ (entry_of (c.args.w / 8) (slice_index_or c.args.sets.now (c.args.w / 8 % g.row.SETS) [])) missed in
    rw missed (rw same at c.fill_word.ensures.sets)

pub returns-in-None-clause-below : goal.returns-in-None-clause-below
unfolding get_in
returns-in-None-clause-below g c =
    let missed : entry_of (c.args.w / 8) (slice_index_or c.args.sets.now (c.args.w / 8 % g.row.SETS) []) ≡ None = none_found _ (entry_of (c.args.w / 8) (slice_index_or c.args.sets.now (c.args.w / 8 % g.row.SETS) [])) c.in-None.ensures.cell in
    let same : c.read_cell.new.self ≡ c.args.sets.now = c.in-None.ensures.after ∙ lists_stay c.args.sets.now (c.args.w / 8 % g.row.SETS) (c.args.w / 8) _ (entry_of (c.args.w / 8) (slice_index_or c.args.sets.now (c.args.w / 8 % g.row.SETS) [])) missed in
    rw missed (rw same at c.fill_word.ensures.below)

pub returns-in-None-clause-events : goal.returns-in-None-clause-events
unfolding get_in
returns-in-None-clause-events g c =
    let missed : entry_of (c.args.w / 8) (slice_index_or c.args.sets.now (c.args.w / 8 % g.row.SETS) []) ≡ None = none_found _ (entry_of (c.args.w / 8) (slice_index_or c.args.sets.now (c.args.w / 8 % g.row.SETS) [])) c.in-None.ensures.cell in
    let same : c.read_cell.new.self ≡ c.args.sets.now = c.in-None.ensures.after ∙ lists_stay c.args.sets.now (c.args.w / 8 % g.row.SETS) (c.args.w / 8) _ (entry_of (c.args.w / 8) (slice_index_or c.args.sets.now (c.args.w / 8 % g.row.SETS) [])) missed in
    rw missed (rw same at c.fill_word.ensures.events)
