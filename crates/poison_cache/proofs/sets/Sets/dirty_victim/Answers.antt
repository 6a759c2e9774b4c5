use Rattle.std.proofs.Common.{ℕ, ◌≡◌, ◌∙◌, ◌+◌, ◌-◌, ◌*◌, ◌%◌, ◌<◌, Option, Some, true, sym, ap, arith, slice_index, slice_index_or}
use Rattle.std.proofs.lemmas.List.{get_or_read}
use Rattle.poison_mem.specs.declared.line.Line.{Line}
use Rattle.poison_mem.specs.declared.cache_state.Held.{Held}
use Rattle.poison_cache.specs.declared.ways.Flag.TheVariants.{Empty}
use Rattle.poison_cache.specs.Ranks.{way_of}
use Rattle.poison_cache.specs.Ways.{ranks_from}
use Rattle.poison_cache.specs.Sets.{Arrays, no_cells}
use Rattle.poison_cache.proofs.Updates.{victim_is, not_dirty, is_dirty}
use Rattle.poison_cache.proofs.sets.Sets.dirty_victim.Goals as goal

abbrev dirty_entry : ℕ → Line → Option Held
dirty_entry line cells = Some (record { line = line; dirty = true; cells = cells })

pub returns-in-Empty : goal.returns-in-Empty
returns-in-Empty g c =
    let i = c.self.inside in
    let a : Arrays = record { lines = i.lines.items; flags = i.flags.items; ranks = i.ranks.items; cells = i.cells.items } in
    let first = c.args.l % g.row.SETS * g.row.WAYS in
    let way = c.last_way-way.result in
    let way_is : way ≡ first + way_of (ranks_from a.ranks first) g.row.WAYS (g.row.WAYS - 1) =
    rw (c.deref.ensures.value, c.first_way-first.ensures.first) at c.last_way-way.ensures.way in
    let all = c.self.invariant.all in
    let inside : way < g.row.SETS * g.row.WAYS = (let low = c.last_way-way.ensures.inside in let fits = c.first_way-first.ensures.inside in omega arith) in
    let flag : c.index.result.now ≡ slice_index_or a.flags way Empty = get_or_read a.flags way c.index.result.now (omega (arith, all.flags)) c.index.ensures Empty in
    sym (victim_is g.row.SETS g.row.WAYS c.args.l a c.args.self.now c.self.view_is c.self.invariant way way_is
    ∙ not_dirty (slice_index_or a.flags way Empty) (slice_index a.lines way) (slice_index_or a.cells way no_cells) (rw flag at c.in-Empty.is))

pub returns-in-Dirty : goal.returns-in-Dirty
returns-in-Dirty g c =
    let i = c.self.inside in
    let a : Arrays = record { lines = i.lines.items; flags = i.flags.items; ranks = i.ranks.items; cells = i.cells.items } in
    let first = c.args.l % g.row.SETS * g.row.WAYS in
    let way = c.last_way-way.result in
    let way_is : way ≡ first + way_of (ranks_from a.ranks first) g.row.WAYS (g.row.WAYS - 1) =
    rw (c.deref.ensures.value, c.first_way-first.ensures.first) at c.last_way-way.ensures.way in
    let all = c.self.invariant.all in
    let inside : way < g.row.SETS * g.row.WAYS = (let low = c.last_way-way.ensures.inside in let fits = c.first_way-first.ensures.inside in omega arith) in
    let flag : c.index.result.now ≡ slice_index_or a.flags way Empty = get_or_read a.flags way c.index.result.now (omega (arith, all.flags)) c.index.ensures Empty in
    let line : c.index-in-Dirty.result.now ≡ slice_index a.lines way = get_or_read a.lines way c.index-in-Dirty.result.now (omega (arith, all.lines)) c.index-in-Dirty.ensures 0 in
    let cells : c.index-in-Dirty-2.result.now ≡ slice_index_or a.cells way no_cells =
    get_or_read a.cells way c.index-in-Dirty-2.result.now (omega (arith, all.cells)) c.index-in-Dirty-2.ensures no_cells in
    ap (λ n. dirty_entry n c.index-in-Dirty-2.result.now) line ∙ ap (dirty_entry (slice_index a.lines way)) cells
    ∙ sym (victim_is g.row.SETS g.row.WAYS c.args.l a c.args.self.now c.self.view_is c.self.invariant way way_is
    ∙ is_dirty (slice_index_or a.flags way Empty) (slice_index a.lines way) (slice_index_or a.cells way no_cells) (sym flag ∙ c.in-Dirty.is))
