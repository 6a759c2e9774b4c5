use Rattle.std.proofs.Common.{◌≡◌, ◌∙◌, ◌+◌, ◌-◌, ◌*◌, ◌%◌, ◌<◌, sym, ap, arith, slice_index, slice_index_or}
use Rattle.std.specs.Option.{is_some}
use Rattle.std.proofs.lemmas.List.{get_or_read}
use Rattle.poison_cache.specs.declared.ways.Flag.TheVariants.{Empty}
use Rattle.poison_cache.specs.Ranks.{way_of}
use Rattle.poison_cache.specs.Ways.{ranks_from}
use Rattle.poison_cache.specs.Sets.{Arrays, no_cells}
use Rattle.poison_cache.proofs.Updates.{victim_is, not_dirty, is_dirty}
use Rattle.poison_cache.proofs.sets.Sets.has_dirty_victim.Goals as goal

pub returns-in-Empty : goal.returns-in-Empty
returns-in-Empty g c =
    let i = c.self.inside in
    let a : Arrays = record { lines = i.lines.items; flags = i.flags.items; ranks = i.ranks.items; cells = i.cells.items } in
    let first = c.args.l % g.row.SETS * g.row.WAYS in
    let way = c.last_way-way.result in
    let way_is : way ≡ first + way_of (ranks_from a.ranks first) g.row.WAYS (g.row.WAYS - 1) =
    rw (c.deref.ensures.value, c.first_way-first.ensures.first) at c.last_way-way.ensures.way in
    let all = c.self.invariant.all in
    let inside : way < g.row.SETS * g.row.WAYS = (let low = c.last_way-way.ensures.inside in let fits = c.first_way-first.ensures.inside in omega arith) in
    let flag : c.index.result.now ≡ slice_index_or a.flags way Empty = get_or_read a.flags way c.index.result.now (omega (arith, all.flags)) c.index.ensures Empty in
    sym (ap is_some (victim_is g.row.SETS g.row.WAYS c.args.l a c.args.self.now c.self.view_is c.self.invariant way way_is
    ∙ not_dirty (slice_index_or a.flags way Empty) (slice_index a.lines way) (slice_index_or a.cells way no_cells) (rw flag at c.in-Empty.is)))

pub returns-in-Dirty : goal.returns-in-Dirty
returns-in-Dirty g c =
    let i = c.self.inside in
    let a : Arrays = record { lines = i.lines.items; flags = i.flags.items; ranks = i.ranks.items; cells = i.cells.items } in
    let first = c.args.l % g.row.SETS * g.row.WAYS in
    let way = c.last_way-way.result in
    let way_is : way ≡ first + way_of (ranks_from a.ranks first) g.row.WAYS (g.row.WAYS - 1) =
    rw (c.deref.ensures.value, c.first_way-first.ensures.first) at c.last_way-way.ensures.way in
    let all = c.self.invariant.all in
    let inside : way < g.row.SETS * g.row.WAYS = (let low = c.last_way-way.ensures.inside in let fits = c.first_way-first.ensures.inside in omega arith) in
    let flag : c.index.result.now ≡ slice_index_or a.flags way Empty = get_or_read a.flags way c.index.result.now (omega (arith, all.flags)) c.index.ensures Empty in
    sym (ap is_some (victim_is g.row.SETS g.row.WAYS c.args.l a c.args.self.now c.self.view_is c.self.invariant way way_is
    ∙ is_dirty (slice_index_or a.flags way Empty) (slice_index a.lines way) (slice_index_or a.cells way no_cells) (sym flag ∙ c.in-Dirty.is)))
