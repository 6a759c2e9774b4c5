use Rattle.std.proofs.Common.{ℕ, ◌≡◌, ◌∙◌, ◌*◌, ◌%◌, ◌<◌, Option, Some, None, true, length, sym, ap, subst, arith, slice_index}
use Rattle.std.specs.Option.{is_some}
use Rattle.std.proofs.lemmas.List.{with_items_is, get_or_read}
use Rattle.poison_mem.specs.declared.line.Line.{Line}
use Rattle.poison_mem.specs.declared.cache_state.Held.{Held}
use Rattle.poison_mem.specs.Line.{cell, with_cell}
use Rattle.poison_mem.specs.Merge.{merged_cell}
use Rattle.poison_cache.specs.declared.ways.Flag.TheVariants.{Dirty}
use Rattle.poison_cache.specs.Recent.{stored_into}
use Rattle.poison_cache.specs.Ranks.{IsPromoted}
use Rattle.poison_cache.specs.Ways.{IsWayOf}
use Rattle.poison_cache.specs.Sets.{Arrays, no_cells, entry_in, AreSets, lists_of}
use Rattle.poison_cache.proofs.Updates.{missed, hit, hit_entry, hit_sets, hit_lists, rewritten, rewritten_all, rewritten_at, rewritten_other}
use Rattle.poison_cache.proofs.Hits.{lists_stay}
use Rattle.poison_cache.proofs.sets.Sets.store_cell.Goals as goal

abbrev dirty_entry : ℕ → Line → Option Held
dirty_entry line cells = Some (record { line = line; dirty = true; cells = cells })

pub invariant_of-self : goal.invariant_of-self
invariant_of-self g c =
    let i = c.self.inside in
    let a : Arrays = record { lines = i.lines.items; flags = i.flags.items; ranks = i.ranks.items; cells = i.cells.items } in
    let way = c.in-Some.way in
    let b : Arrays = rewritten a way Dirty c.set.new.self c.promote.new.ranks in
    let found : IsWayOf a.lines a.flags (c.args.l % g.row.SETS * g.row.WAYS) g.row.WAYS c.args.l (Some way) =
    rw (c.deref.ensures.value, c.deref-2.ensures.value, c.first_way-first.ensures.first) at c.in-Some.ensures in
    let promoted : IsPromoted a.ranks b.ranks (c.args.l % g.row.SETS * g.row.WAYS) g.row.WAYS (slice_index a.ranks way) =
    rw (c.deref_mut.ensures.value, c.first_way-first.ensures.first) at c.promote.ensures in
    let whole : length c.promote.new.ranks ≡ i.ranks.len = c.promote.auto.ranks ∙ c.deref_mut.ensures.len in
    let all = c.self.invariant.all in
    let inside : way < g.row.SETS * g.row.WAYS = (let low = found.1 in let fits = c.first_way-first.ensures.inside in let first = c.first_way-first.ensures.first in omega arith) in
    let it = hit g.row.SETS g.row.WAYS c.args.l a c.args.self.now c.self.view_is c.self.invariant way found in
    let old : c.index_mut-cells.result.now ≡ it.0.cells =
    get_or_read i.cells.items way c.index_mut-cells.result.now (omega (arith, all.cells)) c.index_mut-cells.ensures.value no_cells ∙ sym it.4 in
    let cells : c.set.new.self ≡ with_cell it.0.cells c.args.i (merged_cell (cell it.0.cells c.args.i) c.args.v c.args.mask) =
    c.set.ensures
    ∙ ap (λ x. with_cell c.index_mut-cells.result.now c.args.i x) (c.merge.ensures ∙ ap (λ x. merged_cell x c.args.v c.args.mask) c.cell.ensures)
    ∙ ap (λ (line : Line). with_cell line c.args.i (merged_cell (cell line c.args.i) c.args.v c.args.mask)) old in
    let front : entry_in b way ≡ Some (stored_into c.args.i c.args.v c.args.mask it.0) =
    rewritten_at (g.row.SETS * g.row.WAYS) a way Dirty 0 c.set.new.self c.promote.new.ranks all inside
    ∙ ap (λ n. dirty_entry n c.set.new.self) (sym it.3) ∙ ap (dirty_entry it.0.line) cells in
    subst (λ r. AreSets g.row.SETS g.row.WAYS (rewritten a way Dirty c.set.new.self r)) (sym (with_items_is i.ranks c.promote.new.ranks whole))
    (hit_sets g.row.SETS g.row.WAYS c.args.l a c.args.self.now c.self.view_is c.self.invariant way found b (stored_into c.args.i c.args.v c.args.mask) promoted front
    (rewritten_other (g.row.SETS * g.row.WAYS) a way Dirty 0 c.set.new.self c.promote.new.ranks all) it.2
    (rewritten_all (g.row.SETS * g.row.WAYS) a way Dirty 0 c.set.new.self c.promote.new.ranks all (c.promote.auto.ranks ∙ ap length c.deref_mut.ensures.value ∙ all.ranks)))

pub returns-in-Some-clause-held : goal.returns-in-Some-clause-held
returns-in-Some-clause-held g c =
    let i = c.self.inside in
    let a : Arrays = record { lines = i.lines.items; flags = i.flags.items; ranks = i.ranks.items; cells = i.cells.items } in
    let found : IsWayOf a.lines a.flags (c.args.l % g.row.SETS * g.row.WAYS) g.row.WAYS c.args.l (Some c.in-Some.way) =
    rw (c.deref.ensures.value, c.deref-2.ensures.value, c.first_way-first.ensures.first) at c.in-Some.ensures in
    sym (ap (λ (entry : _). is_some entry) (hit_entry g.row.SETS g.row.WAYS c.args.l a c.args.self.now c.self.view_is c.self.invariant c.in-Some.way found))

pub returns-in-Some-clause-after : goal.returns-in-Some-clause-after
returns-in-Some-clause-after g c =
    let i = c.self.inside in
    let a : Arrays = record { lines = i.lines.items; flags = i.flags.items; ranks = i.ranks.items; cells = i.cells.items } in
    let way = c.in-Some.way in
    let b : Arrays = rewritten a way Dirty c.set.new.self c.promote.new.ranks in
    let found : IsWayOf a.lines a.flags (c.args.l % g.row.SETS * g.row.WAYS) g.row.WAYS c.args.l (Some way) =
    rw (c.deref.ensures.value, c.deref-2.ensures.value, c.first_way-first.ensures.first) at c.in-Some.ensures in
    let promoted : IsPromoted a.ranks b.ranks (c.args.l % g.row.SETS * g.row.WAYS) g.row.WAYS (slice_index a.ranks way) =
    rw (c.deref_mut.ensures.value, c.first_way-first.ensures.first) at c.promote.ensures in
    let whole : length c.promote.new.ranks ≡ i.ranks.len = c.promote.auto.ranks ∙ c.deref_mut.ensures.len in
    let all = c.self.invariant.all in
    let inside : way < g.row.SETS * g.row.WAYS = (let low = found.1 in let fits = c.first_way-first.ensures.inside in let first = c.first_way-first.ensures.first in omega arith) in
    let it = hit g.row.SETS g.row.WAYS c.args.l a c.args.self.now c.self.view_is c.self.invariant way found in
    let old : c.index_mut-cells.result.now ≡ it.0.cells =
    get_or_read i.cells.items way c.index_mut-cells.result.now (omega (arith, all.cells)) c.index_mut-cells.ensures.value no_cells ∙ sym it.4 in
    let cells : c.set.new.self ≡ with_cell it.0.cells c.args.i (merged_cell (cell it.0.cells c.args.i) c.args.v c.args.mask) =
    c.set.ensures
    ∙ ap (λ x. with_cell c.index_mut-cells.result.now c.args.i x) (c.merge.ensures ∙ ap (λ x. merged_cell x c.args.v c.args.mask) c.cell.ensures)
    ∙ ap (λ (line : Line). with_cell line c.args.i (merged_cell (cell line c.args.i) c.args.v c.args.mask)) old in
    let front : entry_in b way ≡ Some (stored_into c.args.i c.args.v c.args.mask it.0) =
    rewritten_at (g.row.SETS * g.row.WAYS) a way Dirty 0 c.set.new.self c.promote.new.ranks all inside
    ∙ ap (λ n. dirty_entry n c.set.new.self) (sym it.3) ∙ ap (dirty_entry it.0.line) cells in
    ap (λ r. lists_of g.row.SETS g.row.WAYS (rewritten a way Dirty c.set.new.self r)) (with_items_is i.ranks c.promote.new.ranks whole)
    ∙ hit_lists g.row.SETS g.row.WAYS c.args.l a c.args.self.now c.self.view_is c.self.invariant way found b (stored_into c.args.i c.args.v c.args.mask) promoted front
    (rewritten_other (g.row.SETS * g.row.WAYS) a way Dirty 0 c.set.new.self c.promote.new.ranks all)

pub returns-in-None-clause-held : goal.returns-in-None-clause-held
returns-in-None-clause-held g c =
    let i = c.self.inside in
    let a : Arrays = record { lines = i.lines.items; flags = i.flags.items; ranks = i.ranks.items; cells = i.cells.items } in
    let none : IsWayOf a.lines a.flags (c.args.l % g.row.SETS * g.row.WAYS) g.row.WAYS c.args.l None =
    rw (c.deref.ensures.value, c.deref-2.ensures.value, c.first_way-first.ensures.first) at c.in-None.ensures in
    rw (missed g.row.SETS g.row.WAYS c.args.l a c.args.self.now c.self.view_is c.self.invariant none)

pub returns-in-None-clause-after : goal.returns-in-None-clause-after
returns-in-None-clause-after g c =
    let i = c.self.inside in
    let a : Arrays = record { lines = i.lines.items; flags = i.flags.items; ranks = i.ranks.items; cells = i.cells.items } in
    let none : IsWayOf a.lines a.flags (c.args.l % g.row.SETS * g.row.WAYS) g.row.WAYS c.args.l None =
    rw (c.deref.ensures.value, c.deref-2.ensures.value, c.first_way-first.ensures.first) at c.in-None.ensures in
    sym (lists_stay c.args.self.now (c.args.l % g.row.SETS) c.args.l (stored_into c.args.i c.args.v c.args.mask) _ (missed g.row.SETS g.row.WAYS c.args.l a c.args.self.now c.self.view_is c.self.invariant none))
