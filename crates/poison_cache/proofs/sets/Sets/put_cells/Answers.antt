use Rattle.std.proofs.Common.{◌≡◌, ◌∙◌, ◌*◌, ◌%◌, ◌<◌, Some, None, true, length, sym, ap, subst, arith, slice_index}
use Rattle.std.specs.Option.{is_some}
use Rattle.std.proofs.lemmas.List.{with_items_is}
use Rattle.poison_cache.specs.declared.ways.Flag.TheVariants.{Dirty}
use Rattle.poison_cache.specs.Recent.{with_cells}
use Rattle.poison_cache.specs.Ranks.{IsPromoted}
use Rattle.poison_cache.specs.Ways.{IsWayOf}
use Rattle.poison_cache.specs.Sets.{Arrays, entry_in, AreSets, lists_of}
use Rattle.poison_cache.proofs.Updates.{missed, hit, hit_entry, hit_sets, hit_lists, rewritten, rewritten_all, rewritten_at, rewritten_other}
use Rattle.poison_cache.proofs.Hits.{lists_stay}
use Rattle.poison_cache.proofs.sets.Sets.put_cells.Goals as goal

pub invariant_of-self : goal.invariant_of-self
invariant_of-self g c =
    let i = c.self.inside in
    let a : Arrays = record { lines = i.lines.items; flags = i.flags.items; ranks = i.ranks.items; cells = i.cells.items } in
    let way = c.in-Some.way in
    let b : Arrays = rewritten a way Dirty c.args.cells.now c.promote.new.ranks in
    let found : IsWayOf a.lines a.flags (c.args.l % g.row.SETS * g.row.WAYS) g.row.WAYS c.args.l (Some way) =
    rw (c.deref.ensures.value, c.deref-2.ensures.value, c.first_way-first.ensures.first) at c.in-Some.ensures in
    let promoted : IsPromoted a.ranks b.ranks (c.args.l % g.row.SETS * g.row.WAYS) g.row.WAYS (slice_index a.ranks way) =
    rw (c.deref_mut.ensures.value, c.first_way-first.ensures.first) at c.promote.ensures in
    let whole : length c.promote.new.ranks ≡ i.ranks.len = c.promote.auto.ranks ∙ c.deref_mut.ensures.len in
    let all = c.self.invariant.all in
    let inside : way < g.row.SETS * g.row.WAYS = (let low = found.1 in let fits = c.first_way-first.ensures.inside in let first = c.first_way-first.ensures.first in omega arith) in
    let it = hit g.row.SETS g.row.WAYS c.args.l a c.args.self.now c.self.view_is c.self.invariant way found in
    let front : entry_in b way ≡ Some (with_cells it.0 c.args.cells.now) =
    rewritten_at (g.row.SETS * g.row.WAYS) a way Dirty 0 c.args.cells.now c.promote.new.ranks all inside
    ∙ ap (λ n. Some (with_cells (record { line = n; dirty = true; cells = c.args.cells.now }) c.args.cells.now)) (sym it.3) in
    subst (λ r. AreSets g.row.SETS g.row.WAYS (rewritten a way Dirty c.args.cells.now r)) (sym (with_items_is i.ranks c.promote.new.ranks whole))
    (hit_sets g.row.SETS g.row.WAYS c.args.l a c.args.self.now c.self.view_is c.self.invariant way found b (λ h. with_cells h c.args.cells.now) promoted front
    (rewritten_other (g.row.SETS * g.row.WAYS) a way Dirty 0 c.args.cells.now c.promote.new.ranks all) it.2
    (rewritten_all (g.row.SETS * g.row.WAYS) a way Dirty 0 c.args.cells.now c.promote.new.ranks all (c.promote.auto.ranks ∙ ap length c.deref_mut.ensures.value ∙ all.ranks)))

pub returns-in-Some-clause-held : goal.returns-in-Some-clause-held
returns-in-Some-clause-held g c =
    let i = c.self.inside in
    let a : Arrays = record { lines = i.lines.items; flags = i.flags.items; ranks = i.ranks.items; cells = i.cells.items } in
    let found : IsWayOf a.lines a.flags (c.args.l % g.row.SETS * g.row.WAYS) g.row.WAYS c.args.l (Some c.in-Some.way) =
    rw (c.deref.ensures.value, c.deref-2.ensures.value, c.first_way-first.ensures.first) at c.in-Some.ensures in
    sym (ap (λ (entry : _). is_some entry) (hit_entry g.row.SETS g.row.WAYS c.args.l a c.args.self.now c.self.view_is c.self.invariant c.in-Some.way found))

pub returns-in-Some-clause-after : goal.returns-in-Some-clause-after
returns-in-Some-clause-after g c =
    let i = c.self.inside in
    let a : Arrays = record { lines = i.lines.items; flags = i.flags.items; ranks = i.ranks.items; cells = i.cells.items } in
    let way = c.in-Some.way in
    let b : Arrays = rewritten a way Dirty c.args.cells.now c.promote.new.ranks in
    let found : IsWayOf a.lines a.flags (c.args.l % g.row.SETS * g.row.WAYS) g.row.WAYS c.args.l (Some way) =
    rw (c.deref.ensures.value, c.deref-2.ensures.value, c.first_way-first.ensures.first) at c.in-Some.ensures in
    let promoted : IsPromoted a.ranks b.ranks (c.args.l % g.row.SETS * g.row.WAYS) g.row.WAYS (slice_index a.ranks way) =
    rw (c.deref_mut.ensures.value, c.first_way-first.ensures.first) at c.promote.ensures in
    let whole : length c.promote.new.ranks ≡ i.ranks.len = c.promote.auto.ranks ∙ c.deref_mut.ensures.len in
    let all = c.self.invariant.all in
    let inside : way < g.row.SETS * g.row.WAYS = (let low = found.1 in let fits = c.first_way-first.ensures.inside in let first = c.first_way-first.ensures.first in omega arith) in
    let it = hit g.row.SETS g.row.WAYS c.args.l a c.args.self.now c.self.view_is c.self.invariant way found in
    let front : entry_in b way ≡ Some (with_cells it.0 c.args.cells.now) =
    rewritten_at (g.row.SETS * g.row.WAYS) a way Dirty 0 c.args.cells.now c.promote.new.ranks all inside
    ∙ ap (λ n. Some (with_cells (record { line = n; dirty = true; cells = c.args.cells.now }) c.args.cells.now)) (sym it.3) in
    ap (λ r. lists_of g.row.SETS g.row.WAYS (rewritten a way Dirty c.args.cells.now r)) (with_items_is i.ranks c.promote.new.ranks whole)
    ∙ hit_lists g.row.SETS g.row.WAYS c.args.l a c.args.self.now c.self.view_is c.self.invariant way found b (λ h. with_cells h c.args.cells.now) promoted front
    (rewritten_other (g.row.SETS * g.row.WAYS) a way Dirty 0 c.args.cells.now c.promote.new.ranks all)

pub returns-in-None-clause-held : goal.returns-in-None-clause-held
returns-in-None-clause-held g c =
    let i = c.self.inside in
    let a : Arrays = record { lines = i.lines.items; flags = i.flags.items; ranks = i.ranks.items; cells = i.cells.items } in
    let none : IsWayOf a.lines a.flags (c.args.l % g.row.SETS * g.row.WAYS) g.row.WAYS c.args.l None =
    rw (c.deref.ensures.value, c.deref-2.ensures.value, c.first_way-first.ensures.first) at c.in-None.ensures in
    rw (missed g.row.SETS g.row.WAYS c.args.l a c.args.self.now c.self.view_is c.self.invariant none)

pub returns-in-None-clause-after : goal.returns-in-None-clause-after
returns-in-None-clause-after g c =
    let i = c.self.inside in
    let a : Arrays = record { lines = i.lines.items; flags = i.flags.items; ranks = i.ranks.items; cells = i.cells.items } in
    let none : IsWayOf a.lines a.flags (c.args.l % g.row.SETS * g.row.WAYS) g.row.WAYS c.args.l None =
    rw (c.deref.ensures.value, c.deref-2.ensures.value, c.first_way-first.ensures.first) at c.in-None.ensures in
    sym (lists_stay c.args.self.now (c.args.l % g.row.SETS) c.args.l (λ h. with_cells h c.args.cells.now) _ (missed g.row.SETS g.row.WAYS c.args.l a c.args.self.now c.self.view_is c.self.invariant none))
