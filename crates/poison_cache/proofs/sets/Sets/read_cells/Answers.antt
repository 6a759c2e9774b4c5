use Rattle.std.proofs.Common.{◌≡◌, ◌∙◌, ◌*◌, ◌%◌, Some, None, length, refl, sym, ap, subst, arith, slice_index}
use Rattle.std.specs.Option.{option_map}
use Rattle.std.proofs.lemmas.List.{with_items_is, get_or_read}
use Rattle.poison_mem.specs.declared.cache_state.Held.{Held}
use Rattle.poison_cache.specs.Ranks.{IsPromoted}
use Rattle.poison_cache.specs.Ways.{IsWayOf}
use Rattle.poison_cache.specs.Sets.{Arrays, no_cells, AreSets, lists_of}
use Rattle.poison_cache.proofs.Updates.{missed, hit, hit_entry, hit_sets, hit_lists}
use Rattle.poison_cache.proofs.Hits.{lists_stay}
use Rattle.poison_cache.proofs.sets.Sets.read_cells.Goals as goal

pub invariant_of-self : goal.invariant_of-self
invariant_of-self g c =
    let i = c.self.inside in
    let a : Arrays = record { lines = i.lines.items; flags = i.flags.items; ranks = i.ranks.items; cells = i.cells.items } in
    let b : Arrays = record { lines = i.lines.items; flags = i.flags.items; ranks = c.promote.new.ranks; cells = i.cells.items } in
    let found : IsWayOf a.lines a.flags (c.args.l % g.row.SETS * g.row.WAYS) g.row.WAYS c.args.l (Some c.in-Some.way) =
    rw (c.deref.ensures.value, c.deref-2.ensures.value, c.first_way-first.ensures.first) at c.in-Some.ensures in
    let promoted : IsPromoted a.ranks b.ranks (c.args.l % g.row.SETS * g.row.WAYS) g.row.WAYS (slice_index a.ranks c.in-Some.way) =
    rw (c.deref_mut.ensures.value, c.first_way-first.ensures.first) at c.promote.ensures in
    let whole : length c.promote.new.ranks ≡ i.ranks.len = c.promote.auto.ranks ∙ c.deref_mut.ensures.len in
    let all = c.self.invariant.all in
    let it = hit g.row.SETS g.row.WAYS c.args.l a c.args.self.now c.self.view_is c.self.invariant c.in-Some.way found in
    subst (λ r. AreSets g.row.SETS g.row.WAYS (record { lines = i.lines.items; flags = i.flags.items; ranks = r; cells = i.cells.items }))
    (sym (with_items_is i.ranks c.promote.new.ranks whole))
    (hit_sets g.row.SETS g.row.WAYS c.args.l a c.args.self.now c.self.view_is c.self.invariant c.in-Some.way found b (λ h. h) promoted it.1 (λ k other. refl) it.2
    (record { lines = all.lines; flags = all.flags; ranks = c.promote.auto.ranks ∙ ap length c.deref_mut.ensures.value ∙ all.ranks; cells = all.cells }))

pub returns-in-Some-clause-cells : goal.returns-in-Some-clause-cells
returns-in-Some-clause-cells g c =
    let i = c.self.inside in
    let a : Arrays = record { lines = i.lines.items; flags = i.flags.items; ranks = i.ranks.items; cells = i.cells.items } in
    let found : IsWayOf a.lines a.flags (c.args.l % g.row.SETS * g.row.WAYS) g.row.WAYS c.args.l (Some c.in-Some.way) =
    rw (c.deref.ensures.value, c.deref-2.ensures.value, c.first_way-first.ensures.first) at c.in-Some.ensures in
    let it = hit g.row.SETS g.row.WAYS c.args.l a c.args.self.now c.self.view_is c.self.invariant c.in-Some.way found in
    let inside = found.1 in
    let fits = c.first_way-first.ensures.inside in
    let all = c.self.invariant.all in
    ap Some (get_or_read i.cells.items c.in-Some.way c.index.result.now (omega arith) c.index.ensures no_cells ∙ sym it.4)
    ∙ ap (option_map (λ (h : Held). h.cells)) (sym (hit_entry g.row.SETS g.row.WAYS c.args.l a c.args.self.now c.self.view_is c.self.invariant c.in-Some.way found))

pub returns-in-Some-clause-after : goal.returns-in-Some-clause-after
returns-in-Some-clause-after g c =
    let i = c.self.inside in
    let a : Arrays = record { lines = i.lines.items; flags = i.flags.items; ranks = i.ranks.items; cells = i.cells.items } in
    let b : Arrays = record { lines = i.lines.items; flags = i.flags.items; ranks = c.promote.new.ranks; cells = i.cells.items } in
    let found : IsWayOf a.lines a.flags (c.args.l % g.row.SETS * g.row.WAYS) g.row.WAYS c.args.l (Some c.in-Some.way) =
    rw (c.deref.ensures.value, c.deref-2.ensures.value, c.first_way-first.ensures.first) at c.in-Some.ensures in
    let promoted : IsPromoted a.ranks b.ranks (c.args.l % g.row.SETS * g.row.WAYS) g.row.WAYS (slice_index a.ranks c.in-Some.way) =
    rw (c.deref_mut.ensures.value, c.first_way-first.ensures.first) at c.promote.ensures in
    let whole : length c.promote.new.ranks ≡ i.ranks.len = c.promote.auto.ranks ∙ c.deref_mut.ensures.len in
    let it = hit g.row.SETS g.row.WAYS c.args.l a c.args.self.now c.self.view_is c.self.invariant c.in-Some.way found in
    ap (λ r. lists_of g.row.SETS g.row.WAYS (record { lines = i.lines.items; flags = i.flags.items; ranks = r; cells = i.cells.items }))
    (with_items_is i.ranks c.promote.new.ranks whole)
    ∙ hit_lists g.row.SETS g.row.WAYS c.args.l a c.args.self.now c.self.view_is c.self.invariant c.in-Some.way found b (λ h. h) promoted it.1 (λ k other. refl)

pub returns-in-None-clause-cells : goal.returns-in-None-clause-cells
returns-in-None-clause-cells g c =
    let i = c.self.inside in
    let a : Arrays = record { lines = i.lines.items; flags = i.flags.items; ranks = i.ranks.items; cells = i.cells.items } in
    let none : IsWayOf a.lines a.flags (c.args.l % g.row.SETS * g.row.WAYS) g.row.WAYS c.args.l None =
    rw (c.deref.ensures.value, c.deref-2.ensures.value, c.first_way-first.ensures.first) at c.in-None.ensures in
    rw (missed g.row.SETS g.row.WAYS c.args.l a c.args.self.now c.self.view_is c.self.invariant none)

pub returns-in-None-clause-after : goal.returns-in-None-clause-after
returns-in-None-clause-after g c =
    let i = c.self.inside in
    let a : Arrays = record { lines = i.lines.items; flags = i.flags.items; ranks = i.ranks.items; cells = i.cells.items } in
    let none : IsWayOf a.lines a.flags (c.args.l % g.row.SETS * g.row.WAYS) g.row.WAYS c.args.l None =
    rw (c.deref.ensures.value, c.deref-2.ensures.value, c.first_way-first.ensures.first) at c.in-None.ensures in
    sym (lists_stay c.args.self.now (c.args.l % g.row.SETS) c.args.l (λ h. h) _ (missed g.row.SETS g.row.WAYS c.args.l a c.args.self.now c.self.view_is c.self.invariant none))
