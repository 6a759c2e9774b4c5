use Rattle.std.proofs.Common.{◌∙◌, ◌*◌, ◌%◌, Some, None, sym, ap, arith}
use Rattle.std.specs.Option.{option_map}
use Rattle.std.proofs.lemmas.List.{get_or_read}
use Rattle.poison_mem.specs.declared.cache_state.Held.{Held}
use Rattle.poison_cache.specs.Ways.{IsWayOf}
use Rattle.poison_cache.specs.Sets.{Arrays, no_cells}
use Rattle.poison_cache.proofs.Updates.{missed, hit, hit_entry}
use Rattle.poison_cache.proofs.sets.Sets.cells.Goals as goal

pub returns-in-Some : goal.returns-in-Some
returns-in-Some g c =
    let i = c.self.inside in
    let a : Arrays = record { lines = i.lines.items; flags = i.flags.items; ranks = i.ranks.items; cells = i.cells.items } in
    let found : IsWayOf a.lines a.flags (c.args.l % g.row.SETS * g.row.WAYS) g.row.WAYS c.args.l (Some c.in-Some.way) =
    rw (c.deref.ensures.value, c.deref-2.ensures.value, c.first_way-first.ensures.first) at c.in-Some.ensures in
    let it = hit g.row.SETS g.row.WAYS c.args.l a c.args.self.now c.self.view_is c.self.invariant c.in-Some.way found in
    let inside = found.1 in
    let fits = c.first_way-first.ensures.inside in
    let all = c.self.invariant.all in
    ap Some (get_or_read i.cells.items c.in-Some.way c.index.result.now (omega arith) c.index.ensures no_cells ∙ sym it.4)
    ∙ ap (option_map (λ (h : Held). h.cells)) (sym (hit_entry g.row.SETS g.row.WAYS c.args.l a c.args.self.now c.self.view_is c.self.invariant c.in-Some.way found))

pub returns-in-None : goal.returns-in-None
returns-in-None g c =
    let i = c.self.inside in
    let a : Arrays = record { lines = i.lines.items; flags = i.flags.items; ranks = i.ranks.items; cells = i.cells.items } in
    let none : IsWayOf a.lines a.flags (c.args.l % g.row.SETS * g.row.WAYS) g.row.WAYS c.args.l None =
    rw (c.deref.ensures.value, c.deref-2.ensures.value, c.first_way-first.ensures.first) at c.in-None.ensures in
    rw (missed g.row.SETS g.row.WAYS c.args.l a c.args.self.now c.self.view_is c.self.invariant none)
