use Rattle.std.proofs.Common.{◌∙◌, ◌*◌, ◌%◌, sym, ap, subst}
use Rattle.poison_cache.specs.Ways.{IsFirstEmpty}
use Rattle.poison_cache.specs.Sets.{Arrays, AreSets, lists_of}
use Rattle.poison_cache.proofs.Updates.{written, some_empty, place_sets, place_lists}
use Rattle.poison_cache.proofs.sets.Sets.place_last.Goals as goal

pub empty_way-way-requires-clause-empty : goal.empty_way-way-requires-clause-empty
empty_way-way-requires-clause-empty g c =
    rw (c.deref.ensures.value, c.deref-2.ensures.value, c.first_way-first.ensures.first)
    (some_empty g.row.SETS g.row.WAYS c.args.held.now.line _ c.args.self.now c.self.view_is c.self.invariant c.requires.room)

pub invariant_of-self : goal.invariant_of-self
invariant_of-self g c =
    let i = c.self.inside in
    let a : Arrays = record { lines = i.lines.items; flags = i.flags.items; ranks = i.ranks.items; cells = i.cells.items } in
    let h = c.args.held.now in
    let first = h.line % g.row.SETS * g.row.WAYS in
    let way = c.empty_way-way.result in
    let empty : IsFirstEmpty a.ranks a.flags first g.row.WAYS way =
    rw (c.deref.ensures.value, c.deref-2.ensures.value, c.first_way-first.ensures.first) at c.empty_way-way.ensures.way in
    subst (λ f. AreSets g.row.SETS g.row.WAYS (written a way f h.line h.cells a.ranks)) (sym c.held.ensures)
    (place_sets g.row.SETS g.row.WAYS h.line a c.args.self.now c.self.view_is c.self.invariant way h.dirty h.cells empty c.requires.absent)

pub returns : goal.returns
returns g c =
    let i = c.self.inside in
    let a : Arrays = record { lines = i.lines.items; flags = i.flags.items; ranks = i.ranks.items; cells = i.cells.items } in
    let h = c.args.held.now in
    let first = h.line % g.row.SETS * g.row.WAYS in
    let way = c.empty_way-way.result in
    let empty : IsFirstEmpty a.ranks a.flags first g.row.WAYS way =
    rw (c.deref.ensures.value, c.deref-2.ensures.value, c.first_way-first.ensures.first) at c.empty_way-way.ensures.way in
    ap (λ f. lists_of g.row.SETS g.row.WAYS (written a way f h.line h.cells a.ranks)) c.held.ensures
    ∙ place_lists g.row.SETS g.row.WAYS h.line a c.args.self.now c.self.view_is c.self.invariant way h.dirty h.cells empty c.requires.absent
