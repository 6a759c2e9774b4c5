use Rattle.std.proofs.Common.{◌≡◌, ◌∙◌, ◌+◌, ◌-◌, ◌*◌, ◌%◌, length, sym, ap, subst, slice_index}
use Rattle.std.specs.Vec.{with_items}
use Rattle.std.proofs.lemmas.List.{with_items_is}
use Rattle.poison_cache.specs.Ranks.{way_of, IsPromoted}
use Rattle.poison_cache.specs.Ways.{ranks_from, flag_of}
use Rattle.poison_cache.specs.Sets.{Arrays, AreSets, lists_of}
use Rattle.poison_cache.proofs.Updates.{written, put_sets, put_lists}
use Rattle.poison_cache.proofs.sets.Sets.put_first.Goals as goal

pub invariant_of-self : goal.invariant_of-self
invariant_of-self g c =
    let i = c.self.inside in
    let a : Arrays = record { lines = i.lines.items; flags = i.flags.items; ranks = i.ranks.items; cells = i.cells.items } in
    let first = c.args.line % g.row.SETS * g.row.WAYS in
    let way = c.last_way-way.result in
    let way_is : way ≡ first + way_of (ranks_from a.ranks first) g.row.WAYS (g.row.WAYS - 1) =
    rw (c.deref.ensures.value, c.first_way-first.ensures.first) at c.last_way-way.ensures.way in
    let promoted : IsPromoted a.ranks c.promote.new.ranks first g.row.WAYS (slice_index a.ranks way) =
    rw (c.deref_mut.ensures.value, c.first_way-first.ensures.first) at c.promote.ensures in
    let whole : length c.promote.new.ranks ≡ i.ranks.len = c.promote.auto.ranks ∙ c.deref_mut.ensures.len in
    let count : length c.promote.new.ranks ≡ g.row.SETS * g.row.WAYS = c.promote.auto.ranks ∙ ap length c.deref_mut.ensures.value ∙ c.self.invariant.all.ranks in
    subst (λ f. AreSets g.row.SETS g.row.WAYS (written a way f c.args.line c.args.cells.now (with_items i.ranks c.promote.new.ranks).items)) (sym c.held.ensures)
    (subst (λ r. AreSets g.row.SETS g.row.WAYS (written a way (flag_of c.args.dirty) c.args.line c.args.cells.now r)) (sym (with_items_is i.ranks c.promote.new.ranks whole))
    (put_sets g.row.SETS g.row.WAYS c.args.line a c.args.self.now c.self.view_is c.self.invariant way way_is c.args.dirty c.args.cells.now c.promote.new.ranks promoted count c.requires))

pub returns : goal.returns
returns g c =
    let i = c.self.inside in
    let a : Arrays = record { lines = i.lines.items; flags = i.flags.items; ranks = i.ranks.items; cells = i.cells.items } in
    let first = c.args.line % g.row.SETS * g.row.WAYS in
    let way = c.last_way-way.result in
    let way_is : way ≡ first + way_of (ranks_from a.ranks first) g.row.WAYS (g.row.WAYS - 1) =
    rw (c.deref.ensures.value, c.first_way-first.ensures.first) at c.last_way-way.ensures.way in
    let promoted : IsPromoted a.ranks c.promote.new.ranks first g.row.WAYS (slice_index a.ranks way) =
    rw (c.deref_mut.ensures.value, c.first_way-first.ensures.first) at c.promote.ensures in
    let whole : length c.promote.new.ranks ≡ i.ranks.len = c.promote.auto.ranks ∙ c.deref_mut.ensures.len in
    let count : length c.promote.new.ranks ≡ g.row.SETS * g.row.WAYS = c.promote.auto.ranks ∙ ap length c.deref_mut.ensures.value ∙ c.self.invariant.all.ranks in
    ap (λ r. lists_of g.row.SETS g.row.WAYS (written a way c.held.result c.args.line c.args.cells.now r)) (with_items_is i.ranks c.promote.new.ranks whole)
    ∙ ap (λ f. lists_of g.row.SETS g.row.WAYS (written a way f c.args.line c.args.cells.now c.promote.new.ranks)) c.held.ensures
    ∙ put_lists g.row.SETS g.row.WAYS c.args.line a c.args.self.now c.self.view_is c.self.invariant way way_is c.args.dirty c.args.cells.now c.promote.new.ranks promoted count c.requires
