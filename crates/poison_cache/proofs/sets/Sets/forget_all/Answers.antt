use Rattle.std.proofs.Common.{◌≡◌, ◌∙◌, ◌*◌, length, sym, ap, subst}
use Rattle.std.proofs.lemmas.List.{with_items_is}
use Rattle.poison_cache.specs.Sets.{Arrays, AreSets, HaveAllWays, lists_of}
use Rattle.poison_cache.proofs.Updates.{empty_sets, empty_lists}
use Rattle.poison_cache.proofs.sets.Sets.forget_all.Goals as goal

pub invariant_of-self : goal.invariant_of-self
invariant_of-self g c =
    let i = c.self.inside in
    let a : Arrays = record { lines = i.lines.items; flags = c.empty_all.new.flags; ranks = i.ranks.items; cells = i.cells.items } in
    let sound = c.self.invariant in
    let whole : length c.empty_all.new.flags ≡ i.flags.len = c.empty_all.auto.flags ∙ c.deref_mut.ensures.len in
    let all : HaveAllWays (g.row.SETS * g.row.WAYS) a = record {
      lines = sound.all.lines;
      flags = c.empty_all.auto.flags ∙ ap length c.deref_mut.ensures.value ∙ sound.all.flags;
      ranks = sound.all.ranks;
      cells = sound.all.cells;
    } in
    subst (λ f. AreSets g.row.SETS g.row.WAYS (record { lines = i.lines.items; flags = f; ranks = i.ranks.items; cells = i.cells.items }))
    (sym (with_items_is i.flags c.empty_all.new.flags whole))
    (empty_sets g.row.SETS g.row.WAYS a sound.some sound.some_way sound.small all (λ set below. (sound.each set below).ranks) c.empty_all.ensures)

pub returns : goal.returns
returns g c =
    let i = c.self.inside in
    let a : Arrays = record { lines = i.lines.items; flags = c.empty_all.new.flags; ranks = i.ranks.items; cells = i.cells.items } in
    let sound = c.self.invariant in
    let whole : length c.empty_all.new.flags ≡ i.flags.len = c.empty_all.auto.flags ∙ c.deref_mut.ensures.len in
    let all : HaveAllWays (g.row.SETS * g.row.WAYS) a = record {
      lines = sound.all.lines;
      flags = c.empty_all.auto.flags ∙ ap length c.deref_mut.ensures.value ∙ sound.all.flags;
      ranks = sound.all.ranks;
      cells = sound.all.cells;
    } in
    ap (λ f. lists_of g.row.SETS g.row.WAYS (record { lines = i.lines.items; flags = f; ranks = i.ranks.items; cells = i.cells.items }))
    (with_items_is i.flags c.empty_all.new.flags whole)
    ∙ empty_lists g.row.SETS g.row.WAYS a sound.some sound.some_way sound.small all (λ set below. (sound.each set below).ranks) c.empty_all.ensures
