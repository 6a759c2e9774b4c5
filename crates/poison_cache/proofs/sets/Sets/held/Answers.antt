use Rattle.std.proofs.Common.{◌≡◌, ◌∙◌, ◌*◌, ◌+◌, sym, ap, arith}
use Rattle.poison_cache.specs.Ranks.{way_of}
use Rattle.poison_cache.specs.Ways.{ranks_from}
use Rattle.poison_cache.specs.Sets.{entry_in}
use Rattle.poison_cache.proofs.Updates.{held_is, none_is}
use Rattle.poison_cache.proofs.sets.Sets.held.Goals as goal

pub returns-then-k : goal.returns-then-k
returns-then-k g c = sym (none_is g.row.SETS g.row.WAYS c.args.set _ c.args.self.now c.self.view_is c.self.invariant c.requires c.args.k c.if-k.true)

pub returns : goal.returns
returns g c =
    let i = c.self.inside in
    let way : c.way_of_rank-way.result ≡ c.args.set * g.row.WAYS + way_of (ranks_from i.ranks.items (c.args.set * g.row.WAYS)) g.row.WAYS c.args.k =
    rw c.deref.ensures.value at c.way_of_rank-way.ensures.way in
    (rw (c.deref-2.ensures.value, c.deref-3.ensures.value, c.deref-4.ensures.value) at (c.held_at.ensures i.ranks.items))
    ∙ ap (entry_in (record { lines = i.lines.items; flags = i.flags.items; ranks = i.ranks.items; cells = i.cells.items })) way
    ∙ sym (held_is g.row.SETS g.row.WAYS c.args.set _ c.args.self.now c.self.view_is c.self.invariant c.requires c.args.k (let few = c.if-k.false in omega arith))
