use Rattle.std.proofs.Common.{◌≡◌, ◌∙◌, map, length, refl, arith}
use Rattle.std.proofs.lemmas.List.{with_items_is}
use Rattle.rv64_hart.specs.Harts.{affected}
use Rattle.rv64_hart.proofs.HartsLemmas.{map_first_more, map_first_done}
use Rattle.rv64_hart.proofs.shared.Shared.affect.Goals as goal

pub loop-hart-preserved : goal.loop-hart-preserved
loop-hart-preserved g c =
    rw c.affect.ensures
    (map_first_more (affected c.args.acting c.args.effect) c.loop-hart.hart-index c.args.self.now.waiting c.loop-hart.hart-items c.hart-item.result c.loop-hart.invariant (omega arith))

pub returns : goal.returns
returns g c =
    let i = c.self.inside in
    let whole : length c.loop-hart.hart-items ≡ i.waiting.len = c.loop-hart.auto.hart-items ∙ c.deref_mut-hart-items.ensures.len in
    let done : c.loop-hart.hart-items ≡ map (affected c.args.acting c.args.effect) c.args.self.now.waiting =
    map_first_done (affected c.args.acting c.args.effect) c.loop-hart.hart-index c.args.self.now.waiting c.loop-hart.hart-items c.loop-hart.invariant (omega arith) in
    rw (with_items_is i.waiting c.loop-hart.hart-items whole, done, ← c.self.view_is) refl
