use Rattle.std.proofs.Common.{◌≡◌, ◌≤◌, ◌∙◌, drop, length, sym, ap, arith, slice_set}
use Rattle.std.specs.Int.{from_bool}
use Rattle.rv64_hart.specs.Harts.{HartsState, started_bits}
use Rattle.rv64_hart.proofs.HartsLemmas.{bits_few, bool_small, alone_peers}
use Rattle.rv64_hart.proofs.harts.Harts.peers.Goals as goal

pub overflow_mul-started : goal.overflow_mul-started
overflow_mul-started g c =
    let few : started_bits (drop c.loop-i.i c.args.self.now.harts) ≤ 15 = bits_few c.args.self.now.harts c.loop-i.i c.count-harts.ensures.harts.few in
    let bits : c.loop-i.started ≡ started_bits (drop c.loop-i.i c.args.self.now.harts) = c.loop-i.invariant.bits in
    omega arith

pub overflow_add-started : goal.overflow_add-started
overflow_add-started g c =
    let few : started_bits (drop c.loop-i.i c.args.self.now.harts) ≤ 15 = bits_few c.args.self.now.harts c.loop-i.i c.count-harts.ensures.harts.few in
    let bits : c.loop-i.started ≡ started_bits (drop c.loop-i.i c.args.self.now.harts) = c.loop-i.invariant.bits in
    let small : from_bool c.started-in-loop-i.result ≤ 1 = bool_small c.started-in-loop-i.result in
    let bit : c.from.result ≡ from_bool c.started-in-loop-i.result = c.from.ensures in
    omega arith

pub returns-then-harts-eq1 : goal.returns-then-harts-eq1
returns-then-harts-eq1 g c =
    let i = c.self.inside in
    let harts : slice_set i.shared.waiting i.at i.acting ≡ c.args.self.now.harts = ap (λ (s : HartsState g.row.B.Denot). s.harts) c.self.view_is in
    let one : length c.args.self.now.harts ≡ 1 = sym c.count-harts.ensures.count ∙ c.if-harts-eq1.true in
    let started : c.from-started.result ≡ from_bool i.acting.started = c.from-started.ensures ∙ ap from_bool c.started.ensures in
    alone_peers i.shared.waiting i.at i.acting c.args.self.now.harts c.count-harts.result c.from-started.result c.self.invariant.0 harts one c.count-harts.ensures.count started
