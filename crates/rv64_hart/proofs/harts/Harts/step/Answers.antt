use Rattle.std.proofs.Common.{◌≡◌, ◌∙◌, sym, subst, ap}
use Rattle.std.specs.Prelude.{slice_set}
use Rattle.rv64_hart.specs.Harts.{HartsState, AreHarts}
use Rattle.rv64_hart.proofs.HartsLemmas.{all_done}
use Rattle.rv64_hart.proofs.harts.Harts.step.Goals as goal

pub invariant_of-self : goal.invariant_of-self
invariant_of-self g c =
    let harts = c.args.self.now.harts in
    let waiting = c.select.new.shared.waiting in
    let are : AreHarts harts = subst (λ (v : HartsState _). AreHarts v.harts) c.self.view_is c.self.invariant.1 in
    let is : slice_set waiting c.args.i c.select.new.acting ≡ harts = c.select.ensures.harts ∙ ap (λ (v : HartsState _). v.harts) c.self.view_is in
    let same : c.select.new.shared.memory ≡ c.args.self.now.memory = c.select.ensures.memory ∙ ap (λ (v : HartsState _). v.memory) c.self.view_is in
    let words : c.words.result ≡ g.B.Bus.meaning.words c.select.new.shared.memory = c.words.ensures ∙ ap g.B.Bus.meaning.words (sym c.select.ensures.memory) in
    let done = all_done g.B.Bus.meaning g.G.EventLog.logged c.args.i c.select.new.at harts c.args.self.now.memory c.select.new.acting c.act-answer.new.self c.apply.new.acting waiting c.select.new.shared.memory c.act-answer.new.bus c.apply.new.shared
    c.peers.result c.act-answer.result c.args.now c.args.input.now c.args.place.now c.act-answer.new.place c.args.con.now c.act-answer.new.con c.args.log.now c.act-answer.new.log
    are c.requires is same c.peers.ensures c.select.ensures.at (rw (← words, ← c.at-around.ensures.value) c.act-answer.ensures.step) c.apply.ensures.harts c.apply.ensures.memory in
    (done.1, done.2)

pub returns : goal.returns
returns g c =
    let harts = c.args.self.now.harts in
    let waiting = c.select.new.shared.waiting in
    let are : AreHarts harts = subst (λ (v : HartsState _). AreHarts v.harts) c.self.view_is c.self.invariant.1 in
    let is : slice_set waiting c.args.i c.select.new.acting ≡ harts = c.select.ensures.harts ∙ ap (λ (v : HartsState _). v.harts) c.self.view_is in
    let same : c.select.new.shared.memory ≡ c.args.self.now.memory = c.select.ensures.memory ∙ ap (λ (v : HartsState _). v.memory) c.self.view_is in
    let words : c.words.result ≡ g.B.Bus.meaning.words c.select.new.shared.memory = c.words.ensures ∙ ap g.B.Bus.meaning.words (sym c.select.ensures.memory) in
    let done = all_done g.B.Bus.meaning g.G.EventLog.logged c.args.i c.select.new.at harts c.args.self.now.memory c.select.new.acting c.act-answer.new.self c.apply.new.acting waiting c.select.new.shared.memory c.act-answer.new.bus c.apply.new.shared
    c.peers.result c.act-answer.result c.args.now c.args.input.now c.args.place.now c.act-answer.new.place c.args.con.now c.act-answer.new.con c.args.log.now c.act-answer.new.log
    are c.requires is same c.peers.ensures c.select.ensures.at (rw (← words, ← c.at-around.ensures.value) c.act-answer.ensures.step) c.apply.ensures.harts c.apply.ensures.memory in
    done.0
