use Rattle.std.proofs.Common.{◌≡◌, ◌∙◌, length, ap}
use Rattle.poison_mem.specs.Event.{consumption_of}
use Rattle.rv64_hart.specs.Harts.{hart_at}
use Rattle.rv64_hart.specs.State.{ArchitecturalState}
use Rattle.ras_machine.specs.Schedule.{given_by, pick}
use Rattle.ras_machine.specs.Actions.{at_stop}
use Rattle.ras_machine.specs.Acted.{ending_at}
use Rattle.ras_machine.proofs.Stepping.{whose, turn_taken, hart_acts, stops_at_poison, hart_keeps_words, hart_keeps_harts}
use Rattle.ras_machine.proofs.state.MachineState.step_hart.Goals as goal

pub returns-in-Went-clause-after : goal.returns-in-Went-clause-after
returns-in-Went-clause-after g c =
    let given = given_by c.args.input.now c.args.schedule.now in
    let s = c.args.self.now in
    ap (λ p. at_stop p.1 p.0) (hart_acts g.B.Bus.meaning given s _ (turn_taken g.B.Bus.meaning c.args.input.now c.args.schedule.now s _ _ _ c.pick-i.ensures.pick c.count.ensures.count c.in-Went.ensures))

pub returns-in-Went-clause-ending : goal.returns-in-Went-clause-ending
returns-in-Went-clause-ending g c =
    let given = given_by c.args.input.now c.args.schedule.now in
    let s = c.args.self.now in
    c.requires.none
    ∙ ap (λ p. ending_at p.1 p.0.steps) (hart_acts g.B.Bus.meaning given s _ (turn_taken g.B.Bus.meaning c.args.input.now c.args.schedule.now s _ _ _ c.pick-i.ensures.pick c.count.ensures.count c.in-Went.ensures))

pub returns-in-Went-clause-words : goal.returns-in-Went-clause-words
returns-in-Went-clause-words g c =
    let given = given_by c.args.input.now c.args.schedule.now in
    let s = c.args.self.now in
    hart_keeps_words g.B.Bus.meaning g.met.B.Bus.keeps_words given s _ (turn_taken g.B.Bus.meaning c.args.input.now c.args.schedule.now s _ _ _ c.pick-i.ensures.pick c.count.ensures.count c.in-Went.ensures)

pub returns-in-Went-clause-harts : goal.returns-in-Went-clause-harts
returns-in-Went-clause-harts g c =
    let given = given_by c.args.input.now c.args.schedule.now in
    let s = c.args.self.now in
    hart_keeps_harts g.B.Bus.meaning given s _ (turn_taken g.B.Bus.meaning c.args.input.now c.args.schedule.now s _ _ _ c.pick-i.ensures.pick c.count.ensures.count c.in-Went.ensures)

pub returns-in-Stop-clause-after : goal.returns-in-Stop-clause-after
returns-in-Stop-clause-after g c =
    let given = given_by c.args.input.now c.args.schedule.now in
    let s = c.args.self.now in
    c.stop.ensures.after
    ∙ rw c.stopped-stopped.ensures.ending
    (ap (λ p. at_stop p.1 p.0) (hart_acts g.B.Bus.meaning given s _ (turn_taken g.B.Bus.meaning c.args.input.now c.args.schedule.now s _ _ _ c.pick-i.ensures.pick c.count.ensures.count c.in-Stop.ensures)))

pub returns-in-Stop-clause-ending : goal.returns-in-Stop-clause-ending
returns-in-Stop-clause-ending g c =
    let given = given_by c.args.input.now c.args.schedule.now in
    let s = c.args.self.now in
    c.stop.ensures.ending
    ∙ rw c.stopped-stopped.ensures.ending
    (ap (λ p. ending_at p.1 p.0.steps) (hart_acts g.B.Bus.meaning given s _ (turn_taken g.B.Bus.meaning c.args.input.now c.args.schedule.now s _ _ _ c.pick-i.ensures.pick c.count.ensures.count c.in-Stop.ensures)))

pub returns-in-Stop-clause-words : goal.returns-in-Stop-clause-words
returns-in-Stop-clause-words g c =
    let given = given_by c.args.input.now c.args.schedule.now in
    let s = c.args.self.now in
    ap (λ shared. g.B.Bus.meaning.words shared.memory) c.stop.ensures.shared
    ∙ hart_keeps_words g.B.Bus.meaning g.met.B.Bus.keeps_words given s _ (turn_taken g.B.Bus.meaning c.args.input.now c.args.schedule.now s _ _ _ c.pick-i.ensures.pick c.count.ensures.count c.in-Stop.ensures)

pub returns-in-Stop-clause-harts : goal.returns-in-Stop-clause-harts
returns-in-Stop-clause-harts g c =
    let given = given_by c.args.input.now c.args.schedule.now in
    let s = c.args.self.now in
    ap (λ shared. length shared.harts) c.stop.ensures.shared
    ∙ hart_keeps_harts g.B.Bus.meaning given s _ (turn_taken g.B.Bus.meaning c.args.input.now c.args.schedule.now s _ _ _ c.pick-i.ensures.pick c.count.ensures.count c.in-Stop.ensures)

pub returns-in-Poisoned-clause-after : goal.returns-in-Poisoned-clause-after
returns-in-Poisoned-clause-after g c =
    let given = given_by c.args.input.now c.args.schedule.now in
    let s = c.args.self.now in
    let is : c.pick-i.result ≡ whose given s = c.pick-i.ensures.pick ∙ ap (λ count. pick c.args.schedule.now count s.steps) c.count.ensures.count in
    c.stop-in-Poisoned.ensures.after
    ∙ stops_at_poison (whose given s) s c.in-Poisoned.w c.in-Poisoned.use_kind _ _ _ _ _ c.log.ensures.state
    (c.consumption-event.ensures ∙ ap (λ i. consumption_of c.in-Poisoned.use_kind i c.word_address.result c.pc-pc.result) is) c.word_address.ensures.value
    (c.pc-pc.ensures.pc ∙ ap (λ (h : ArchitecturalState). h.pc) c.hart.ensures ∙ ap (λ i. (hart_at s.shared.harts i).pc) is)
    ∙ ap (λ p. at_stop p.1 p.0) (hart_acts g.B.Bus.meaning given s _ (turn_taken g.B.Bus.meaning c.args.input.now c.args.schedule.now s _ _ _ c.pick-i.ensures.pick c.count.ensures.count c.in-Poisoned.ensures))

pub returns-in-Poisoned-clause-ending : goal.returns-in-Poisoned-clause-ending
returns-in-Poisoned-clause-ending g c =
    let given = given_by c.args.input.now c.args.schedule.now in
    let s = c.args.self.now in
    let is : c.pick-i.result ≡ whose given s = c.pick-i.ensures.pick ∙ ap (λ count. pick c.args.schedule.now count s.steps) c.count.ensures.count in
    c.stop-in-Poisoned.ensures.ending
    ∙ rw (c.pc-pc.ensures.pc, c.hart.ensures, is)
    (ap (λ p. ending_at p.1 p.0.steps) (hart_acts g.B.Bus.meaning given s _ (turn_taken g.B.Bus.meaning c.args.input.now c.args.schedule.now s _ _ _ c.pick-i.ensures.pick c.count.ensures.count c.in-Poisoned.ensures)))

pub returns-in-Poisoned-clause-words : goal.returns-in-Poisoned-clause-words
returns-in-Poisoned-clause-words g c =
    let given = given_by c.args.input.now c.args.schedule.now in
    let s = c.args.self.now in
    ap (λ shared. g.B.Bus.meaning.words shared.memory) c.stop-in-Poisoned.ensures.shared
    ∙ hart_keeps_words g.B.Bus.meaning g.met.B.Bus.keeps_words given s _ (turn_taken g.B.Bus.meaning c.args.input.now c.args.schedule.now s _ _ _ c.pick-i.ensures.pick c.count.ensures.count c.in-Poisoned.ensures)

pub returns-in-Poisoned-clause-harts : goal.returns-in-Poisoned-clause-harts
returns-in-Poisoned-clause-harts g c =
    let given = given_by c.args.input.now c.args.schedule.now in
    let s = c.args.self.now in
    ap (λ shared. length shared.harts) c.stop-in-Poisoned.ensures.shared
    ∙ hart_keeps_harts g.B.Bus.meaning given s _ (turn_taken g.B.Bus.meaning c.args.input.now c.args.schedule.now s _ _ _ c.pick-i.ensures.pick c.count.ensures.count c.in-Poisoned.ensures)
