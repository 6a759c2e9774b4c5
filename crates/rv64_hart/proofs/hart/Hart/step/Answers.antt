use Rattle.std.proofs.Common.{◌∙◌, sym, ap}
use Rattle.poison_mem.specs.AskingLaws.{play_shows}
use Rattle.rv64_hart.specs.Around.{around_at}
use Rattle.rv64_hart.specs.Step.{Stepped, scene}
use Rattle.rv64_hart.specs.StepLaws.{step_keeps_words}
use Rattle.rv64_hart.specs.WithinLaws.{turn_within}
use Rattle.rv64_hart.proofs.Endings.{turn_caused}
use Rattle.rv64_hart.proofs.hart.Hart.step.Goals as goal

pub returns-clause-asks : goal.returns-clause-asks
returns-clause-asks g c = play_shows g.B.Bus.meaning g.G.EventLog.logged _ _ _

pub returns-clause-bound : goal.returns-clause-bound
returns-clause-bound g c = turn_within _ _

pub returns-clause-causes : goal.returns-clause-causes
returns-clause-causes g c =
    turn_caused g.B.Bus.meaning g.G.EventLog.logged
    (around_at (g.B.Bus.meaning.words c.args.bus.now) c.args.peers c.args.now c.args.input.now c.args.place.now)
    (scene c.args.self.now c.args.place.now c.args.con.now c.args.bus.now c.args.log.now) _
    (rw (← c.words.ensures, ← c.at-around.ensures.value) c.act.ensures.step)

pub returns-clause-words : goal.returns-clause-words
returns-clause-words g c =
    ap (λ (t : Stepped _ _). g.B.Bus.meaning.words t.after.bus) (sym c.act.ensures.step)
    ∙ step_keeps_words g.B.Bus.meaning g.G.EventLog.logged _ (scene c.args.self.now c.args.place.now c.args.con.now c.args.bus.now c.args.log.now) g.met.B.Bus.keeps_words
