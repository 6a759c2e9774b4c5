use Rattle.rv64_hart.specs.Step.{scene}
use Rattle.rv64_hart.proofs.Endings.{turn_stays}
use Rattle.rv64_hart.proofs.hart.Hart.act.Goals as goal

pub returns-clause-number : goal.returns-clause-number
returns-clause-number g c =
    (turn_stays g.B.Bus.meaning g.G.EventLog.logged _ (scene c.args.self.now c.args.place.now c.args.con.now c.args.bus.now c.args.log.now) _ c.take_turn.ensures).0

pub returns-clause-started : goal.returns-clause-started
returns-clause-started g c =
    (turn_stays g.B.Bus.meaning g.G.EventLog.logged _ (scene c.args.self.now c.args.place.now c.args.con.now c.args.bus.now c.args.log.now) _ c.take_turn.ensures).1

pub returns-clause-effect : goal.returns-clause-effect
returns-clause-effect g c =
    (turn_stays g.B.Bus.meaning g.G.EventLog.logged _ (scene c.args.self.now c.args.place.now c.args.con.now c.args.bus.now c.args.log.now) _ c.take_turn.ensures).2
