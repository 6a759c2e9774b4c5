use Rattle.std.proofs.Common.{◌∙◌, refl}
use Rattle.rv64_hart.specs.Around.{around_of}
use Rattle.rv64_hart.specs.Translation.{At, Refused}
use Rattle.rv64_hart.proofs.Walks.{turned_ended, turned_poisoned, fetch_refused}
use Rattle.rv64_hart.proofs.hart.Hart.step_instruction.Goals as goal

pub returns-in-At : goal.returns-in-At
returns-in-At g c =
    turned_ended g.B.Bus.meaning g.G.EventLog.logged (around_of c.args.around) c.args.self.now c.pc-pc.result (At c.in-At.physical) c.args.place.now c.args.con.now c.args.bus.now _ c.args.log.now _ c.pc-pc.ensures.pc c.in-At.ensures.plays
    ∙ c.fetch.ensures

pub returns-in-Refused : goal.returns-in-Refused
returns-in-Refused g c =
    turned_ended g.B.Bus.meaning g.G.EventLog.logged (around_of c.args.around) c.args.self.now c.pc-pc.result (Refused c.in-Refused.exception) c.args.place.now c.args.con.now c.args.bus.now _ c.args.log.now _ c.pc-pc.ensures.pc c.in-Refused.ensures.plays
    ∙ fetch_refused g.B.Bus.meaning g.G.EventLog.logged (around_of c.args.around) c.args.self.now c.raise.new.self c.in-Refused.exception c.pc-pc.result c.args.place.now c.args.con.now _ _ c.pc-pc.ensures.pc c.raise.ensures

pub returns-in-Poisoned : goal.returns-in-Poisoned
returns-in-Poisoned g c =
    turned_poisoned g.B.Bus.meaning g.G.EventLog.logged (around_of c.args.around) c.args.self.now c.pc-pc.result c.in-Poisoned.w c.args.place.now c.args.con.now c.args.bus.now _ c.args.log.now _ c.pc-pc.ensures.pc c.in-Poisoned.ensures.plays
    ∙ rw c.poisoned.ensures refl
