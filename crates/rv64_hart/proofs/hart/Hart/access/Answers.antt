use Rattle.std.proofs.Common.{◌∙◌, arith, refl}
use Rattle.rv64_hart.specs.Traps.{raised}
use Rattle.rv64_hart.specs.Translation.{At, Refused}
use Rattle.rv64_hart.proofs.Walks.{accessed_ended, accessed_poisoned, went_so}
use Rattle.rv64_hart.proofs.hart.Hart.access.Goals as goal

pub returns-in-At : goal.returns-in-At
returns-in-At g c = λ place console.
    accessed_ended g.B.Bus.meaning g.G.EventLog.logged c.args.words c.args.self.now c.args.operation c.kind-2.result c.args.address (At c.in-At.physical) place console c.args.bus.now _ c.args.log.now _
    (grind (arith, c.if-not-divides.false, c.divides.ensures, c.width.ensures)) c.kind-2.ensures c.in-At.ensures.plays
    ∙ c.perform.ensures place console

pub returns-in-Refused : goal.returns-in-Refused
returns-in-Refused g c = λ place console.
    accessed_ended g.B.Bus.meaning g.G.EventLog.logged c.args.words c.args.self.now c.args.operation c.kind-2.result c.args.address (Refused c.in-Refused.exception) place console c.args.bus.now _ c.args.log.now _
    (grind (arith, c.if-not-divides.false, c.divides.ensures, c.width.ensures)) c.kind-2.ensures c.in-Refused.ensures.plays
    ∙ went_so g.B.Bus.meaning g.G.EventLog.logged c.args.self.now (raised c.args.self.now c.in-Refused.exception c.args.address) c.raise-in-Refused.new.self place console _ _ c.raise-in-Refused.ensures

pub returns-in-Poisoned : goal.returns-in-Poisoned
returns-in-Poisoned g c = λ place console.
    accessed_poisoned g.B.Bus.meaning g.G.EventLog.logged c.args.words c.args.self.now c.args.operation c.kind-2.result c.args.address c.in-Poisoned.w place console c.args.bus.now _ c.args.log.now _
    (grind (arith, c.if-not-divides.false, c.divides.ensures, c.width.ensures)) c.kind-2.ensures c.in-Poisoned.ensures.plays
    ∙ rw c.poisoned.ensures refl
