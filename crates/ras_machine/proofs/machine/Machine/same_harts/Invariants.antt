use Rattle.ras_machine.proofs.SameHarts.{SameBelow}
use Rattle.ras_machine.proofs.machine.Machine.same_harts.Given as goal

abbrev pub invariant-loop-i : goal.invariant-loop-i
invariant-loop-i l = record {
  same : SameBelow l.self.state.shared.harts l.f.state.harts l.i;
}
