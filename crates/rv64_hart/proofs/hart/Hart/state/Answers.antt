use Rattle.std.proofs.Common.{◌≡◌, Some, sym, ap, ◌∙◌}
use Rattle.rv64_hart.specs.State.{ArchitecturalState}
use Rattle.rv64_hart.specs.HartState.{held_of}
use Rattle.rv64_hart.proofs.HartStates.{hart_back}
use Rattle.rv64_hart.proofs.hart.Hart.state.Goals as goal

pub returns-clause-back : goal.returns-clause-back
returns-clause-back c =
    let a = c.self.inside in
    let held : c.held.result ≡ held_of a.reservation = c.held.ensures ∙ ap (λ (h : ArchitecturalState). held_of h.reservation) (sym c.self.view_is) in
    rw held
    (hart_back a.number a.started a.pc a.registers a.mode a.csrs a.reservation c.parts.result c.self.invariant.0 c.self.invariant.1 c.self.invariant.2 c.parts.ensures.back
    ∙ ap Some c.self.view_is)
