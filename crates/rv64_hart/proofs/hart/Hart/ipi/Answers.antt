use Rattle.std.proofs.Common.{◌≡◌, true, sym, ap, ◌∙◌, refl}
use Rattle.rv64_csr.specs.Csrs.{Written}
use Rattle.rv64_hart.proofs.HartStates.{interrupt_set}
use Rattle.rv64_hart.proofs.hart.Hart.ipi.Goals as goal

pub returns : goal.returns
returns c =
    let file : c.write.new.self ≡ record c.self.inside.csrs { ssip = true } = sym (ap (λ (w : Written). w.after) c.write.ensures) ∙ interrupt_set c.self.inside.csrs in
    rw (file, ← c.self.view_is) refl
