use Rattle.std.proofs.Common.{◌∙◌, ap}
use Rattle.rv64_hart.specs.State.{ArchitecturalState}
use Rattle.rv64_hart.specs.Shared.{SharedState}
use Rattle.rv64_hart.proofs.HartsLemmas.{first_are}
use Rattle.rv64_hart.proofs.harts.Harts.make.Goals as goal

pub invariant_of-result : goal.invariant_of-result
invariant_of-result g c =
    first_are c.args.harts c.args.entry c.start.new.self c.in_ok-make.field-0.waiting c.requires.some c.requires.few
    (ap (λ (s : SharedState _). s.waiting) c.in_ok-make.ensures)
    (ap (λ (h : ArchitecturalState). h.number) c.start.ensures ∙ ap (λ (h : ArchitecturalState). h.number) c.new-acting.ensures)
