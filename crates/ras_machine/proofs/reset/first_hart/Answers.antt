use Rattle.std.proofs.Common.{◌<◌, ◌∙◌, ap, arith}
use Rattle.rv64_hart.specs.State.{ArchitecturalState, reset}
use Rattle.ras_machine.proofs.Resets.{hart_behind}
use Rattle.ras_machine.proofs.reset.first_hart.Goals as goal

pub returns-else-i-eq0 : goal.returns-else-i-eq0
returns-else-i-eq0 c = record {
  hart = λ n inside.
      let some : 0 < c.args.i = let other = c.if-i-eq0.false in omega arith in
      c.new-hart.ensures ∙ ap (λ id. reset id c.args.entry) c.from.ensures ∙ hart_behind n c.args.entry c.args.i some inside;
  number = ap (λ (h : ArchitecturalState). h.number) c.new-hart.ensures ∙ c.from.ensures;
}
