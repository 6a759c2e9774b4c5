use Rattle.std.proofs.Common.{arith}
use Rattle.ras_machine.proofs.Alone.{still_first, silent_before}
use Rattle.ras_machine.proofs.undisturbed.silent_until.Goals as goal

pub returns-then-at-lines-clause-first : goal.returns-then-at-lines-clause-first
returns-then-at-lines-clause-first c k n it more low =
    let near = c.min.ensures in
    still_first c.args.lines.now k n c.args.at c.requires it more (λ there. omega arith)

pub returns-then-at-lines-clause-silent : goal.returns-then-at-lines-clause-silent
returns-then-at-lines-clause-silent c k n it more low =
    let near = c.min.ensures in
    silent_before c.args.lines.now n c.args.at c.requires (still_first c.args.lines.now k n c.args.at c.requires it more (λ there. omega arith)) (λ there. omega arith)

pub returns-else-at-lines-clause-silent : goal.returns-else-at-lines-clause-silent
returns-else-at-lines-clause-silent c k n it more low =
    silent_before c.args.lines.now n c.args.at c.requires (still_first c.args.lines.now k n c.args.at c.requires it more (λ there. absurd (omega arith))) (λ there. absurd (omega arith))
