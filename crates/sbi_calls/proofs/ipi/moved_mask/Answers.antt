use Rattle.std.proofs.Common.{arith}
use Rattle.sbi_calls.proofs.Selection.{all_there, one_beyond, all_beyond}
use Rattle.sbi_calls.proofs.ipi.moved_mask.Goals as goal
use Rattle.sbi_calls.proofs.ipi.moved_mask.Goals.{then-base-harts-via-then-base-harts, then-base-harts-via-else-base-harts+then-mask-harts-ne0}

pub returns-then-base-harts : goal.returns-then-base-harts
returns-then-base-harts c =
    let a = c.args in
    elim c.then-base-harts.branch [
      | then-base-harts-via-then-base-harts w ↦ grind (arith, all_beyond a.mask a.base a.harts (grind arith) (grind arith))
      | then-base-harts-via-else-base-harts+then-mask-harts-ne0 w ↦ grind (arith, one_beyond a.mask a.base a.harts (grind arith) (grind arith))
    ]

pub overflow_cast-result : goal.overflow_cast-result
overflow_cast-result c =
    let a = c.args in
    grind (arith, all_there a.mask a.base a.harts (grind arith) c.requires (grind arith))

pub returns : goal.returns
returns c =
    let a = c.args in
    grind (arith, all_there a.mask a.base a.harts (grind arith) c.requires (grind arith))
