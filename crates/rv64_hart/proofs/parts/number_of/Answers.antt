use Rattle.std.proofs.Common.{◌∙◌, arith}
use Rattle.rv64_hart.proofs.Numbers.{padded}
use Rattle.rv64_hart.proofs.parts.number_of.Goals as goal

pub returns : goal.returns
returns c =
    c.u64_at.ensures
    ∙ padded c.loop-i.word c.args.bytes.now
    (λ k below. c.loop-i.invariant.front k (omega arith))
    (λ k above. c.loop-i.invariant.back k (omega arith))
