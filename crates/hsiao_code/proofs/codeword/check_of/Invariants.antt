use Rattle.std.proofs.Common.{◌≡◌, ◌*◌}
use Rattle.hsiao_code.specs.Code.{column_at, xor_of}
use Rattle.hsiao_code.proofs.codeword.check_of.Given as goal

abbrev pub invariant-loop-k : goal.invariant-loop-k
invariant-loop-k l = l.check ≡ xor_of column_at l.v (8 * l.k)
