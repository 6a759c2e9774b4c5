use Rattle.std.proofs.Common.{◌≡◌, ◌++◌, replicate}
use Rattle.byte_fields.proofs.writing.push_zeros.Given as goal

abbrev pub invariant-loop-done : goal.invariant-loop-done
invariant-loop-done g l = l.out.items ≡ l.fn.out.items ++ replicate l._done 0
