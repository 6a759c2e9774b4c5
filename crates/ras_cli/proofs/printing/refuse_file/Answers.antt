use Rattle.std.proofs.Common.{arith, refl, inl}
use Rattle.ras_cli.specs.Plan.{carried_out}
use Rattle.ras_cli.specs.PrintPlan.{printed}
use Rattle.ras_cli.proofs.EndsLemmas.{memory_ends}
use Rattle.ras_cli.proofs.PrintLemmas.{nothing_follows, refusal_follows}
use Rattle.ras_cli.proofs.printing.refuse_file.Goals as goal

pub returns-in-NoMemory-clause-follows : goal.returns-in-NoMemory-clause-follows
returns-in-NoMemory-clause-follows g c = λ read is. nothing_follows _ (carried_out (printed read)) _ _ c.status.ensures

pub returns-in-NoMemory-clause-ends : goal.returns-in-NoMemory-clause-ends
returns-in-NoMemory-clause-ends g c = rw c.status.ensures (memory_ends _ _ _ _ (inl refl) (omega arith))

pub returns-in_default-clause-follows : goal.returns-in_default-clause-follows
returns-in_default-clause-follows g c = λ read is.
    refusal_follows _ read c.args.refusal _ _ _ c.in_default.not-NoMemory is (rw (c.as_slice.ensures.value, c.file_refused.ensures) at c.refuse.ensures.follows)
