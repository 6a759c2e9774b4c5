use Rattle.ras_cli.specs.declared.files.FileKind.TheVariants.{Printed}
use Rattle.ras_cli.specs.Plan.{file_plan}
use Rattle.ras_cli.specs.PrintPlan.{print_bytes}
use Rattle.ras_cli.proofs.PlanLemmas.{follows_value, stops_follow, made_ends}
use Rattle.ras_cli.proofs.printing.print_command.Goals as goal

pub returns-in-Ok-clause-follows : goal.returns-in-Ok-clause-follows
returns-in-Ok-clause-follows g c =
    follows_value (file_plan Printed c.args.name.now) print_bytes _ _ _ _ _ c.in-Ok.ensures.reached (rw c.as_slice.ensures.value at c.print_bytes.ensures.follows)

pub returns-in-Ok-clause-ends : goal.returns-in-Ok-clause-ends
returns-in-Ok-clause-ends g c =
    let r = c.in-Ok.ensures.reached in
    made_ends _ _ _ r.reads _ _ _ _ r.all r.made c.read_file.ensures.later c.print_bytes.ensures.ends

pub returns-in-Err-clause-follows : goal.returns-in-Err-clause-follows
returns-in-Err-clause-follows g c = stops_follow (file_plan Printed c.args.name.now) print_bytes _ _ _ _ _ c.in-Err.ensures.stopped

pub returns-in-Err-clause-ends : goal.returns-in-Err-clause-ends
returns-in-Err-clause-ends g c = c.in-Err.ensures.stopped.ends
