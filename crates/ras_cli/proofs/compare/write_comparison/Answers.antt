use Rattle.std.proofs.Common.{subst}
use Rattle.ras_cli.specs.declared.status.Exit.{Exit}
use Rattle.ras_cli.specs.Status.{code_of}
use Rattle.ras_cli.specs.Plan.{Planned}
use Rattle.ras_cli.specs.Both.{planned_in}
use Rattle.ras_cli.specs.Follows.{Follows}
use Rattle.ras_cli.proofs.compare.write_comparison.Goals as goal

pub returns-clause-follows : goal.returns-clause-follows
returns-clause-follows g c =
    let plan = planned_in c.args.both.now in
    let results = λ (exit : Exit). let p : Planned = record { code = code_of exit; actions = plan.actions } in Follows (g.H.Host.told c.args.host.now) (g.H.Host.told c.write_pieces-written.new.host) p c.end_written.result.code in
    subst results c.exit_of.ensures.exit
    (c.end_written.ensures.follows _ _ plan.actions
    (rw (c.console.ensures, c.as_slice.ensures.value, c.as_slice-2.ensures.value, c.verdict_line.ensures) at c.write_pieces-written.ensures.made)
    (rw (c.console.ensures, c.as_slice.ensures.value, c.as_slice-2.ensures.value, c.verdict_line.ensures) at c.write_pieces-written.ensures.cut))

pub returns-clause-ends : goal.returns-clause-ends
returns-clause-ends g c = c.end_written.ensures.ends _ _ _ _ c.write_pieces-written.ensures.later c.write_pieces-written.ensures.failed
