use Rattle.std.proofs.Common.{inl, inr}
use Rattle.ras_cli.specs.Status.{code_of}
use Rattle.ras_cli.proofs.FollowsLemmas.{follows_cut}
use Rattle.ras_cli.proofs.EndsLemmas.{outputs_end}
use Rattle.ras_cli.proofs.WritesLemmas.{done_follows, done_status}
use Rattle.ras_cli.proofs.writes.end_written.Goals as goal

pub returns-in-Ok-clause-follows : goal.returns-in-Ok-clause-follows
returns-in-Ok-clause-follows c = λ before after actions made cut. done_follows before after actions (code_of c.args.exit) _ c.requires c.status.ensures (rw c.in-Ok.is at made)

pub returns-in-Ok-clause-ends : goal.returns-in-Ok-clause-ends
returns-in-Ok-clause-ends c = λ before after faults now later failed.
    outputs_end before after faults now (code_of c.args.exit) _ (inl c.status.ensures) c.requires later
    (λ three. absurd ((done_status _ (rw c.status.ensures c.requires)).0 three))

pub returns-in-Err-clause-follows : goal.returns-in-Err-clause-follows
returns-in-Err-clause-follows c = λ before after actions made cut. rw c.status-in-Err.ensures (follows_cut before after actions (code_of c.args.exit) (rw c.in-Err.is at cut))

pub returns-in-Err-clause-ends : goal.returns-in-Err-clause-ends
returns-in-Err-clause-ends c = λ before after faults now later failed.
    outputs_end before after faults now (code_of c.args.exit) _ (inr c.status-in-Err.ensures) c.requires later (λ three. rw c.in-Err.is at failed)
