use Rattle.std.proofs.Common.{subst}
use Rattle.ras_machine.specs.declared.settings.Settings.{Settings}
use Rattle.ras_machine.specs.Schedule.{given_by}
use Rattle.ras_cli.specs.Both.{request_in}
use Rattle.ras_cli.specs.ComparePlan.{compared, compared_plan}
use Rattle.ras_cli.specs.Follows.{Follows}
use Rattle.ras_cli.proofs.FollowsLemmas.{if_some_all}
use Rattle.ras_cli.proofs.PlanLemmas.{follows_value, stops_follow, made_ends}
use Rattle.ras_cli.proofs.ComparisonLemmas.{read_compared, refused_compared}
use Rattle.ras_cli.proofs.DemoLemmas.{read_demonstrated, refused_demonstrated}
use Rattle.ras_cli.proofs.compare.compare_command.Goals as goal

pub returns-in-Ok-clause-follows : goal.returns-in-Ok-clause-follows
returns-in-Ok-clause-follows g c =
    let request = request_in c.args.what in
    let k = c.in-Ok.ensures.reached in
    let results = λ (s : Settings). Follows (g.H.Host.told c.request_inputs.new.host) (g.H.Host.told c.compare_inputs.new.host)
    (compared s (record { image = c.in-Ok.inputs.image; lines = k.lines; given = given_by c.in-Ok.inputs.input.items c.in-Ok.inputs.schedule.items })) c.compare_inputs.result.code in
    follows_value request.inputs (compared_plan request.settings) _ _ _ _ _ k.reached
    (if_some_all _ _ (λ files. subst results c.request_settings.ensures.settings (c.compare_inputs.ensures.follows k.lines k.rising)))

pub returns-in-Ok-clause-comparison : goal.returns-in-Ok-clause-comparison
returns-in-Ok-clause-comparison g c =
    read_compared (request_in c.args.what) c.request_settings.result _ _ _ _ _ _ _ c.request_settings.ensures.settings c.in-Ok.ensures.reached (returns-in-Ok-clause-follows g c) c.compare_inputs.ensures.keeps

pub returns-in-Ok-clause-demo : goal.returns-in-Ok-clause-demo
returns-in-Ok-clause-demo g c =
    read_demonstrated c.args.what c.request_settings.result _ _ _ _ _ _ _ c.request_settings.ensures.settings c.in-Ok.ensures.reached c.compare_inputs.ensures.follows c.compare_inputs.ensures.keeps

pub returns-in-Ok-clause-ends : goal.returns-in-Ok-clause-ends
returns-in-Ok-clause-ends g c =
    let r = c.in-Ok.ensures.reached.reached in
    made_ends _ _ _ r.reads _ _ _ _ r.all r.made c.request_inputs.ensures.later c.compare_inputs.ensures.ends

pub returns-in-Err-clause-follows : goal.returns-in-Err-clause-follows
returns-in-Err-clause-follows g c =
    let request = request_in c.args.what in
    stops_follow request.inputs (compared_plan request.settings) _ _ _ _ _ c.in-Err.ensures.stopped

pub returns-in-Err-clause-comparison : goal.returns-in-Err-clause-comparison
returns-in-Err-clause-comparison g c = refused_compared (request_in c.args.what) _ _ _ _ _ c.in-Err.ensures.stopped

pub returns-in-Err-clause-demo : goal.returns-in-Err-clause-demo
returns-in-Err-clause-demo g c = refused_demonstrated c.args.what _ _ _ _ _ c.in-Err.ensures.stopped

pub returns-in-Err-clause-ends : goal.returns-in-Err-clause-ends
returns-in-Err-clause-ends g c = c.in-Err.ensures.stopped.ends
