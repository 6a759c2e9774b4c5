use Rattle.std.proofs.Common.{subst}
use Rattle.ras_machine.specs.declared.settings.Settings.{Settings}
use Rattle.ras_words.specs.Read.{run_in}
use Rattle.ras_cli.specs.Follows.{Follows}
use Rattle.ras_cli.specs.Plan.{inputs_plan, results_plan, results_of}
use Rattle.ras_machine.specs.Schedule.{given_by}
use Rattle.ras_machine.specs.Machine.{faulty_run}
use Rattle.ras_cli.proofs.AcceptedLemmas.{are_read, refusal_low, refusal_high}
use Rattle.ras_cli.proofs.FollowsLemmas.{if_some_all}
use Rattle.ras_cli.proofs.PlanLemmas.{follows_value, stops_follow, made_ends}
use Rattle.ras_cli.proofs.HeadlineLemmas.{run_headline, refused_headline}
use Rattle.ras_cli.proofs.top.run_command.Goals as goal

pub returns-in-Ok-clause-follows : goal.returns-in-Ok-clause-follows
returns-in-Ok-clause-follows g c =
    let run = run_in c.args.run in
    let k = c.in-Ok.ensures.reached in
    let results = λ (s : Settings). Follows (g.H.Host.told c.read_inputs.new.host) (g.H.Host.told c.run_inputs.new.host)
    (results_of run (faulty_run c.in-Ok.inputs.image s (given_by c.in-Ok.inputs.input.items c.in-Ok.inputs.schedule.items) k.lines)) c.run_inputs.result.code in
    follows_value (inputs_plan run.machine) (results_plan run) _ _ _ _ _ k.reached
    (if_some_all _ _ (λ files. subst results c.settings_of.ensures.settings (c.run_inputs.ensures.follows k.lines k.rising)))

pub returns-in-Ok-clause-headline : goal.returns-in-Ok-clause-headline
returns-in-Ok-clause-headline g c =
    let run = run_in c.args.run in
    run_headline _ run c.settings_of.result _ _ _ _ _ _ c.settings_of.ensures.settings (are_read _ _ run.machine _ _ _ c.in-Ok.ensures.reached) (returns-in-Ok-clause-follows g c) c.run_inputs.ensures.keeps

pub returns-in-Ok-clause-ends : goal.returns-in-Ok-clause-ends
returns-in-Ok-clause-ends g c =
    let r = c.in-Ok.ensures.reached.reached in
    made_ends _ _ _ r.reads _ _ _ _ r.all r.made c.read_inputs.ensures.later c.run_inputs.ensures.ends

pub returns-in-Err-clause-follows : goal.returns-in-Err-clause-follows
returns-in-Err-clause-follows g c =
    let run = run_in c.args.run in
    stops_follow (inputs_plan run.machine) (results_plan run) _ _ _ _ _ c.in-Err.ensures.stopped

pub returns-in-Err-clause-headline : goal.returns-in-Err-clause-headline
returns-in-Err-clause-headline g c =
    let is = c.in-Err.ensures.stopped.refusal in
    refused_headline _ (run_in c.args.run) _ _ _ (refusal_low _ is) (refusal_high _ is) (returns-in-Err-clause-follows g c)

pub returns-in-Err-clause-ends : goal.returns-in-Err-clause-ends
returns-in-Err-clause-ends g c = c.in-Err.ensures.stopped.ends
