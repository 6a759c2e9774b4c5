use Rattle.std.proofs.Common.{rules, refl}
use Rattle.ras_words.specs.Read.{machine_in}
use Rattle.ras_cli.specs.Plan.{image_plan, script_plan, input_plan, schedule_plan, inputs_plan}
use Rattle.ras_cli.specs.Reaches.{Stops}
use Rattle.ras_cli.proofs.AcceptedLemmas.{after_image, after_script, after_input}
use Rattle.ras_cli.proofs.PlanLemmas.{reached_done, reached_bind, follows_bind, refused_bind}
use Rattle.ras_cli.proofs.inputs.read_inputs.Goals as goal

pub returns-in_err-image-clause-stopped : goal.returns-in_err-image-clause-stopped
returns-in_err-image-clause-stopped g c =
    let stopped = refused_bind (image_plan (machine_in c.args.run)) (after_image (machine_in c.args.run)) _ _ _ _ _ c.in_err-image.ensures.stopped in
    search (rules, stopped)

pub returns-in_err-script-clause-stopped : goal.returns-in_err-script-clause-stopped
returns-in_err-script-clause-stopped g c =
    let run = machine_in c.args.run in
    let stopped : Stops (inputs_plan run) (g.H.Host.told c.args.host.now) (g.H.Host.told c.read_script.new.host) (g.H.Host.faults c.args.host.now) (g.H.Host.faults c.read_script.new.host) c.in_err-script.field-0.0.code =
    follows_bind (image_plan run) (after_image run) _ _ _ _ _ _ _ _ c.in_ok-image.ensures.reached c.read_image.ensures.later
    (refused_bind (script_plan run) (after_script run _) _ _ _ _ _ c.in_err-script.ensures.stopped) in
    search (rules, stopped)

pub returns-in_err-input-clause-stopped : goal.returns-in_err-input-clause-stopped
returns-in_err-input-clause-stopped g c =
    let run = machine_in c.args.run in
    let stopped : Stops (inputs_plan run) (g.H.Host.told c.args.host.now) (g.H.Host.told c.read_named.new.host) (g.H.Host.faults c.args.host.now) (g.H.Host.faults c.read_named.new.host) c.in_err-input.field-0.0.code =
    follows_bind (image_plan run) (after_image run) _ _ _ _ _ _ _ _ c.in_ok-image.ensures.reached c.read_image.ensures.later
    (follows_bind (script_plan run) (after_script run _) _ _ _ _ _ _ _ _ c.in_ok-script.ensures.reached.reached c.read_script.ensures.later
    (refused_bind (input_plan run) _ _ _ _ _ _ c.in_err-input.ensures.stopped)) in
    search (rules, stopped)

pub returns-in_err-schedule-clause-stopped : goal.returns-in_err-schedule-clause-stopped
returns-in_err-schedule-clause-stopped g c =
    let run = machine_in c.args.run in
    let stopped : Stops (inputs_plan run) (g.H.Host.told c.args.host.now) (g.H.Host.told c.read_named-2.new.host) (g.H.Host.faults c.args.host.now) (g.H.Host.faults c.read_named-2.new.host) c.in_err-schedule.field-0.0.code =
    follows_bind (image_plan run) (after_image run) _ _ _ _ _ _ _ _ c.in_ok-image.ensures.reached c.read_image.ensures.later
    (follows_bind (script_plan run) (after_script run _) _ _ _ _ _ _ _ _ c.in_ok-script.ensures.reached.reached c.read_script.ensures.later
    (follows_bind (input_plan run) (after_input run _ _) _ _ _ _ _ _ _ _ c.in_ok-input.ensures.reached c.read_named.ensures.later
    (refused_bind (schedule_plan run) _ _ _ _ _ _ c.in_err-schedule.ensures.stopped))) in
    search (rules, stopped)

pub returns-clause-reached : goal.returns-clause-reached
returns-clause-reached g c =
    let run = machine_in c.args.run in
    let script = c.in_ok-script.ensures.reached in
    record {
      lines = script.lines;
      rising = script.rising;
      reached = reached_bind (image_plan run) (after_image run) _ _ _ _ _ c.in_ok-image.ensures.reached
          (reached_bind (script_plan run) (after_script run _) _ _ _ _ _ script.reached
          (reached_bind (input_plan run) (after_input run _ _) _ _ _ _ _ c.in_ok-input.ensures.reached
          (reached_bind (schedule_plan run) _ _ _ _ _ _ c.in_ok-schedule.ensures.reached (reached_done _ _ _ refl))));
    }
