use Rattle.std.proofs.Common.{rules, refl}
use Rattle.ras_words.specs.Read.{machine_in}
use Rattle.ras_cli.specs.Plan.{image_in, script_in}
use Rattle.ras_cli.specs.DemoPlan.{inputs_of}
use Rattle.ras_cli.specs.Reaches.{Stops}
use Rattle.ras_cli.proofs.DemoLemmas.{with_program, none_read}
use Rattle.ras_cli.proofs.PlanLemmas.{reached_same, reached_bind, follows_bind, refused_bind}
use Rattle.ras_cli.proofs.demo.inputs_of.Goals as goal

pub returns-in_err-image-clause-stopped : goal.returns-in_err-image-clause-stopped
returns-in_err-image-clause-stopped g c =
    let run = machine_in c.args.run in
    let stopped = refused_bind (image_in run c.args.image.now) (with_program run c.args.script.now) _ _ _ _ _ c.in_err-image.ensures.stopped in
    search (rules, stopped)

pub returns-in_err-script-clause-stopped : goal.returns-in_err-script-clause-stopped
returns-in_err-script-clause-stopped g c =
    let run = machine_in c.args.run in
    let stopped : Stops (inputs_of run c.args.image.now c.args.script.now) (g.H.Host.told c.args.host.now) (g.H.Host.told c.accept_script.new.host) (g.H.Host.faults c.args.host.now) (g.H.Host.faults c.accept_script.new.host) c.in_err-script.field-0.0.code =
    follows_bind (image_in run c.args.image.now) (with_program run c.args.script.now) _ _ _ _ _ _ _ _ c.in_ok-image.ensures.reached c.accept_image.ensures.later
    (refused_bind (script_in run c.args.script.now) _ _ _ _ _ _ c.in_err-script.ensures.stopped) in
    search (rules, stopped)

pub returns-clause-reached : goal.returns-clause-reached
returns-clause-reached g c =
    let run = machine_in c.args.run in
    let script = c.in_ok-script.ensures.reached in
    record {
      lines = script.lines;
      rising = script.rising;
      reached = reached_bind (image_in run c.args.image.now) (with_program run c.args.script.now) _ _ _ _ _ c.in_ok-image.ensures.reached
          (reached_bind (script_in run c.args.script.now) _ _ _ _ _ _ script.reached
          (reached_same _ _ _ _ (none_read _ script.lines _ _ c.new.ensures.items c.new-2.ensures.items) refl));
    }
