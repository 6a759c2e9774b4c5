use Rattle.std.proofs.Common.{rules, ◌≡◌}
use Rattle.std.proofs.lemmas.Result.{IfErr-weaker}
use Rattle.ras_gen.specs.Demo.{demo_image, demo_script}
use Rattle.ras_cli.proofs.DemoLemmas.{demo_stops}
use Rattle.ras_cli.proofs.demo.demo_inputs.Goals as goal

pub returns-in-Ok-clause-stopped : goal.returns-in-Ok-clause-stopped
returns-in-Ok-clause-stopped g c =
    let image : c.as_slice.result.now ≡ demo_image = search rules in
    let script : c.as_slice-in-Ok.result.now ≡ demo_script c.args.number = search rules in
    IfErr-weaker c.inputs_of.result _ _ (λ status h. demo_stops _ _ _ c.args.number _ _ _ _ _ c.demo_machine.ensures.machine image script h) c.inputs_of.ensures.stopped
