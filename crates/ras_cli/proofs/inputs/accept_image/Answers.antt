use Rattle.std.proofs.Common.{ap, refl}
use Rattle.ras_words.specs.Read.{machine_in}
use Rattle.ras_cli.specs.Plan.{accepted_image, image_in}
use Rattle.ras_cli.proofs.PlanLemmas.{reached_same}
use Rattle.ras_cli.proofs.inputs.accept_image.Goals as goal

pub returns-in-Ok-clause-reached : goal.returns-in-Ok-clause-reached
returns-in-Ok-clause-reached g c = reached_same (image_in (machine_in c.args.run) c.args.bytes.now) _ _ _ (ap accepted_image c.in-Ok.ensures.image) refl

pub returns-in-Err-clause-stopped : goal.returns-in-Err-clause-stopped
returns-in-Err-clause-stopped g c = c.refuse_image.ensures.stopped _ c.in-Err.ensures.image
