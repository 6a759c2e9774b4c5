use Rattle.std.proofs.lemmas.Result.{IfOk-weaker, IfErr-weaker}
use Rattle.ras_words.specs.Read.{machine_in}
use Rattle.ras_cli.specs.declared.files.FileKind.TheVariants.{Image}
use Rattle.ras_cli.specs.Plan.{file_plan, image_in}
use Rattle.ras_cli.proofs.PlanLemmas.{reached_bind, follows_bind, refused_bind}
use Rattle.ras_cli.proofs.inputs.read_image.Goals as goal

pub returns-in-Ok-clause-reached : goal.returns-in-Ok-clause-reached
returns-in-Ok-clause-reached g c =
    IfOk-weaker c.accept_image.result _ _ (λ image h. reached_bind (file_plan Image c.args.run.image.now) (image_in (machine_in c.args.run)) _ _ _ _ _ c.in-Ok.ensures.reached h)
    (rw c.as_slice.ensures.value at c.accept_image.ensures.reached)

pub returns-in-Ok-clause-stopped : goal.returns-in-Ok-clause-stopped
returns-in-Ok-clause-stopped g c =
    IfErr-weaker c.accept_image.result _ _ (λ status h. follows_bind (file_plan Image c.args.run.image.now) (image_in (machine_in c.args.run)) _ _ _ _ _ _ _ _ c.in-Ok.ensures.reached c.read_file.ensures.later h)
    (rw c.as_slice.ensures.value at c.accept_image.ensures.stopped)

pub returns-in-Err-clause-stopped : goal.returns-in-Err-clause-stopped
returns-in-Err-clause-stopped g c = refused_bind (file_plan Image c.args.run.image.now) (image_in (machine_in c.args.run)) _ _ _ _ _ c.in-Err.ensures.stopped
