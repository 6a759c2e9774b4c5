use Rattle.std.proofs.Common.{arith, refl}
use Rattle.ras_cli.specs.Refusals.{image_refused}
use Rattle.ras_cli.specs.Plan.{accepted_image}
use Rattle.ras_cli.proofs.ReadsLemmas.{memory_stops, refuse_stops, image_refuses}
use Rattle.ras_cli.proofs.inputs.refuse_image.Goals as goal

pub returns-in-NoMemory-clause-stopped : goal.returns-in-NoMemory-clause-stopped
returns-in-NoMemory-clause-stopped g c = λ image answers. rw c.status.ensures (memory_stops (accepted_image image) _ _ _ _ refl (omega arith))

pub returns-in_default-clause-stopped : goal.returns-in_default-clause-stopped
returns-in_default-clause-stopped g c = λ image answers.
    refuse_stops (accepted_image image) (image_refused c.args.refusal) _ _ _ _ _ (image_refuses image c.args.refusal c.in_default.not-NoMemory answers)
    (rw (c.as_slice.ensures.value, c.image_refused.ensures) at c.refuse.ensures.follows) c.refuse.ensures.refusal c.refuse.ensures.ends
