use Rattle.std.proofs.lemmas.Result.{IfOk-weaker, IfErr-weaker}
use Rattle.ras_words.specs.Read.{machine_in}
use Rattle.ras_cli.specs.declared.files.FileKind.TheVariants.{Script}
use Rattle.ras_cli.specs.Plan.{named_plan, script_in}
use Rattle.ras_cli.proofs.PlanLemmas.{reached_bind, follows_bind, refused_bind}
use Rattle.ras_cli.proofs.inputs.read_script.Goals as goal

pub returns-in-Ok-clause-reached : goal.returns-in-Ok-clause-reached
returns-in-Ok-clause-reached g c =
    IfOk-weaker c.accept_script.result _ _ (λ script h. record {
      lines = h.lines;
      rising = h.rising;
      reached = reached_bind (named_plan Script (machine_in c.args.run).script) (script_in (machine_in c.args.run)) _ _ _ _ _ c.in-Ok.ensures.reached h.reached;
    })
    (rw c.as_slice.ensures.value at c.accept_script.ensures.reached)

pub returns-in-Ok-clause-stopped : goal.returns-in-Ok-clause-stopped
returns-in-Ok-clause-stopped g c =
    IfErr-weaker c.accept_script.result _ _ (λ status h. follows_bind (named_plan Script (machine_in c.args.run).script) (script_in (machine_in c.args.run)) _ _ _ _ _ _ _ _ c.in-Ok.ensures.reached c.read_named.ensures.later h)
    (rw c.as_slice.ensures.value at c.accept_script.ensures.stopped)

pub returns-in-Err-clause-stopped : goal.returns-in-Err-clause-stopped
returns-in-Err-clause-stopped g c = refused_bind (named_plan Script (machine_in c.args.run).script) (script_in (machine_in c.args.run)) _ _ _ _ _ c.in-Err.ensures.stopped
