use Rattle.std.proofs.Common.{ap, refl, arith}
use Rattle.ras_words.specs.Read.{machine_in}
use Rattle.ras_cli.specs.Refusals.{script_refused}
use Rattle.ras_cli.specs.Plan.{accepted_lines, script_in}
use Rattle.ras_cli.proofs.PlanLemmas.{reached_same}
use Rattle.ras_cli.proofs.ReadsLemmas.{memory_stops, refuse_stops}
use Rattle.ras_cli.proofs.inputs.accept_script.Goals as goal

pub returns-in-Ok-clause-reached : goal.returns-in-Ok-clause-reached
returns-in-Ok-clause-reached g c =
    let k = rw c.run_ram_words.ensures at c.in-Ok.ensures.exact in
    record { lines = k.0; rising = k.2; reached = reached_same (script_in (machine_in c.args.run) c.args.text.now) _ _ k.0 (ap accepted_lines k.1) refl }

pub returns-in-Err-NoMemory-clause-stopped : goal.returns-in-Err-NoMemory-clause-stopped
returns-in-Err-NoMemory-clause-stopped g c = rw c.status.ensures (memory_stops (script_in (machine_in c.args.run) c.args.text.now) _ _ _ _ refl (omega arith))

pub returns-in-Err-Refused-clause-stopped : goal.returns-in-Err-Refused-clause-stopped
returns-in-Err-Refused-clause-stopped g c =
    let k = rw (c.in-Err-Refused.field-0-is, c.run_ram_words.ensures) at c.in-Err-Refused.ensures.exact in
    refuse_stops (script_in (machine_in c.args.run) c.args.text.now) (script_refused c.in-Err-Refused.line c.in-Err-Refused.why) _ _ _ _ _ (ap accepted_lines k)
    (rw (c.as_slice.ensures.value, c.script_refused.ensures) at c.refuse.ensures.follows) c.refuse.ensures.refusal c.refuse.ensures.ends
