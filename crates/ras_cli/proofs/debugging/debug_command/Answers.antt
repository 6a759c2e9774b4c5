use Rattle.std.proofs.Common.{subst}
use Rattle.ras_machine.specs.declared.settings.Settings.{Settings}
use Rattle.ras_words.specs.Read.{debug_in}
use Rattle.ras_cli.specs.declared.files.FileKind.TheVariants.{Commands}
use Rattle.ras_cli.specs.Plan.{RunInputs, Done, file_plan, inputs_plan, settings_of}
use Rattle.ras_cli.specs.DebugPlan.{debugged, debugged_plan}
use Rattle.ras_cli.specs.Behind.{FollowsBehind}
use Rattle.ras_cli.specs.Inputs.{given_in}
use Rattle.ras_cli.proofs.DebugLemmas.{file_follows}
use Rattle.ras_cli.proofs.PlanLemmas.{follows_value, stops_follow, made_ends}
use Rattle.ras_cli.proofs.debugging.debug_command.Goals as goal

pub returns-in-Ok-read_file-clause-follows : goal.returns-in-Ok-read_file-clause-follows
returns-in-Ok-read_file-clause-follows g c =
    let debug = debug_in c.args.debug in
    let k = c.in-Ok.ensures.reached in
    let read : RunInputs = record { image = c.in-Ok.inputs.image; lines = k.lines; given = given_in c.in-Ok.inputs } in
    let now = g.H.Host.told c.debug_inputs.new.host in
    let text = c.in-Ok-read_file.text.items in
    let behind = λ (s : Settings). FollowsBehind (g.H.Host.told c.read_file.new.host) now (debugged s read text) c.debug_inputs.result.code in
    follows_value (inputs_plan debug.machine) (debugged_plan debug) _ (g.H.Host.told c.read_inputs.new.host) now read _ k.reached
    (file_follows Commands debug.commands (debugged _ read) _ _ _ text _ c.in-Ok-read_file.ensures.reached
    (subst behind c.settings_of-settings.ensures.settings (rw c.as_slice.ensures.value at (c.debug_inputs.ensures.follows k.lines k.rising))))

pub returns-in-Ok-read_file-clause-ends : goal.returns-in-Ok-read_file-clause-ends
returns-in-Ok-read_file-clause-ends g c =
    let r = c.in-Ok.ensures.reached.reached in
    let f = c.in-Ok-read_file.ensures.reached in
    made_ends _ _ _ r.reads _ _ _ _ r.all r.made c.read_inputs.ensures.later
    (made_ends _ _ _ f.reads _ _ _ _ f.all f.made c.read_file.ensures.later c.debug_inputs.ensures.ends)

pub returns-in-Err-read_file-clause-follows : goal.returns-in-Err-read_file-clause-follows
returns-in-Err-read_file-clause-follows g c =
    let debug = debug_in c.args.debug in
    let k = c.in-Ok.ensures.reached in
    let read : RunInputs = record { image = c.in-Ok.inputs.image; lines = k.lines; given = given_in c.in-Ok.inputs } in
    follows_value (inputs_plan debug.machine) (debugged_plan debug) _ _ _ read _ k.reached
    (stops_follow (file_plan Commands debug.commands) (λ text. Done (debugged (settings_of debug.machine) read text)) _ _ _ _ _ c.in-Err-read_file.ensures.stopped)

pub returns-in-Err-read_file-clause-ends : goal.returns-in-Err-read_file-clause-ends
returns-in-Err-read_file-clause-ends g c =
    let r = c.in-Ok.ensures.reached.reached in
    made_ends _ _ _ r.reads _ _ _ _ r.all r.made c.read_inputs.ensures.later c.in-Err-read_file.ensures.stopped.ends

pub returns-in-Err-clause-follows : goal.returns-in-Err-clause-follows
returns-in-Err-clause-follows g c =
    let debug = debug_in c.args.debug in
    stops_follow (inputs_plan debug.machine) (debugged_plan debug) _ _ _ _ _ c.in-Err.ensures.stopped

pub returns-in-Err-clause-ends : goal.returns-in-Err-clause-ends
returns-in-Err-clause-ends g c = c.in-Err.ensures.stopped.ends
