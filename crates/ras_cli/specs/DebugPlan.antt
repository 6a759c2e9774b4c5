-- What `debug` is to do: a session over the machine answers the lines of a file of commands, and each reply is written.
use Rattle.std.specs.Prelude.{List, map}
use Rattle.fault_script.specs.Words.{lines_of}
use Rattle.ras_debug.specs.Session.{SessionState, session_of, replies}
use Rattle.ras_host.specs.Told.{Bytes, HostAction, Out}
use Rattle.ras_machine.specs.Machine.{machine_made}
use Rattle.ras_machine.specs.declared.settings.Settings.{Settings}
use Rattle.ras_words.specs.Run.{DebugRequest}
use Rattle.ras_cli.specs.declared.files.FileKind.TheVariants as files
use Rattle.ras_cli.specs.declared.status.Exit.TheVariants as exits
use Rattle.ras_cli.specs.Status.{code_of}
use Rattle.ras_cli.specs.Plan.{Plan, Done, Planned, RunInputs, file_plan, inputs_plan, settings_of, ◌>>=◌}

-- what a session writes whose commands have this text: each reply to standard output
abbrev pub session_pieces : Bytes → SessionState → List HostAction
session_pieces text session = map Out (replies (lines_of text) session)

-- the session over the machine of what was read
abbrev pub session_over : Settings → RunInputs → SessionState
session_over settings inputs = session_of (machine_made inputs.image settings) inputs.given inputs.lines

-- what is written, and the status
abbrev pub debugged : Settings → RunInputs → Bytes → Planned
debugged settings inputs text = record { code = code_of exits.Ended; actions = session_pieces text (session_over settings inputs) }

-- the commands are read behind all that a run reads
abbrev pub debugged_plan : DebugRequest → RunInputs → Plan Planned
debugged_plan request inputs =
    file_plan files.Commands request.commands >>= (λ text. Done (debugged (settings_of request.machine) inputs text))

-- the plan of `debug`
abbrev pub debug_plan : DebugRequest → Plan Planned
debug_plan request = inputs_plan request.machine >>= debugged_plan request
