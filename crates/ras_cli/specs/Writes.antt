-- What a run writes, as the program holds it.
use Rattle.std.specs.Prelude.{List}
use Rattle.ras_host.specs.Told.{HostAction}
use Rattle.ras_words.specs.Run.{RunRequest}
use Rattle.ras_cli.specs.declared.writes.Outputs.{Outputs}
use Rattle.ras_cli.specs.Plan.{pieces}

-- its pieces, in their order
abbrev pub pieces_in : RunRequest → Outputs → List HostAction
pieces_in run outputs = pieces run outputs.console.now outputs.records.now outputs.tables.now outputs.report.now
