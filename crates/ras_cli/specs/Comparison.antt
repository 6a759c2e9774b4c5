-- What is promised of a comparison, beside the headline: it tells of damage that reached the program unseen only past a third flip.
use Rattle.std.specs.Prelude.{◌≡◌, ◌≢◌, ℕ, List, ◌++◌, Some, None}
use Rattle.ras_firmware.specs.Records.{KeptState}
use Rattle.ras_host.specs.Told.{Outside, HostAction, Performs, File}
use Rattle.ras_machine.specs.Flat.{FlatMachine, flat_of, flat_whole}
use Rattle.ras_machine.specs.Schedule.{Given}
use Rattle.ras_machine.specs.Machine.{StackMachine, faulty_run, ending_in}
use Rattle.ras_machine.specs.Ways.{Way, way_state, way_ending, EndsBy, KeepsToFlat}
use Rattle.ras_machine.specs.declared.settings.Settings.{Settings}
use Rattle.ras_report.specs.Reports.{report_of, flat_report_of}
use Rattle.ras_report.specs.Verdicts.{verdict_line}
use Rattle.ras_report.specs.VerdictWays.{way_verdict}
use Rattle.ras_cli.specs.declared.status.Exit.TheVariants.{HostFailed, NoMemory, Silent}
use Rattle.ras_cli.specs.Status.{code_of}
use Rattle.ras_cli.specs.Plan.{RunInputs}
use Rattle.ras_cli.specs.ComparePlan.{ComparisonRequest, comparison_pieces}
use Rattle.ras_cli.specs.Reaches.{value_in, reads_in}
use Rattle.ras_cli.specs.Headline.{way_exit}

-- what a comparison of so many harts writes of a run that ends in a way and left these records
abbrev pub way_comparison : ℕ → FlatMachine → Given → KeptState → Way → List HostAction
way_comparison harts flat given records way =
    let shown = way_state given flat way in
    let whole = flat_whole given flat in
    comparison_pieces shown.console (report_of (way_ending given flat way) records None shown.harts harts)
    (flat_report_of whole.ending whole.after.harts) (verdict_line (way_verdict way))

-- The run under faults ended in this way; and this is the status, and what was written after these reads.
pub record ComparesBy (settings : Settings) (inputs : RunInputs) (faulty : StackMachine) (reads : List HostAction) (before after : Outside) (code : ℕ) (way : Way) : Type 0 where
  pub ends : EndsBy inputs.given (flat_of inputs.image settings) inputs.lines (ending_in faulty) faulty.state way
  pub status : code ≡ code_of (way_exit way)
  pub written : Performs before after (reads ++ way_comparison settings.harts (flat_of inputs.image settings) inputs.given faulty.state.firmware.records way)

-- How a comparison ended whose run under faults left this machine. Short of a third flip the verdict is that of the way, which is the same or
-- uncorrected; so `silent` comes only where there was one.
pub record Compares (settings : Settings) (inputs : RunInputs) (faulty : StackMachine) (reads : List HostAction) (before after : Outside) (code : ℕ) : Type 0 where
  pub keeps : KeepsToFlat faulty.state.beyond inputs.lines (ComparesBy settings inputs faulty reads before after code)
  pub silent : code ≡ code_of Silent → (third : ℕ × ℕ) × (faulty.state.beyond ≡ Some third)

-- so ends every comparison for which all that it reads is accepted, unless a call of the host failed or memory wanted
abbrev pub ComparisonEnds : List File → ComparisonRequest → Outside → Outside → ℕ → Type 0
ComparisonEnds files request before after code =
    (inputs : RunInputs) → value_in request.inputs files ≡ Some inputs → code ≢ code_of HostFailed → code ≢ code_of NoMemory
    → Compares request.settings inputs (faulty_run inputs.image request.settings inputs.given inputs.lines) (reads_in request.inputs files) before after code
