-- What a comparison is to do: both machines run what was read, and both reports and the verdict are written.
use Rattle.std.specs.Prelude.{ℕ, List, [], ◌∷◌}
use Rattle.ras_host.specs.Told.{Bytes, HostAction, Out, Err}
use Rattle.ras_machine.specs.Flat.{FlatRun, flat_of, flat_whole}
use Rattle.ras_machine.specs.Machine.{StackMachine, faulty_run, ending_in}
use Rattle.ras_machine.specs.declared.settings.Settings.{Settings}
use Rattle.ras_report.specs.Reports.{report_of, flat_report_of}
use Rattle.ras_report.specs.Verdicts.{faulty_shown, flat_shown, verdict_of, verdict_line}
use Rattle.ras_report.specs.declared.verdicts.Verdict.{Verdict}
use Rattle.ras_report.specs.declared.verdicts.Verdict.TheVariants as verdicts
use Rattle.ras_words.specs.Run.{MachineRequest}
use Rattle.ras_cli.specs.declared.status.Exit.{Exit}
use Rattle.ras_cli.specs.declared.status.Exit.TheVariants as exits
use Rattle.ras_cli.specs.Status.{code_of}
use Rattle.ras_cli.specs.Plan.{Plan, Done, Planned, RunInputs, inputs_plan, settings_of, ◌>>=◌}

-- how the program ends with a verdict
abbrev pub verdict_exit : Verdict → Exit
verdict_exit verdicts.Same = exits.Ended
verdict_exit verdicts.Uncorrected = exits.StoppedAtError
verdict_exit verdicts.Silent = exits.Silent

-- what a comparison writes, in this order: the console to standard output, and to standard error both reports and the verdict
abbrev pub comparison_pieces : (console report flat_report line : Bytes) → List HostAction
comparison_pieces console report flat_report line = Out console ∷ Err report ∷ Err flat_report ∷ Err line ∷ []

-- the same with this verdict, and the status
abbrev pub comparison_planned : (console report flat_report : Bytes) → Verdict → Planned
comparison_planned console report flat_report verdict = record {
  code = code_of (verdict_exit verdict);
  actions = comparison_pieces console report flat_report (verdict_line verdict);
}

-- the verdict on a run that left this machine, beside this run of the flat machine
abbrev pub verdict_on : StackMachine → FlatRun → Verdict
verdict_on m flat = verdict_of (faulty_shown m.state (ending_in m)) (flat_shown flat.after flat.ending)

-- what comes of a run of so many harts that left this machine, beside this run of the flat machine
abbrev pub comparison_results : ℕ → StackMachine → FlatRun → Planned
comparison_results harts m flat =
    comparison_planned m.state.console (report_of (ending_in m) m.state.firmware.records m.state.beyond m.state.shared.harts harts)
    (flat_report_of flat.ending flat.after.harts) (verdict_on m flat)

-- the same of what was read
abbrev pub compared : Settings → RunInputs → Planned
compared settings inputs =
    comparison_results settings.harts (faulty_run inputs.image settings inputs.given inputs.lines) (flat_whole inputs.given (flat_of inputs.image settings))

abbrev pub compared_plan : Settings → RunInputs → Plan Planned
compared_plan settings inputs = Done (compared settings inputs)

-- what a comparison asks for: the settings of both machines, and what they run
pub record ComparisonRequest : Type 0 where
  pub settings : Settings
  pub inputs : Plan RunInputs

-- the plan of a comparison
abbrev pub comparison_plan : ComparisonRequest → Plan Planned
comparison_plan request = request.inputs >>= compared_plan request.settings

-- what `compare` asks for: the files of a run
abbrev pub compare_request : MachineRequest → ComparisonRequest
compare_request run = record { settings = settings_of run; inputs = inputs_plan run }
