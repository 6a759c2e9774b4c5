-- Runs under the lines of a script, in any order that keeps those of each step.
use Rattle.std.proofs.Common.{◌≡◌, List, Some, refl, sym, ◌∙◌, ap, subst}
use Rattle.elf_load.specs.Program.{Program}
use Rattle.fault_script.specs.Steps.{InRisingSteps}
use Rattle.fault_script.specs.declared.lines.ScriptLine.{ScriptLine}
use Rattle.ras_firmware.specs.Memory.{memory_bytes}
use Rattle.ras_host.specs.Told.{Bytes}
use Rattle.ras_machine.specs.Flat.{flat_of}
use Rattle.ras_machine.specs.Schedule.{Given}
use Rattle.ras_machine.specs.Machine.{StackMachine, machine_made, machine_run, faulty_run, ending_in}
use Rattle.ras_machine.specs.Ways.{EndsBy, KeepsToFlat}
use Rattle.ras_machine.specs.declared.ending.Ending.{Ending}
use Rattle.ras_machine.specs.declared.settings.Settings.{Settings}
use Rattle.ras_machine.proofs.Machines.{same_run, run_settings}
use Rattle.ras_machine.proofs.Keeping.{same_keeps}
use Rattle.ras_report.specs.Records.{file_bytes}
use Rattle.ras_report.specs.Reports.{report_of}
use Rattle.ras_words.specs.Run.{RunRequest}
use Rattle.ras_cli.specs.declared.status.Exit.{Exit}
use Rattle.ras_cli.specs.Status.{code_of}
use Rattle.ras_cli.specs.Plan.{Planned, exit_of, pieces, results_of}

-- the run is that under the lines as they were read
faulty_same : (image : Program) (settings : Settings) (given : Given) (read script : List ScriptLine) → InRisingSteps read script
    → faulty_run image settings given script ≡ faulty_run image settings given read
faulty_same image settings given read script h = same_run given script read h.same (machine_made image settings)

-- the run of a machine that was made
pub ran_is : (image : Program) (settings : Settings) (given : Given) (read script : List ScriptLine) (before after : StackMachine) → InRisingSteps read script
    → before ≡ machine_made image settings → after ≡ machine_run given script before → after ≡ faulty_run image settings given read
ran_is image settings given read script before after rising made ran =
    ran ∙ ap (machine_run given script) made ∙ faulty_same image settings given read script rising

-- its settings stay
pub settings_kept : (image : Program) (settings : Settings) (given : Given) (script : List ScriptLine) (before after : StackMachine)
    → before ≡ machine_made image settings → after ≡ machine_run given script before → after.settings ≡ settings
settings_kept image settings given script before after made ran =
    ap (λ (m : StackMachine). m.settings) ran ∙ run_settings given script before ∙ ap (λ (m : StackMachine). m.settings) made

pub ended_is : (m : StackMachine) (ending : Ending) → m.ended ≡ Some ending → ending_in m ≡ ending
ended_is m ending is = rw is refl

-- what it comes to
pub results_are : (run : RunRequest) (m faulty : StackMachine) (exit : Exit) (console records tables report : Bytes)
    → m ≡ faulty → exit ≡ exit_of (ending_in m).stop → console ≡ m.state.console → records ≡ file_bytes m.state.firmware.records.views
    → tables ≡ memory_bytes m.state.firmware.memory → report ≡ report_of (ending_in m) m.state.firmware.records m.state.beyond m.state.shared.harts run.machine.harts
    → (let planned : Planned = record { code = code_of exit; actions = pieces run console records tables report } in planned) ≡ results_of run faulty
results_are run m faulty exit console records tables report same ends shown listed memory is =
    (rw (ends, shown, listed, memory, is) refl) ∙ ap (results_of run) same

-- and how it keeps to the flat machine
pub run_keeps : (image : Program) (settings : Settings) (given : Given) (read script : List ScriptLine) (before after : StackMachine) (ending : Ending)
    → InRisingSteps read script → before ≡ machine_made image settings → after ≡ machine_run given script before → after.ended ≡ Some ending
    → KeepsToFlat after.state.beyond script (EndsBy given (flat_of image before.settings) script ending after.state)
    → let faulty = faulty_run image settings given read in
    KeepsToFlat faulty.state.beyond read (EndsBy given (flat_of image settings) read (ending_in faulty) faulty.state)
run_keeps image settings given read script before after ending rising made ran ended it =
    subst (λ (m : StackMachine). KeepsToFlat m.state.beyond read (EndsBy given (flat_of image settings) read (ending_in m) m.state))
    (ran_is image settings given read script before after rising made ran)
    (same_keeps given (flat_of image settings) read script rising.same after.state.beyond (ending_in after) after.state
    (subst (λ (e : Ending). KeepsToFlat after.state.beyond script (EndsBy given (flat_of image settings) script e after.state)) (sym (ended_is after ending ended))
    (subst (λ (s : Settings). KeepsToFlat after.state.beyond script (EndsBy given (flat_of image s) script ending after.state)) (ap (λ (m : StackMachine). m.settings) made) it)))
