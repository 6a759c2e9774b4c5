-- What a call of the program is to do: the host calls that it makes, and its status.
use Rattle.std.specs.Prelude.{ℕ, Bool, cond, nat_lt, List, [], ◌∷◌, ◌++◌, length, Option, Some, None, Result, Ok}
use Rattle.std.specs.Prelude.{Err as Error}
use Rattle.elf_load.specs.Program.{Program, image_of}
use Rattle.elf_load.specs.declared.refusals.ElfRefused.{ElfRefused}
use Rattle.fault_script.specs.Script.{lines_in}
use Rattle.fault_script.specs.declared.lines.ScriptLine.{ScriptLine}
use Rattle.fault_script.specs.declared.lines.ScriptError.{ScriptError}
use Rattle.ras_host.specs.Told.{Bytes, HostAction, Read, Create, Out, Err, File, bytes_of}
use Rattle.rv64_hart.specs.State.{ArchitecturalState}
use Rattle.ras_firmware.specs.Memory.{memory_bytes}
use Rattle.ras_firmware.specs.declared.firmware.Firmware.{Firmware}
use Rattle.ras_machine.specs.Machine.{StackMachine, faulty_run, ending_in}
use Rattle.ras_machine.specs.Schedule.{Given, given_by}
use Rattle.ras_machine.specs.Settings.{ram_words}
use Rattle.ras_machine.specs.declared.ending.Stop.{Stop}
use Rattle.ras_machine.specs.declared.ending.Stop.TheVariants.{Shutdown, Reboot, Budget, ConsoleFull, Consumed, Injected}
use Rattle.ras_machine.specs.declared.ending.Ending.{Ending}
use Rattle.ras_machine.specs.declared.settings.Settings.{Settings}
use Rattle.ras_report.specs.Records.{file_bytes}
use Rattle.ras_report.specs.Reports.{report_of}
use Rattle.ras_words.specs.Run.{MachineRequest, RunRequest}
use Rattle.ras_cli.specs.declared.files.FileKind.{FileKind}
use Rattle.ras_cli.specs.declared.files.FileKind.TheVariants as files
use Rattle.ras_cli.specs.declared.status.Exit.{Exit}
use Rattle.ras_cli.specs.declared.status.Exit.TheVariants as exits
use Rattle.ras_cli.specs.Files.{limit_of}
use Rattle.ras_cli.specs.Status.{code_of}
use Rattle.ras_cli.specs.Refusals.{too_long, image_refused, script_line}

-- ---- plans

-- the host calls of a plan in which none fails, and its status
pub record Planned : Type 0 where
  pub code : ℕ
  pub actions : List HostAction

-- a plan: files that are read in turn, each within its limit, up to a value, or a line that refuses
pub data Plan (X : Type 0) : Type 0 where
  Done : X → Plan X
  Refuse : (line : Bytes) → Plan X
  Reading : (file : FileKind) → (name : Bytes) → (whole : Bytes → Plan X) → Plan X

-- first one plan, then another with its value
infixl 10 ◌>>=◌
abbrev pub ◌>>=◌ : {X Y : Type 0} → Plan X → (X → Plan Y) → Plan Y
(Done x) >>= next = next x
(Refuse line) >>= next = Refuse line
(Reading file name whole) >>= next = Reading file name (λ bytes. whole bytes >>= next)

-- some calls, and then the rest
abbrev pub calls_then : List HostAction → Planned → Planned
calls_then actions rest = record { code = rest.code; actions = actions ++ rest.actions }

-- a last line, after which the program ends
abbrev pub line_written : Exit → Bytes → Planned
line_written exit line = record { code = code_of exit; actions = Err line ∷ [] }

-- a file is longer than its limit
abbrev pub is_longer : List File → FileKind → Bytes → Bool
is_longer files file name = nat_lt (limit_of file) (length (bytes_of files name))

-- what a plan comes to over these files
abbrev pub carried_out : Plan Planned → List File → Planned
carried_out (Done planned) files = planned
carried_out (Refuse line) files = line_written exits.Refused line
carried_out (Reading file name whole) files = calls_then (Read name (limit_of file) ∷ []) (cond (is_longer files file name)
    (line_written exits.Refused (too_long file)) (carried_out (whole (bytes_of files name)) files))

-- a file
abbrev pub file_plan : FileKind → Bytes → Plan Bytes
file_plan file name = Reading file name (λ bytes. Done bytes)

-- a file that an option names is read; without the option it is empty
abbrev pub named_plan : FileKind → Option Bytes → Plan Bytes
named_plan file None = Done []
named_plan file (Some name) = file_plan file name

-- ---- what a run of the machine asks for

-- its settings
abbrev pub settings_of : MachineRequest → Settings
settings_of run = record { ram_mib = run.ram_mib; harts = run.harts; poll = run.poll; patrol = run.patrol; budget = run.budget }

-- how many words of 8 bytes its RAM has
abbrev pub run_ram_words : MachineRequest → ℕ
run_ram_words run = ram_words (settings_of run)

-- ---- what is read, in this order

-- an image that is accepted, or the line of its refusal
abbrev pub accepted_image : Result Program ElfRefused → Plan Program
accepted_image (Ok image) = Done image
accepted_image (Error refusal) = Refuse (image_refused refusal)

-- the image that bytes are
abbrev pub image_in : MachineRequest → Bytes → Plan Program
image_in run bytes = accepted_image (image_of run.raw bytes (run_ram_words run))

-- the image of a run
abbrev pub image_plan : MachineRequest → Plan Program
image_plan run = file_plan files.Image run.image >>= image_in run

-- the lines of a script that is accepted, or the line of its refusal
abbrev pub accepted_lines : Result (List ScriptLine) ScriptError → Plan (List ScriptLine)
accepted_lines (Ok lines) = Done lines
accepted_lines (Error refusal) = Refuse (script_line refusal)

-- the lines that a text has
abbrev pub script_in : MachineRequest → Bytes → Plan (List ScriptLine)
script_in run text = accepted_lines (lines_in (run_ram_words run) text)

-- the lines of a run's script
abbrev pub script_plan : MachineRequest → Plan (List ScriptLine)
script_plan run = named_plan files.Script run.script >>= script_in run

-- the input of a run
abbrev pub input_plan : MachineRequest → Plan Bytes
input_plan run = named_plan files.Input run.input

-- the schedule of a run
abbrev pub schedule_plan : MachineRequest → Plan Bytes
schedule_plan run = named_plan files.Schedule run.schedule

-- what a run has read
pub record RunInputs : Type 0 where
  pub image : Program
  pub lines : List ScriptLine
  pub given : Given

-- all that a run reads
abbrev pub inputs_plan : MachineRequest → Plan RunInputs
inputs_plan run = image_plan run >>= (λ image. script_plan run >>= (λ lines. input_plan run >>= (λ input. schedule_plan run >>= (λ schedule.
    Done (record { image = image; lines = lines; given = given_by input schedule })))))

-- ---- what comes of it

-- how the program ends where a run stopped so
abbrev pub exit_of : Stop → Exit
exit_of (Shutdown reason) = exits.Ended
exit_of (Reboot reboot_kind) = exits.Ended
exit_of Budget = exits.Ended
exit_of ConsoleFull = exits.Ended
exit_of (Consumed w use_kind pc) = exits.StoppedAtError
exit_of (Injected bank rec) = exits.StoppedAtError

-- a file that an option names is made
abbrev pub named_file : Option Bytes → Bytes → List HostAction
named_file None bytes = []
named_file (Some name) bytes = Create name bytes ∷ []

-- what a run writes, in this order: the console to standard output, the files that it names, and the report to standard error
abbrev pub pieces : RunRequest → (console records tables report : Bytes) → List HostAction
pieces run console records tables report = Out console ∷ (named_file run.records records ++ (named_file run.tables tables ++ Err report ∷ []))

-- the same of a run that ended so and left this error side, third flip, console and harts: the files are those of its records and of
-- firmware's memory
abbrev pub outputs : RunRequest → Ending → Firmware → Option (ℕ × ℕ) → Bytes → List ArchitecturalState → List HostAction
outputs run ending firmware beyond console harts =
    pieces run console (file_bytes firmware.records.views) (memory_bytes firmware.memory) (report_of ending firmware.records beyond harts run.machine.harts)

-- the outputs and the status of a run that left this machine
abbrev pub results_of : RunRequest → StackMachine → Planned
results_of run m = record {
  code = code_of (exit_of (ending_in m).stop);
  actions = outputs run (ending_in m) m.state.firmware m.state.beyond m.state.console m.state.shared.harts;
}

-- the results of a run of what was read
abbrev pub results_plan : RunRequest → RunInputs → Plan Planned
results_plan run inputs = Done (results_of run (faulty_run inputs.image (settings_of run.machine) inputs.given inputs.lines))

-- the plan of a run
abbrev pub run_plan : RunRequest → Plan Planned
run_plan run = inputs_plan run.machine >>= results_plan run
