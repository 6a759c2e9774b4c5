-- The headline: a run under faults ends as the flat machine's does, or it stops at a word that was flipped twice, or at a critical
-- error that was injected.
use Rattle.std.specs.Prelude.{◌≡◌, ◌≢◌, ℕ, List, ◌++◌, None}
use Rattle.elf_load.specs.Program.{Program}
use Rattle.fault_script.specs.declared.lines.ScriptLine.{ScriptLine}
use Rattle.ras_firmware.specs.declared.firmware.Firmware.{Firmware}
use Rattle.ras_host.specs.Told.{Outside, HostAction, Performs, File}
use Rattle.ras_machine.specs.Flat.{FlatMachine, flat_of}
use Rattle.ras_machine.specs.Schedule.{Given}
use Rattle.ras_machine.specs.Machine.{StackMachine, faulty_run, ending_in}
use Rattle.ras_machine.specs.Ways.{Way, AsFlat, AtFlips, AtInjection, way_state, way_ending, EndsBy, KeepsToFlat}
use Rattle.ras_words.specs.Run.{RunRequest}
use Rattle.ras_cli.specs.declared.status.Exit.{Exit}
use Rattle.ras_cli.specs.declared.status.Exit.TheVariants.{Ended, HostFailed, NoMemory, StoppedAtError}
use Rattle.ras_cli.specs.Status.{code_of}
use Rattle.ras_cli.specs.Plan.{settings_of, outputs}
use Rattle.ras_cli.specs.Accepted.{IsAccepted, reads_of}

-- how the program ends where a run ends in a way
abbrev pub way_exit : Way → Exit
way_exit AsFlat = Ended
way_exit (AtFlips n w use_kind) = StoppedAtError
way_exit (AtInjection n id address) = StoppedAtError

-- What a run writes that ends in a way and left this error side: the way's console, the file of the records, that of firmware's memory, and
-- the report of the way's ending and harts.
abbrev pub way_outputs : RunRequest → FlatMachine → Given → Firmware → Way → List HostAction
way_outputs run flat given firmware way =
    let shown = way_state given flat way in
    outputs run (way_ending given flat way) firmware None shown.console shown.harts

-- A run ended in this way, which says besides what the boot error region of firmware's memory shows; and this is its status, and
-- what was written.
pub record WritesBy (run : RunRequest) (image : Program) (given : Given) (lines : List ScriptLine) (faulty : StackMachine) (before after : Outside) (code : ℕ) (way : Way) : Type 0 where
  pub ends : EndsBy given (flat_of image (settings_of run.machine)) lines (ending_in faulty) faulty.state way
  pub status : code ≡ code_of (way_exit way)
  pub written : Performs before after (reads_of run.machine ++ way_outputs run (flat_of image (settings_of run.machine)) given faulty.state.firmware way)

-- The headline, for every accepted image, script, input and schedule, unless a call of the host failed or memory wanted: a run without a third
-- flip ended in one of the ways, a third flip takes three lines that flip one word, and where no two lines flip one word and none
-- injects a critical error the run ended as the flat machine's.
abbrev pub Headline : List File → RunRequest → Outside → Outside → ℕ → Type 0
Headline files run before after code =
    (image : Program) (lines : List ScriptLine) (given : Given) → IsAccepted files run.machine image lines given
    → code ≢ code_of HostFailed → code ≢ code_of NoMemory
    → let faulty = faulty_run image (settings_of run.machine) given lines in
    KeepsToFlat faulty.state.beyond lines (WritesBy run image given lines faulty before after code)
