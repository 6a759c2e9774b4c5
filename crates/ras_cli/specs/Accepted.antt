-- What a run reads, where it is accepted.
use Rattle.std.specs.Prelude.{◌≡◌, List, [], ◌∷◌, ◌++◌, Option, Some, None}
use Rattle.elf_load.specs.Program.{Program}
use Rattle.fault_script.specs.Steps.{InRisingSteps}
use Rattle.fault_script.specs.declared.lines.ScriptLine.{ScriptLine}
use Rattle.ras_machine.specs.Schedule.{Given}
use Rattle.ras_host.specs.Told.{Bytes, HostAction, Read, File}
use Rattle.ras_words.specs.Run.{MachineRequest}
use Rattle.ras_cli.specs.declared.files.FileKind.{FileKind}
use Rattle.ras_cli.specs.declared.files.FileKind.TheVariants.{Image, Script, Input, Schedule}
use Rattle.ras_cli.specs.Files.{limit_of}
use Rattle.ras_cli.specs.Plan.{inputs_plan}
use Rattle.ras_cli.specs.Reaches.{value_in}

-- the read of a file that an option names
abbrev pub named_read : FileKind → Option Bytes → List HostAction
named_read file None = []
named_read file (Some name) = Read name (limit_of file) ∷ []

-- the files that a run reads
abbrev pub reads_of : MachineRequest → List HostAction
reads_of run = Read run.image (limit_of Image) ∷ (named_read Script run.script ++ (named_read Input run.input ++ named_read Schedule run.schedule))

-- an accepted image, script, input and schedule: what a run reads comes to them
abbrev pub IsAccepted : List File → MachineRequest → Program → List ScriptLine → Given → Type 0
IsAccepted files run image lines given = value_in (inputs_plan run) files ≡ Some (record { image = image; lines = lines; given = given })

-- these were read, and are accepted
pub record AreReadInputs (files : List File) (run : MachineRequest) (image : Program) (script : List ScriptLine) (given : Given) : Type 0 where
  pub lines : List ScriptLine
  pub rising : InRisingSteps lines script
  pub is : IsAccepted files run image lines given
