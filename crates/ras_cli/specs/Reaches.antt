-- What was read, where a plan came to a value, and how one ended that didn't.
use Rattle.std.specs.Prelude.{◌≡◌, ℕ, IfSome, cond, List, [], ◌∷◌, Option, Some, None}
use Rattle.elf_load.specs.Program.{Program}
use Rattle.fault_script.specs.Steps.{InRisingSteps}
use Rattle.fault_script.specs.declared.lines.ScriptLine.{ScriptLine}
use Rattle.ras_machine.specs.Schedule.{Given}
use Rattle.ras_host.specs.Told.{Outside, HostAction, Performs, Read, File, bytes_of}
use Rattle.ras_cli.specs.Files.{limit_of}
use Rattle.ras_cli.specs.declared.status.Exit.TheVariants.{NoMemory}
use Rattle.ras_cli.specs.Status.{code_of, IsRefusal}
use Rattle.ras_cli.specs.Plan.{Plan, Done, Refuse, Reading, Planned, RunInputs, carried_out, is_longer, ◌>>=◌}
use Rattle.ras_cli.specs.Follows.{Follows, AreReads, RunEnds}

-- the value that a plan comes to over these files; none where it is refused
abbrev pub value_in : {X : Type 0} → Plan X → List File → Option X
value_in (Done x) files = Some x
value_in (Refuse line) files = None
value_in (Reading file name whole) files = cond (is_longer files file name) None (value_in (whole (bytes_of files name)) files)

-- the reads that it makes
abbrev pub reads_in : {X : Type 0} → Plan X → List File → List HostAction
reads_in (Done x) files = []
reads_in (Refuse line) files = []
reads_in (Reading file name whole) files = Read name (limit_of file) ∷ cond (is_longer files file name) [] (reads_in (whole (bytes_of files name)) files)

-- it makes these reads, and comes to this
pub record ComesTo {X : Type 0} (plan : Plan X) (files : List File) (reads : List HostAction) (x : X) : Type 0 where
  pub made : reads ≡ reads_in plan files
  pub value : value_in plan files ≡ Some x

-- the actions were done, or nothing where there are none
abbrev pub Made : Outside → Outside → List HostAction → Type 0
Made before after [] = after ≡ before
Made before after (action ∷ actions) = Performs before after (action ∷ actions)

-- Reads were made, and nothing else was done. Where the files are told, they are the plan's, and the plan comes to x; a plan that is a value
-- reads nothing and comes to it over any host.
pub record Reaches {X : Type 0} (plan : Plan X) (before after : Outside) (x : X) : Type 0 where
  pub reads : List HostAction
  pub all : AreReads reads
  pub made : Made before after reads
  pub comes : IfSome before.files (λ files. ComesTo plan files reads x)
  pub unread : (y : X) → plan ≡ Done y → (reads ≡ []) × (x ≡ y)

-- How a plan ended that came to no value, with the host's faults before and now: whatever was to follow it. A plan that reads and refuses nothing
-- ended so only for want of memory.
pub record Stops {X : Type 0} (plan : Plan X) (before after : Outside) (faults now code : ℕ) : Type 0 where
  pub refusal : IsRefusal code
  pub ends : RunEnds before after faults now code
  pub follows : IfSome before.files (λ files. (next : X → Plan Planned) → Follows before after (carried_out (plan >>= next) files) code)
  pub valued : (y : X) → plan ≡ Done y → code ≡ code_of NoMemory

-- a script was read: its lines, in rising steps
pub record ReachesScript (plan : Plan (List ScriptLine)) (before after : Outside) (script : List ScriptLine) : Type 0 where
  pub lines : List ScriptLine
  pub rising : InRisingSteps lines script
  pub reached : Reaches plan before after lines

-- all that a run reads was read
pub record ReachesInputs (plan : Plan RunInputs) (before after : Outside) (image : Program) (script : List ScriptLine) (given : Given) : Type 0 where
  pub lines : List ScriptLine
  pub rising : InRisingSteps lines script
  pub reached : Reaches plan before after (record { image = image; lines = lines; given = given })
