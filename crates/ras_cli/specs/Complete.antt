-- What a command writes whose files are accepted.
use Rattle.std.specs.Prelude.{◌≡◌, ◌≢◌, ℕ, List, ◌++◌, Some}
use Rattle.ras_host.specs.Told.{Outside, HostAction, Performs, File}
use Rattle.ras_cli.specs.declared.status.Exit.TheVariants.{HostFailed, NoMemory}
use Rattle.ras_cli.specs.Status.{code_of, IsDone}
use Rattle.ras_cli.specs.Plan.{Plan, Planned}
use Rattle.ras_cli.specs.Reaches.{value_in, reads_in}

-- Every output of a command is whole: these reads were made, and then all that it writes was written, and its status says how it ended.
pub record IsWhole (reads : List HostAction) (results : Planned) (before after : Outside) (code : ℕ) : Type 0 where
  pub done : IsDone code
  pub status : code ≡ results.code
  pub written : Performs before after (reads ++ results.actions)

-- Where all that a plan reads is accepted, so that it comes to results, its outputs are whole, unless a call of the host failed or memory
-- wanted.
abbrev pub Completes : List File → Plan Planned → Outside → Outside → ℕ → Type 0
Completes files plan before after code =
    (results : Planned) → value_in plan files ≡ Some results → code ≢ code_of HostFailed → code ≢ code_of NoMemory
    → IsWhole (reads_in plan files) results before after code
