-- What is promised of `demo`, over any host: whatever the number, its image and its script are accepted.
use Rattle.std.specs.Prelude.{◌≢◌, ℕ, List, [], Option, Some, None, option_and_then}
use Rattle.ras_host.specs.Told.{Bytes, Outside}
use Rattle.ras_words.specs.Commands.{Command, Demo, command_of}
use Rattle.ras_cli.specs.declared.status.Exit.TheVariants.{HostFailed, NoMemory}
use Rattle.ras_cli.specs.Status.{code_of}
use Rattle.ras_cli.specs.Plan.{settings_of}
use Rattle.ras_cli.specs.ComparePlan.{compared}
use Rattle.ras_cli.specs.Complete.{IsWhole}
use Rattle.ras_cli.specs.Comparison.{Compares}
use Rattle.ras_cli.specs.DemoPlan.{demo_machine, demo_run, demo_faulty}

-- Both machines ran the program of `demo` under the flips of this number. No read was made, every output is whole, and the verdict is that of
-- how the run ended, as for any comparison.
pub record IsDemonstrated (number : ℕ) (before after : Outside) (code : ℕ) : Type 0 where
  pub whole : IsWhole [] (compared (settings_of demo_machine) (demo_run number)) before after code
  pub compares : Compares (settings_of demo_machine) (demo_run number) (demo_faulty number) [] before after code

-- so ends `demo` of every number, unless a call of the host failed or memory wanted
abbrev pub Demonstrates : ℕ → Outside → Outside → ℕ → Type 0
Demonstrates number before after code = code ≢ code_of HostFailed → code ≢ code_of NoMemory → IsDemonstrated number before after code

-- the number of the demo that a command asks for
abbrev pub asked_demo : Command → Option ℕ
asked_demo (Demo number) = Some number
asked_demo _ = None

-- the number of the demo that words ask for
abbrev pub demo_of : List Bytes → Option ℕ
demo_of words = option_and_then asked_demo (command_of words)
