-- The status of the program, by why it ends.
use Rattle.std.specs.Prelude.{◌≡◌, ◌⊎◌, ℕ}
use Rattle.ras_cli.specs.declared.status.Exit.{Exit}
use Rattle.ras_cli.specs.declared.status.Exit.TheVariants.{Ended, Usage, Refused, HostFailed, NoMemory, StoppedAtError, Silent}

-- its number
abbrev pub code_of : Exit → ℕ
code_of Ended = 0
code_of Usage = 1
code_of Refused = 2
code_of HostFailed = 3
code_of NoMemory = 4
code_of StoppedAtError = 5
code_of Silent = 6

-- it is that number, or a call of the host failed
abbrev pub IsOrFailed : Exit → ℕ → Type 0
IsOrFailed exit code = (code ≡ code_of exit) ⊎ (code ≡ code_of HostFailed)

-- nothing was run: a file is refused, a call of the host failed, or memory wanted
abbrev pub IsRefusal : ℕ → Type 0
IsRefusal code = (code ≡ code_of Refused) ⊎ ((code ≡ code_of HostFailed) ⊎ (code ≡ code_of NoMemory))

-- what was asked for was done
abbrev pub IsDone : ℕ → Type 0
IsDone code = (code ≡ code_of Ended) ⊎ ((code ≡ code_of StoppedAtError) ⊎ (code ≡ code_of Silent))
