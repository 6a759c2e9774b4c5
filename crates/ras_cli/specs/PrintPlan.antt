-- What `read` is to do: a file is read, and its text is written to standard output.
use Rattle.std.specs.Prelude.{[], ◌∷◌, Result, Ok}
use Rattle.std.specs.Prelude.{Err as Error}
use Rattle.ras_host.specs.Told.{Bytes, Out}
use Rattle.ras_read.specs.Files.{file_text}
use Rattle.ras_read.specs.declared.refused.ReadRefused.{ReadRefused}
use Rattle.ras_cli.specs.declared.files.FileKind.TheVariants as files
use Rattle.ras_cli.specs.declared.status.Exit.TheVariants as exits
use Rattle.ras_cli.specs.Status.{code_of}
use Rattle.ras_cli.specs.Refusals.{file_refused}
use Rattle.ras_cli.specs.Plan.{Plan, Done, Refuse, Planned, file_plan, ◌>>=◌}

-- a text is written to standard output
abbrev pub text_written : Bytes → Planned
text_written text = record { code = code_of exits.Ended; actions = Out text ∷ [] }

-- a text that was made, or the line of the refusal
abbrev pub printed : Result Bytes ReadRefused → Plan Planned
printed (Ok text) = Done (text_written text)
printed (Error refusal) = Refuse (file_refused refusal)

-- the text of a file's bytes
abbrev pub print_bytes : Bytes → Plan Planned
print_bytes bytes = printed (file_text bytes)

-- the plan of `read`
abbrev pub print_plan : Bytes → Plan Planned
print_plan name = file_plan files.Printed name >>= print_bytes
