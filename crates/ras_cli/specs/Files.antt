-- The files that a command reads: how long each may be, and what lines call it.
use Rattle.std.specs.Prelude.{ℕ, codes}
use Rattle.ras_host.specs.Told.{Bytes}
use Rattle.ras_words.specs.declared.limits.TheConstants.{COMMANDS_LIMIT, IMAGE_LIMIT, SCRIPT_LIMIT, INPUT_LIMIT, SCHEDULE_LIMIT, PRINTED_LIMIT}
use Rattle.ras_cli.specs.declared.files.FileKind.{FileKind}
use Rattle.ras_cli.specs.declared.files.FileKind.TheVariants.{Image, Script, Input, Schedule, Commands, Printed}

-- the most bytes of a file
abbrev pub limit_of : FileKind → ℕ
limit_of Image = IMAGE_LIMIT
limit_of Script = SCRIPT_LIMIT
limit_of Input = INPUT_LIMIT
limit_of Schedule = SCHEDULE_LIMIT
limit_of Commands = COMMANDS_LIMIT
limit_of Printed = PRINTED_LIMIT

-- what lines call it
abbrev pub word_of : FileKind → Bytes
word_of Image = codes "image"
word_of Script = codes "script"
word_of Input = codes "input"
word_of Schedule = codes "schedule"
word_of Commands = codes "commands"
word_of Printed = codes "file"
