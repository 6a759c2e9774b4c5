-- The commands of the debugger, their names and their words, and why a line is refused.
use Rattle.std.specs.Prelude.{ℕ, List, [], ◌∷◌, Result, Ok, Err, codes, if◌then◌else◌}
use Rattle.std.specs.Str.{bytes_eq}
use Rattle.ras_debug.specs.declared.commands.Command.{Command}
use Rattle.ras_debug.specs.declared.commands.Command.TheVariants as command
use Rattle.ras_debug.specs.declared.commands.Why.{Why}
use Rattle.ras_debug.specs.declared.commands.Why.TheVariants as why

-- a command's name
abbrev pub command_name : Command → List ℕ
command_name command.Step = codes "step"
command_name command.Run = codes "run"
command_name command.Break = codes "break"
command_name command.Regs = codes "regs"
command_name command.Mem = codes "mem"
command_name command.Poison = codes "poison"
command_name command.Bank = codes "bank"
command_name command.List = codes "list"
command_name command.Quit = codes "quit"

-- how many words a line of it has, with the name
abbrev pub word_count : Command → ℕ
word_count command.Step = 2
word_count command.Run = 1
word_count command.Break = 2
word_count command.Regs = 1
word_count command.Mem = 3
word_count command.Poison = 1
word_count command.Bank = 2
word_count command.List = 3
word_count command.Quit = 1

-- every command
abbrev pub commands : List Command
commands =
    command.Step ∷ command.Run ∷ command.Break ∷ command.Regs ∷ command.Mem ∷ command.Poison ∷ command.Bank ∷ command.List
    ∷ command.Quit ∷ []

-- the first of these commands that has this name
abbrev pub command_among : List Command → List ℕ → Result Command Why
command_among [] word = Err why.Word
command_among (command ∷ others) word =
    if bytes_eq word (command_name command) then Ok command else command_among others word

-- the command that a word names
unfoldable pub command_of : List ℕ → Result Command Why
command_of word = command_among commands word

-- why a line is refused, as a word
abbrev pub why_text : Why → List ℕ
why_text why.Bytes = codes "bytes"
why_text why.Word = codes "word"
why_text why.Count = codes "count"
why_text why.Number = codes "number"
why_text why.Address = codes "address"
why_text why.Range = codes "range"
why_text why.Full = codes "full"
