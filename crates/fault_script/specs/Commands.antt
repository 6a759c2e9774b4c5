-- The commands: each with its name and its fields, and what a line of it does.
use Rattle.std.specs.Prelude.{ℕ, List, [], ◌∷◌, Result, Ok, Err, codes, if◌then◌else◌}
use Rattle.std.specs.Str.{bytes_eq}
use Rattle.ras_bits.specs.Map.{word_address, word_at}
use Rattle.fault_script.specs.Fields.{Field, Address, Bit, Bank, Record, ClassName, Delay, Value, Fields, no_fields}
use Rattle.fault_script.specs.declared.lines.Act.{Act}
use Rattle.fault_script.specs.declared.lines.Act.TheVariants as act
use Rattle.fault_script.specs.declared.commands.Command.{Command}
use Rattle.fault_script.specs.declared.commands.Command.TheVariants as command
use Rattle.fault_script.specs.declared.lines.Why.{Why}
use Rattle.fault_script.specs.declared.lines.Why.TheVariants as why

abbrev pub command_name : Command → List ℕ
command_name command.Flip = codes "flip"
command_name command.Scrub = codes "scrub"
command_name command.Inject = codes "inject"
command_name command.Control = codes "control"

-- the fields behind the name and the step, in the order of the line
abbrev pub command_fields : Command → List Field
command_fields command.Flip = Address ∷ Bit ∷ []
command_fields command.Scrub = Address ∷ []
command_fields command.Inject = Bank ∷ Record ∷ ClassName ∷ Delay ∷ Address ∷ []
command_fields command.Control = Bank ∷ Record ∷ Value ∷ []

-- what a line with these fields does
abbrev pub act_of : Command → Fields → Act
act_of command.Flip f = act.Flip (word_at f.address) f.bit
act_of command.Scrub f = act.Scrub (word_at f.address)
act_of command.Inject f = act.Inject f.bank f.rec f.class f.delay f.address
act_of command.Control f = act.Control f.bank f.rec f.value

-- the command of a line that does this
abbrev pub command_of_act : Act → Command
command_of_act (act.Flip w bit) = command.Flip
command_of_act (act.Scrub w) = command.Scrub
command_of_act (act.Inject bank rec class delay addr) = command.Inject
command_of_act (act.Control bank rec value) = command.Control

-- and its fields
abbrev pub fields_of_act : Act → Fields
fields_of_act (act.Flip w bit) = record no_fields { address = word_address w; bit = bit }
fields_of_act (act.Scrub w) = record no_fields { address = word_address w }
fields_of_act (act.Inject bank rec class delay addr) =
    record no_fields { bank = bank; rec = rec; class = class; delay = delay; address = addr }
fields_of_act (act.Control bank rec value) = record no_fields { bank = bank; rec = rec; value = value }

-- every command
abbrev pub commands : List Command
commands = command.Flip ∷ command.Scrub ∷ command.Inject ∷ command.Control ∷ []

-- the first of these commands that has this name
abbrev pub command_among : List Command → List ℕ → Result Command Why
command_among [] word = Err why.Word
command_among (command ∷ others) word =
    if bytes_eq word (command_name command) then Ok command else command_among others word

-- the command that a word names
unfoldable pub command_of : List ℕ → Result Command Why
command_of word = command_among commands word
