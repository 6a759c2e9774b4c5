-- The canonical text of a script.
use Rattle.std.specs.Prelude.{ℕ, List, [], ◌∷◌, ◌++◌, codes, decimal}
use Rattle.std.specs.List.{flat_map}
use Rattle.fault_script.specs.Fields.{Field, Fields, field_text}
use Rattle.fault_script.specs.Commands.{command_name, command_fields, command_of_act, fields_of_act}
use Rattle.fault_script.specs.declared.commands.Command.{Command}
use Rattle.fault_script.specs.declared.lines.ScriptLine.{ScriptLine}

-- fields, each behind a space
abbrev pub fields_text : List Field → Fields → List ℕ
fields_text [] held = []
fields_text (field ∷ fields) held = codes " " ++ field_text field held ++ fields_text fields held

-- a command with its step, its fields and a line feed
abbrev pub command_text : ℕ → Command → Fields → List ℕ
command_text step command held =
    command_name command ++ codes " " ++ decimal step ++ fields_text (command_fields command) held ++ codes "\n"

-- a line
abbrev pub line_text : ScriptLine → List ℕ
line_text line = command_text line.step (command_of_act line.act) (fields_of_act line.act)

-- the lines of a script, one after the other
abbrev pub script_text : List ScriptLine → List ℕ
script_text lines = flat_map line_text lines
