-- What a text is as a script: its lines, or the first line that fails and why.
use Rattle.std.specs.Prelude.{◌≡◌, ℕ, zero, suc, ◌+◌, Bool, true, false, not, ◌&&◌, ◌||◌, ◌==◌, nat_le, if◌then◌else◌, List, [], ◌∷◌, ◌++◌, length, get_or, Option, Some, None, Result, Ok, Err, slice_index}
use Rattle.std.specs.List.{list_all}
use Rattle.ras_bits.specs.Results.{◌>>=◌}
use Rattle.ras_bits.specs.declared.map.TheConstants.{LAST_STEP}
use Rattle.fault_script.specs.Words.{lines_of, words_of, without_return}
use Rattle.fault_script.specs.Fields.{Field, Fields, no_fields, number_up_to, field_read}
use Rattle.fault_script.specs.Commands.{command_of, command_fields, act_of}
use Rattle.fault_script.specs.declared.lines.TheConstants.{MOST_LINES}
use Rattle.fault_script.specs.declared.commands.Command.{Command}
use Rattle.fault_script.specs.declared.lines.Act.{Act}
use Rattle.fault_script.specs.declared.lines.Why.{Why}
use Rattle.fault_script.specs.declared.lines.Why.TheVariants as why
use Rattle.fault_script.specs.declared.lines.ScriptLine.{ScriptLine}
use Rattle.fault_script.specs.declared.lines.ScriptError.{ScriptError}
use Rattle.fault_script.specs.declared.lines.ScriptError.TheVariants as errors

-- Lines

-- the word with this number in a line, counted from 0
abbrev pub line_word : List (List ℕ) → ℕ → List ℕ
line_word words k = get_or words k []

-- what the words from number k on say as these fields, the first that is refused first
abbrev pub fields_read : ℕ → List (List ℕ) → ℕ → List Field → Fields → Result Fields Why
fields_read ram_words words k [] read = Ok read
fields_read ram_words words k (field ∷ fields) read = do
  read ← field_read ram_words field (line_word words k) read
  fields_read ram_words words (k + 1) fields read

-- what the words behind the step say
unfoldable pub act_said : ℕ → List (List ℕ) → Command → Result Act Why
act_said ram_words words command = do
  fields ← fields_read ram_words words 2 (command_fields command) no_fields
  Ok (act_of command fields)

-- a line is refused unless the test holds
abbrev pub guard : Bool → Why → Result ℕ Why
guard true refusal = Ok 0
guard false refusal = Err refusal

-- a line that acts, after so many that did
unfoldable pub acting_line : ℕ → ℕ → List (List ℕ) → Result ScriptLine Why
acting_line ram_words acted words = do
  command ← command_of (line_word words 0)
  counted ← guard (length words == length (command_fields command) + 2) why.Count
  room ← guard (not (acted == MOST_LINES)) why.TooMany
  step ← number_up_to why.Step LAST_STEP (line_word words 1)
  act ← act_said ram_words words command
  Ok (record { step = step; act = act })

-- printable ASCII, a space or a tab
abbrev pub is_script_byte : ℕ → Bool
is_script_byte b = (nat_le 32 b && nat_le b 126) || b == 9

-- what was read is a line that acts
abbrev pub as_some : {X : Type 0} → Result X Why → Result (Option X) Why
as_some (Ok x) = Ok (Some x)
as_some (Err refusal) = Err refusal

-- no word, or a first one that begins a comment
abbrev pub is_idle : List (List ℕ) → Bool
is_idle words = length words == 0 || slice_index (line_word words 0) 0 == 35

-- what a line does, if it acts, after so many that did
unfoldable pub line_of : ℕ → ℕ → List ℕ → Result (Option ScriptLine) Why
line_of ram_words acted line =
    if not (list_all is_script_byte (without_return line)) then Err why.Bytes
    else if is_idle (words_of (without_return line)) then Ok None
    else as_some (acting_line ram_words acted (words_of (without_return line)))

-- Texts

-- a refusal with the number of its line
abbrev pub at_line : {X : Type 0} → ℕ → Result X Why → Result X ScriptError
at_line number (Ok x) = Ok x
at_line number (Err refusal) = Err (errors.Refused number refusal)

-- these lines, and one more if it acts
abbrev pub with_line : List ScriptLine → Option ScriptLine → List ScriptLine
with_line before None = before
with_line before (Some line) = before ++ line ∷ []

-- what the first so many lines give: each is read behind those before it, and the first that fails is refused
abbrev pub first_lines : ℕ → List (List ℕ) → ℕ → Result (List ScriptLine) ScriptError
first_lines ram_words lines zero = Ok []
first_lines ram_words lines (suc k) = do
  before ← first_lines ram_words lines k
  read ← at_line (k + 1) (line_of ram_words (length before) (get_or lines k []))
  Ok (with_line before read)

-- the lines of a text that act, in its order, or the first line that fails
abbrev pub lines_in : ℕ → List ℕ → Result (List ScriptLine) ScriptError
lines_in ram_words text = first_lines ram_words (lines_of text) (length (lines_of text))

-- a result with its value changed
abbrev pub map_ok : {X Y E : Type 0} → (X → Y) → Result X E → Result Y E
map_ok f (Ok x) = Ok (f x)
map_ok f (Err e) = Err e

-- a refusal is answered exactly where reading gives it; of lines that are answered, the relation says what reading
-- gives; want of memory says nothing
abbrev pub AnswersBy : (List ScriptLine → Result (List ScriptLine) ScriptError → Type 0)
    → Result (List ScriptLine) ScriptError → Result (List ScriptLine) ScriptError → Type 0
AnswersBy from_lines (Err errors.NoMemory) read = Unit {0}
AnswersBy from_lines (Err (errors.Refused line refusal)) read = read ≡ Err (errors.Refused line refusal)
AnswersBy from_lines (Ok lines) read = from_lines lines read

-- the lines that reading gives are answered
abbrev pub GivesLines : Result (List ScriptLine) ScriptError → Result (List ScriptLine) ScriptError → Type 0
GivesLines = AnswersBy (λ lines read. read ≡ Ok lines)
