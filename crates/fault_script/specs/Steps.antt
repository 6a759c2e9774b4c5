-- A script as a value: its lines in rising steps.
use Rattle.std.specs.Prelude.{◌≡◌, ℕ, ◌==◌, nat_lt, List, length, Result, Ok}
use Rattle.std.specs.List.{filter}
use Rattle.std.specs.List.Sorted.{IsNonDecreasingBy}
use Rattle.fault_script.specs.Script.{AnswersBy}
use Rattle.fault_script.specs.declared.lines.ScriptLine.{ScriptLine}
use Rattle.fault_script.specs.declared.lines.ScriptError.{ScriptError}

-- the step of a line
abbrev pub step_of_line : ScriptLine → ℕ
step_of_line line = line.step

-- the lines of one step, in their order
abbrev pub at_step : ℕ → List ScriptLine → List ScriptLine
at_step step lines = filter (λ line. line.step == step) lines

-- the first line of a step in rising lines, or of a later one: so many are of earlier steps
abbrev pub first_line_of : ℕ → List ScriptLine → ℕ
first_line_of step lines = length (filter (λ line. nat_lt line.step step) lines)

-- the lines in rising steps, and those of one step in the order that they had
pub record InRisingSteps (read lines : List ScriptLine) : Type 0 where
  pub rising : IsNonDecreasingBy step_of_line lines
  pub same : (step : ℕ) → at_step step lines ≡ at_step step read

-- a script is answered exactly where reading the text gives lines, and has these in rising steps
abbrev pub GivesScript : Result (List ScriptLine) ScriptError → Result (List ScriptLine) ScriptError → Type 0
GivesScript = AnswersBy (λ lines read. (given : List ScriptLine) × (read ≡ Ok given) × InRisingSteps given lines)
