-- A text is read as lines, whatever memory there is.
use Rattle.std.specs.Prelude.{◌≡◌, ℕ, List, Result, Ok, Err}
use Rattle.fault_script.specs.Script.{lines_in}
use Rattle.fault_script.specs.Steps.{GivesScript}
use Rattle.fault_script.specs.declared.lines.ScriptLine.{ScriptLine}
use Rattle.fault_script.specs.declared.lines.ScriptError.{ScriptError}
use Rattle.fault_script.specs.declared.lines.ScriptError.TheVariants as errors

-- the answer is these lines, or want of memory
abbrev pub IsThese : List ScriptLine → Result (List ScriptLine) ScriptError → Type 0
IsThese lines (Err errors.NoMemory) = Unit {0}
IsThese lines (Err (errors.Refused line refusal)) = ⊥
IsThese lines (Ok others) = others ≡ lines

-- whatever reading the text for a RAM of so many words may answer is these lines, or want of memory
pub record IsReadAs (ram_words : ℕ) (text : List ℕ) (lines : List ScriptLine) : Type 0 where
  pub accepted : lines_in ram_words text ≡ Ok lines
  pub answered : (answer : Result (List ScriptLine) ScriptError) → GivesScript answer (lines_in ram_words text) → IsThese lines answer
