-- What the words of a command line mean.
use Rattle.std.specs.Prelude.{ℕ, List, [], ◌∷◌, cond, Option, Some, None, option_and_then, option_map, codes}
use Rattle.std.specs.Str.{bytes_eq}
use Rattle.ras_numbers.specs.Numbers.{number_of}
use Rattle.clap_words.specs.Reading.{WordText, Given, given_by, value_of}
use Rattle.ras_words.specs.Run.{MachineRequest, RunRequest, DebugRequest, run_after, compare_after, debug_after}
use Rattle.ras_words.specs.Tables as rows

-- what a command line asks for
pub data Command : Type 0 where
  Run : RunRequest → Command
  Compare : MachineRequest → Command
  Debug : DebugRequest → Command
  Read : (file : WordText) → Command
  Demo : (number : ℕ) → Command

-- the file that the words after `read` name; none where they are refused
abbrev pub read_after : List WordText → Option WordText
read_after words = option_and_then (value_of rows.file) (given_by [] rows.read_plain words)

-- the number that was given as a plain word
abbrev pub plain_number : Given → Option ℕ
plain_number given = option_and_then number_of (value_of rows.number given)

-- the number that the words after `demo` give; none where they are refused
abbrev pub demo_after : List WordText → Option ℕ
demo_after words = option_and_then plain_number (given_by [] rows.demo_plain words)

-- the command that the words ask for, of which the first is its name; none where they are refused
abbrev pub command_of : List WordText → Option Command
command_of [] = None
command_of (name ∷ words) =
    cond (bytes_eq name (codes "run")) (option_map Run (run_after words))
    (cond (bytes_eq name (codes "compare")) (option_map Compare (compare_after words))
    (cond (bytes_eq name (codes "debug")) (option_map Debug (debug_after words))
    (cond (bytes_eq name (codes "read")) (option_map Read (read_after words))
    (cond (bytes_eq name (codes "demo")) (option_map Demo (demo_after words)) None))))

-- the run that a command asks for
abbrev pub asked_run : Command → Option RunRequest
asked_run (Run run) = Some run
asked_run _ = None

-- the run that the words ask for
abbrev pub run_of : List WordText → Option RunRequest
run_of words = option_and_then asked_run (command_of words)
