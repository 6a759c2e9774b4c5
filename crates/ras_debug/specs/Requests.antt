-- What a line asks the debugger for, or the first check that it fails: its bytes, its word, its count of words, and then its
-- fields from left to right.
use Rattle.std.specs.Prelude.{ℕ, ◌+◌, ◌*◌, ◌%◌, Bool, true, false, not, ◌&&◌, ◌==◌, nat_le, if◌then◌else◌, List, length, Option, Some, None, Result, Ok, Err}
use Rattle.std.specs.List.{list_all}
use Rattle.ras_bits.specs.Results.{◌>>=◌}
use Rattle.ras_bits.specs.Map.{is_ram, word_address, word_at}
use Rattle.ras_bits.specs.declared.map.TheConstants.{LAST_STEP}
use Rattle.ras_numbers.specs.Numbers.{number_of}
use Rattle.fault_script.specs.Words.{words_of, without_return}
use Rattle.fault_script.specs.Script.{is_script_byte, is_idle, line_word}
use Rattle.ras_debug.specs.declared.commands.Command.{Command}
use Rattle.ras_debug.specs.declared.commands.Command.TheVariants as command
use Rattle.ras_debug.specs.declared.commands.Why.{Why}
use Rattle.ras_debug.specs.declared.commands.Why.TheVariants as why
use Rattle.ras_debug.specs.declared.fields.TheConstants.{MOST_LINES}
use Rattle.ras_debug.specs.declared.requests.Request.{Request}
use Rattle.ras_debug.specs.declared.requests.Request.TheVariants as request
use Rattle.ras_debug.specs.Commands.{command_of, word_count}

-- ---- fields

-- a field that is no number is refused as that
abbrev pub number_or : Option ℕ → Result ℕ Why
number_or None = Err why.Number
number_or (Some n) = Ok n

-- a number from the low bound to the high one
unfoldable pub number_within : ℕ → ℕ → List ℕ → Result ℕ Why
number_within low high word = do
  n ← number_or (number_of word)
  if nat_le low n && nat_le n high then Ok n else Err why.Range

-- an address that is a multiple of the unit and lies in a RAM of so many words
unfoldable pub ram_address : ℕ → ℕ → List ℕ → Result ℕ Why
ram_address unit ram_words word = do
  n ← number_or (number_of word)
  if n % unit == 0 && is_ram ram_words n then Ok n else Err why.Address

-- an address that an instruction may have
unfoldable pub code_address : List ℕ → Result ℕ Why
code_address word = do
  n ← number_or (number_of word)
  if n % 4 == 0 then Ok n else Err why.Address

-- how many lines of one unit each are asked for from an address on: at least one, at most 256, and all in RAM
unfoldable pub count_from : ℕ → ℕ → ℕ → List ℕ → Result ℕ Why
count_from unit ram_words address word = do
  n ← number_within 1 MOST_LINES word
  if nat_le (address + unit * n) (word_address ram_words) then Ok n else Err why.Range

-- ---- lines

-- what the words behind a command's name ask for
unfoldable pub request_said : ℕ → List (List ℕ) → Command → Result Request Why
request_said ram_words words command.Step = do
  n ← number_within 1 LAST_STEP (line_word words 1)
  Ok (request.Step n)
request_said ram_words words command.Run = Ok request.Run
request_said ram_words words command.Break = do
  address ← code_address (line_word words 1)
  Ok (request.Break address)
request_said ram_words words command.Regs = Ok request.Regs
request_said ram_words words command.Mem = do
  address ← ram_address 8 ram_words (line_word words 1)
  n ← count_from 8 ram_words address (line_word words 2)
  Ok (request.Mem (word_at address) n)
request_said ram_words words command.Poison = Ok request.Poison
request_said ram_words words command.Bank = do
  bank ← number_within 0 2 (line_word words 1)
  Ok (request.Bank bank)
request_said ram_words words command.List = do
  address ← ram_address 4 ram_words (line_word words 1)
  n ← count_from 4 ram_words address (line_word words 2)
  Ok (request.List address n)
request_said ram_words words command.Quit = Ok request.Quit

-- a line is refused unless the test holds
abbrev pub guard : Bool → Why → Result ℕ Why
guard true refusal = Ok 0
guard false refusal = Err refusal

-- what the words of a line ask for
unfoldable pub words_ask : ℕ → List (List ℕ) → Result Request Why
words_ask ram_words words = do
  command ← command_of (line_word words 0)
  counted ← guard (length words == word_count command) why.Count
  request_said ram_words words command

-- what a line asks for, where the RAM has so many words; an empty one or a comment asks for nothing
unfoldable pub request_of : ℕ → List ℕ → Result Request Why
request_of ram_words line =
    if not (list_all is_script_byte (without_return line)) then Err why.Bytes
    else if is_idle (words_of (without_return line)) then Ok request.Nothing
    else words_ask ram_words (words_of (without_return line))
