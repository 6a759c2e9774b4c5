-- What the words of a command that runs the machine mean.
use Rattle.std.specs.Prelude.{ℕ, ◌==◌, Bool, List, Option, Some, None, option_and_then, option_map, if◌then◌else◌}
use Rattle.clap_words.specs.Numbers.{number_of_kind}
use Rattle.clap_words.specs.Reading.{WordText, Opt, Given, given_by, has, value_of}
use Rattle.ras_words.specs.Tables as rows

-- what a command that runs the machine asks for
pub record MachineRequest : Type 0 where
  pub image : WordText
  pub raw : Bool
  pub script : Option WordText
  pub input : Option WordText
  pub budget : ℕ
  pub ram_mib : ℕ
  pub poll : ℕ
  pub patrol : ℕ
  pub harts : ℕ
  pub schedule : Option WordText

-- what `run` asks for: a run of the machine, and the files that it writes
pub record RunRequest : Type 0 where
  pub machine : MachineRequest
  pub records : Option WordText
  pub tables : Option WordText

-- what `debug` asks for: a run of the machine, and the file of the debugger's commands
pub record DebugRequest : Type 0 where
  pub machine : MachineRequest
  pub commands : WordText

-- the number of an option
abbrev pub number_in : Opt → Given → Option ℕ
number_in o given = number_of_kind o.kind (value_of o.name given)

-- an interval of 1 is refused, since a drain takes two steps
abbrev pub unless_one : ℕ → Option ℕ
unless_one n = if n == 1 then None else Some n

-- the steps from one drain to the next
abbrev pub poll_in : Given → Option ℕ
poll_in given = option_and_then unless_one (number_in rows.poll given)

-- the run of an image with these numbers
abbrev pub machine_with : Given → WordText → ℕ → ℕ → ℕ → ℕ → ℕ → MachineRequest
machine_with given image budget ram_mib poll patrol harts = record {
  image = image;
  raw = has rows.raw.name given;
  script = value_of rows.script.name given;
  input = value_of rows.input.name given;
  budget = budget;
  ram_mib = ram_mib;
  poll = poll;
  patrol = patrol;
  harts = harts;
  schedule = value_of rows.schedule.name given;
}

-- the run of the machine that an image and options ask for, where each number is one within its limits
abbrev pub machine_given : Given → Option MachineRequest
machine_given given = option_and_then (λ image. option_and_then (λ budget. option_and_then (λ ram_mib. option_and_then (λ poll. option_and_then (λ patrol. option_and_then (λ harts.
    Some (machine_with given image budget ram_mib poll patrol harts))
    (number_in rows.harts given)) (number_in rows.patrol given)) (poll_in given)) (number_in rows.ram_mib given)) (number_in rows.budget given)) (value_of rows.image given)

-- with the files that it writes
abbrev pub run_with : Given → MachineRequest → RunRequest
run_with given machine = record {
  machine = machine;
  records = value_of rows.records.name given;
  tables = value_of rows.tables.name given;
}

-- the run that an image and options ask for
abbrev pub run_given : Given → Option RunRequest
run_given given = option_map (run_with given) (machine_given given)

-- the run that the words after `run` ask for; none where they are refused
abbrev pub run_after : List WordText → Option RunRequest
run_after words = option_and_then run_given (given_by rows.run_options rows.run_plain words)

-- the run of the machine that the words after `compare` ask for; none where they are refused
abbrev pub compare_after : List WordText → Option MachineRequest
compare_after words = option_and_then machine_given (given_by rows.compare_options rows.compare_plain words)

-- with a file of commands
abbrev pub debug_with : MachineRequest → WordText → DebugRequest
debug_with machine commands = record { machine = machine; commands = commands }

-- the session that an image, a file of commands and options ask for
abbrev pub debug_given : Given → Option DebugRequest
debug_given given = option_and_then (λ machine. option_map (debug_with machine) (value_of rows.commands given)) (machine_given given)

-- the session that the words after `debug` ask for; none where they are refused
abbrev pub debug_after : List WordText → Option DebugRequest
debug_after words = option_and_then debug_given (given_by rows.debug_options rows.debug_plain words)
