-- The tables of the commands: their plain words and their options, with the ranges and defaults of numbers.
use Rattle.std.specs.Prelude.{List, [], ◌∷◌, codes}
use Rattle.clap_words.specs.Reading.{WordText, Opt}
use Rattle.clap_words.specs.declared.table.Kind.TheVariants.{Flag, Text, Number}
use Rattle.ras_words.specs.declared.limits.TheConstants.{STEPS, RAM_SIZE, DRAIN_STEPS, PATROL_STEPS, HART_COUNT}

-- the image is raw bytes
abbrev pub raw : Opt
raw = record { name = codes "raw"; kind = Flag }

-- the file of the script
abbrev pub script : Opt
script = record { name = codes "script"; kind = Text }

-- the file of the input
abbrev pub input : Opt
input = record { name = codes "input"; kind = Text }

-- the most steps
abbrev pub budget : Opt
budget = record { name = codes "budget"; kind = Number STEPS }

-- the size of RAM, in units of 2^20 bytes
abbrev pub ram_mib : Opt
ram_mib = record { name = codes "ram-mib"; kind = Number RAM_SIZE }

-- the steps from one drain of the error records to the next
abbrev pub poll : Opt
poll = record { name = codes "poll"; kind = Number DRAIN_STEPS }

-- the steps from one patrol scrub to the next
abbrev pub patrol : Opt
patrol = record { name = codes "patrol"; kind = Number PATROL_STEPS }

-- how many harts there are
abbrev pub harts : Opt
harts = record { name = codes "harts"; kind = Number HART_COUNT }

-- the file of the schedule
abbrev pub schedule : Opt
schedule = record { name = codes "schedule"; kind = Text }

-- the file that the error records are written to
abbrev pub records : Opt
records = record { name = codes "records"; kind = Text }

-- the file that firmware's memory is written to
abbrev pub tables : Opt
tables = record { name = codes "tables"; kind = Text }

-- the file of the image, a plain word
abbrev pub image : WordText
image = codes "image"

-- the file of the debugger's commands, a plain word
abbrev pub commands : WordText
commands = codes "commands"

-- the file that is printed, a plain word
abbrev pub file : WordText
file = codes "file"

-- the number of the demo workload, a plain word
abbrev pub number : WordText
number = codes "number"

-- the options of `run`
abbrev pub run_options : List Opt
run_options = raw ∷ script ∷ input ∷ budget ∷ ram_mib ∷ poll ∷ patrol ∷ harts ∷ schedule ∷ records ∷ tables ∷ []

-- the plain words of `run`
abbrev pub run_plain : List WordText
run_plain = image ∷ []

-- the options of `compare`
abbrev pub compare_options : List Opt
compare_options = raw ∷ script ∷ input ∷ budget ∷ ram_mib ∷ poll ∷ patrol ∷ harts ∷ schedule ∷ []

-- the plain words of `compare`
abbrev pub compare_plain : List WordText
compare_plain = image ∷ []

-- the options of `debug`
abbrev pub debug_options : List Opt
debug_options = compare_options

-- the plain words of `debug`
abbrev pub debug_plain : List WordText
debug_plain = image ∷ commands ∷ []

-- the plain words of `read`, which has no options
abbrev pub read_plain : List WordText
read_plain = file ∷ []

-- the plain words of `demo`, which has no options
abbrev pub demo_plain : List WordText
demo_plain = number ∷ []
