-- Words as the program has read them.
use Rattle.std.specs.Prelude.{◌≤◌, ◌≢◌, option_map}
pub use Rattle.clap_words.specs.Table.{texts_of}
use Rattle.ras_bits.specs.declared.map.TheConstants.{LAST_STEP}
use Rattle.ras_words.specs.Commands as asked
use Rattle.ras_words.specs.Run.{MachineRequest, RunRequest, DebugRequest}
use Rattle.ras_words.specs.declared.commands.Command as declared
use Rattle.ras_words.specs.declared.commands.Command.TheVariants as read
use Rattle.ras_words.specs.declared.commands.MachineWords.{MachineWords}
use Rattle.ras_words.specs.declared.commands.RunWords.{RunWords}
use Rattle.ras_words.specs.declared.commands.DebugWords.{DebugWords}
use Rattle.ras_words.specs.declared.limits.TheConstants.{LEAST_RAM_MIB, MOST_RAM_MIB, DEFAULT_HARTS, MOST_HARTS}

-- the run of the machine that was read
abbrev pub machine_in : MachineWords → MachineRequest
machine_in words = record {
  image = words.image.now;
  raw = words.raw;
  script = option_map (λ s. s.now) words.script;
  input = option_map (λ s. s.now) words.input;
  budget = words.budget;
  ram_mib = words.ram_mib;
  poll = words.poll;
  patrol = words.patrol;
  harts = words.harts;
  schedule = option_map (λ s. s.now) words.schedule;
}

-- the run that was read
abbrev pub run_in : RunWords → RunRequest
run_in words = record {
  machine = machine_in words.machine;
  records = option_map (λ s. s.now) words.records;
  tables = option_map (λ s. s.now) words.tables;
}

-- the session that was read
abbrev pub debug_in : DebugWords → DebugRequest
debug_in words = record { machine = machine_in words.machine; commands = words.commands.now }

-- the command that was read
abbrev pub command_in : declared.Command → asked.Command
command_in (read.Run run) = asked.Run (run_in run)
command_in (read.Compare machine) = asked.Compare (machine_in machine)
command_in (read.Debug debug) = asked.Debug (debug_in debug)
command_in (read.Read file) = asked.Read file.now
command_in (read.Demo number) = asked.Demo number

-- its numbers are in their ranges
pub record IsInLimits (words : MachineWords) : Type 0 where
  pub budget : words.budget ≤ LAST_STEP
  pub ram_least : LEAST_RAM_MIB ≤ words.ram_mib
  pub ram_most : words.ram_mib ≤ MOST_RAM_MIB
  pub poll_is_not_one : words.poll ≢ 1
  pub poll : words.poll ≤ LAST_STEP
  pub patrol : words.patrol ≤ LAST_STEP
  pub some_harts : DEFAULT_HARTS ≤ words.harts
  pub few_harts : words.harts ≤ MOST_HARTS

-- so are those of a command
abbrev pub AreInLimits : declared.Command → Type 0
AreInLimits (read.Run run) = IsInLimits run.machine
AreInLimits (read.Compare machine) = IsInLimits machine
AreInLimits (read.Debug debug) = IsInLimits debug.machine
AreInLimits (read.Read file) = Unit {0}
AreInLimits (read.Demo number) = Unit {0}
