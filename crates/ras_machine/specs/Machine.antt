-- The machine whose memory takes faults: its states, its steps and its run.
use Rattle.std.specs.Prelude.{ℕ, zero, suc, ◌+◌, ◌-◌, List, [], ◌++◌, Option, Some, None}
use Rattle.elf_load.specs.Program.{Program}
use Rattle.mem_stack.specs.Stack.{StackLines, stack_meaning, stack_flips, loaded_stack}
use Rattle.fault_script.specs.declared.lines.ScriptLine.{ScriptLine}
use Rattle.scrubber.specs.Patrol.{new_patrol}
use Rattle.rv64_hart.specs.Harts.{first_harts}
use Rattle.ras_firmware.specs.Firmware.{FirmwareCall, new_firmware}
use Rattle.ras_machine.specs.declared.ending.Stop.TheVariants as stops
use Rattle.ras_machine.specs.declared.ending.Ending.{Ending}
use Rattle.ras_machine.specs.declared.state.MachineState.{MachineState}
use Rattle.ras_machine.specs.declared.settings.Settings.{Settings}
use Rattle.ras_machine.specs.Settings.{ram_words}
use Rattle.ras_machine.specs.Runs.{unless_ended, iterated}
use Rattle.ras_machine.specs.Acted.{Acted}
use Rattle.ras_machine.specs.Actions.{machine_step, left_by, step_ending}
use Rattle.ras_machine.specs.Schedule.{Given}

-- what the machine over the stack keeps between two steps
abbrev pub StackState : Type 0
StackState = MachineState StackLines

-- the machine over the stack: its state, its settings, and its ending once it has one
pub record StackMachine : Type 0 where
  pub state : StackState
  pub settings : Settings
  pub ended : Option Ending

-- the machine of an image that has not run: each word of memory is the codeword of the image's, no cache holds a line, no error
-- was found, and the patrol begins at the first word
abbrev pub machine_made : Program → Settings → StackMachine
machine_made image settings =
    record {
      state = record {
        shared = record { harts = first_harts settings.harts image.entry; memory = loaded_stack image.words };
        turns = record {};
        place = 0;
        beyond = None;
        firmware = new_firmware;
        poll = settings.poll;
        patrol = new_patrol settings.patrol (ram_words settings);
        console = [];
        steps = 0;
      };
      settings = settings;
      ended = None;
    }

-- a step over the stack
abbrev pub stack_step : Settings → Given → List ScriptLine → StackState → Acted StackState
stack_step settings given script s = machine_step stack_meaning stack_flips settings given script s

-- a machine after these actions
abbrev pub machine_after : StackMachine → Acted StackState → StackMachine
machine_after m a = record m { state = left_by a; ended = step_ending a }

-- what one step leaves; a machine that has ended stays as it is
abbrev pub machine_stepped : Given → List ScriptLine → StackMachine → StackMachine
machine_stepped given script m = unless_ended m.ended m (machine_after m (stack_step m.settings given script m.state))

-- what a step tells: nothing where the machine has ended
abbrev pub calls_of_step : Option Ending → Acted StackState → List FirmwareCall
calls_of_step (Some ending) a = []
calls_of_step None a = a.calls

-- a machine after so many steps
abbrev pub machine_steps : Given → List ScriptLine → ℕ → StackMachine → StackMachine
machine_steps given script n m = iterated n (machine_stepped given script) m

-- What a run leaves: the step is made again and again, the last time at the budget, where it ends the run.
abbrev pub machine_run : Given → List ScriptLine → StackMachine → StackMachine
machine_run given script m = machine_steps given script (m.settings.budget + 1 - m.state.steps) m

-- what so many steps tell the error side, in order
unfoldable pub calls_in : Given → List ScriptLine → ℕ → StackMachine → List FirmwareCall
calls_in given script zero m = []
calls_in given script (suc n) m = calls_of_step m.ended (stack_step m.settings given script m.state) ++ calls_in given script n (machine_stepped given script m)

-- the run of an image under the lines of a script, from its first state on
abbrev pub faulty_run : Program → Settings → Given → List ScriptLine → StackMachine
faulty_run image settings given script = machine_run given script (machine_made image settings)

-- how a machine ended, or would at its budget
abbrev pub ending_or : Option Ending → ℕ → Ending
ending_or (Some ending) steps = ending
ending_or None steps = record { stop = stops.Budget; steps = steps }

-- how a run ended
abbrev pub ending_in : StackMachine → Ending
ending_in m = ending_or m.ended m.state.steps
