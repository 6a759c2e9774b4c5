-- A machine with what its run is given, its steps, and where it goes on to.
use Rattle.std.specs.Prelude.{ℕ, zero, suc, ◌-◌, Bool, ◌||◌, ◌==◌, is_some, if◌then◌else◌, List, ◌++◌, Option, Some, None, codes, decimal}
use Rattle.std.specs.List.{list_any}
use Rattle.ras_numbers.specs.Numbers.{address_text}
use Rattle.fault_script.specs.declared.lines.ScriptLine.{ScriptLine}
use Rattle.rv64_hart.specs.Harts.{hart_at}
use Rattle.ras_machine.specs.declared.ending.Ending.{Ending}
use Rattle.ras_machine.specs.Machine.{StackMachine, machine_stepped, machine_steps}
use Rattle.ras_machine.specs.Schedule.{Given, pick}
use Rattle.ras_report.specs.Stops.{stop_text}

-- the machine, its input and schedule, and the lines of its script
pub record RunState : Type 0 where
  pub machine : StackMachine
  pub given : Given
  pub script : List ScriptLine

-- the pc of the hart that makes the next step
abbrev pub next_pc : RunState → ℕ
next_pc r = (hart_at r.machine.state.shared.harts (pick r.given.schedule r.machine.settings.harts r.machine.state.steps)).pc

-- after one step; a machine that has ended stays as it is
abbrev pub stepped : RunState → RunState
stepped r = record r { machine = machine_stepped r.given r.script r.machine }

-- after so many steps
abbrev pub advanced : ℕ → RunState → RunState
advanced n r = record r { machine = machine_steps r.given r.script n r.machine }

-- one of these breakpoints
abbrev pub is_among : List ℕ → ℕ → Bool
is_among breakpoints address = list_any (λ b. b == address) breakpoints

-- the machine has ended, or the next step is at a breakpoint
abbrev pub is_held : List ℕ → RunState → Bool
is_held breakpoints r = is_some r.machine.ended || is_among breakpoints (next_pc r)

-- a step again and again until the run is held; at most so many
unfoldable pub held_within : ℕ → List ℕ → RunState → RunState
held_within zero breakpoints r = r
held_within (suc left) breakpoints r = if is_held breakpoints r then r else held_within left breakpoints (stepped r)

-- one step, and on to a breakpoint or to the ending, which comes with the step behind the budget at the latest
abbrev pub run_on : List ℕ → RunState → RunState
run_on breakpoints r = held_within (r.machine.settings.budget - r.machine.state.steps) breakpoints (stepped r)

-- ---- the line that says where it stands

-- the machine has ended
abbrev pub stop_line : Ending → List ℕ
stop_line ending = codes "stop " ++ stop_text ending.stop ++ codes " steps " ++ decimal ending.steps ++ codes "\n"

-- the machine goes on, after so many steps, at this pc
abbrev pub at_line : List ℕ → ℕ → ℕ → List ℕ
at_line lead steps pc = lead ++ decimal steps ++ codes " pc " ++ address_text pc ++ codes "\n"

-- how it ended, or where it stands
abbrev pub standing_line : List ℕ → Option Ending → ℕ → ℕ → List ℕ
standing_line lead None steps pc = at_line lead steps pc
standing_line lead (Some ending) steps pc = stop_line ending

abbrev pub standing_of : List ℕ → RunState → List ℕ
standing_of lead r = standing_line lead r.machine.ended r.machine.state.steps (next_pc r)
