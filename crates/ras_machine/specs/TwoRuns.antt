-- What the machine whose memory takes faults has in common with the flat machine, step by step.
use Rattle.std.specs.Prelude.{◌≡◌, ℕ, ◌≤◌, ◌<◌, List, Some, None, length, slice_index}
use Rattle.poison_mem.specs.Bus.{BusMeaning}
use Rattle.poison_mem.specs.Flips.{FlipMeaning}
use Rattle.elf_load.specs.Program.{Program}
use Rattle.mem_stack.specs.Stack.{stack_meaning, stack_flips}
use Rattle.mem_stack.specs.StackStands.{StackStands}
use Rattle.std.specs.List.{AllByRecursion}
use Rattle.fault_script.specs.declared.lines.ScriptLine.{ScriptLine}
use Rattle.fault_script.specs.Fits.{FitsRam}
use Rattle.ras_machine.specs.declared.ending.Ending.{Ending}
use Rattle.scrubber.specs.PatrolState.{PatrolState}
use Rattle.ras_machine.specs.declared.state.MachineState.{MachineState}
use Rattle.ras_machine.specs.Errors.{IsQuiet}
use Rattle.ras_machine.specs.Flat.{FlatState, flat_start, flat_of, flat_after}
use Rattle.ras_machine.specs.Machine.{StackMachine}
use Rattle.ras_machine.specs.Since.{since_before, flips_between, ThirdTold}
use Rattle.ras_machine.specs.Ways.{GoesOn, EndsBy, KeepsToFlat}
use Rattle.ras_machine.specs.Schedule.{Given}

-- the memory stands for these words of RAM, each flipped so many times since it was last stored whole
pub record StandsFor {B : Type 0} (bus : BusMeaning B) (stands : B → (ℕ → ℕ) → (ℕ → ℕ) → Type 0) (ram : List ℕ) (q : ℕ → ℕ) (b : B) : Type 0 where
  pub words : bus.words b ≡ length ram
  pub each : stands b (slice_index ram) q

-- Harts, place in the input and console are those of the flat machine after n steps, none of which ends it, and the memory stands for its RAM
-- within so many flips of each word.
pub record InStepWithin {B : Type 0} (bus : BusMeaning B) (stands : B → (ℕ → ℕ) → (ℕ → ℕ) → Type 0) (given : Given) (start : FlatState) (n : ℕ) (q : ℕ → ℕ) (s : MachineState B) : Type 0 where
  pub harts : s.shared.harts ≡ (flat_after given start n).harts
  pub place : s.place ≡ (flat_after given start n).place
  pub console : s.console ≡ (flat_after given start n).console
  pub goes_on : GoesOn given start n
  pub memory : StandsFor bus stands (flat_after given start n).ram q s.shared.memory

-- between two steps: after as many steps, and within the flips since each word was last stored whole
abbrev pub InStep : {B : Type 0} → BusMeaning B → (B → (ℕ → ℕ) → (ℕ → ℕ) → Type 0) → Given → FlatState → List ScriptLine → MachineState B → Type 0
InStep bus stands given start lines s = InStepWithin bus stands given start s.steps (since_before given start lines s.steps) s

-- no word counts more flips than so many of each
abbrev pub CountsWithin : {B : Type 0} → FlipMeaning B → (ℕ → ℕ) → B → Type 0
CountsWithin flips q b = (w : ℕ) → (flips.cells.cell b w).count ≤ q w

-- between two steps: no word counts more flips than lines flipped it in the steps that were made
abbrev pub CountsToScript : {B : Type 0} → FlipMeaning B → List ScriptLine → MachineState B → Type 0
CountsToScript flips lines s = CountsWithin flips (λ w. flips_between lines w 0 s.steps) s.shared.memory

-- a patrol goes over so many words
pub record Patrols (words : ℕ) (p : PatrolState) : Type 0 where
  pub all : p.words ≡ words
  pub inside : p.next < words

-- Two runs, under lines that fit the RAM: up to its ending, and short of a third flip, the machine is in step with the flat
-- machine of this image, within its budget; and it ends in one of the ways.
pub record StaysInStep (image : Program) (given : Given) (lines : List ScriptLine) (m : StackMachine) : Type 0 where
  pub fits : AllByRecursion (FitsRam (length image.words)) lines
  pub low : m.ended ≡ None → m.state.steps ≤ m.settings.budget
  pub in_step : m.ended ≡ None → m.state.beyond ≡ None → InStep stack_meaning StackStands given (flat_start image m.settings.harts) lines m.state
  pub counts : m.ended ≡ None → CountsToScript stack_flips lines m.state
  pub third : ThirdTold lines m.state.beyond
  pub patrol : m.ended ≡ None → Patrols (length image.words) m.state.patrol
  pub errors : m.ended ≡ None → IsQuiet lines m.state.steps m.state.firmware
  pub over : (ending : Ending) → m.ended ≡ Some ending
      → KeepsToFlat m.state.beyond lines (EndsBy given (flat_of image m.settings) lines ending m.state)

-- a machine that is so before is so after
abbrev pub KeepsInStep : Given → List ScriptLine → StackMachine → StackMachine → Type 0
KeepsInStep given lines before after = (image : Program) → StaysInStep image given lines before → StaysInStep image given lines after
