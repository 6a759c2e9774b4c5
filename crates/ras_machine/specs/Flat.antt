-- The flat machine: its state, its steps, and its run.
use Rattle.std.specs.Prelude.{ℕ, zero, suc, ◌+◌, List, [], ◌∷◌, ◌++◌, Option, Some, None, length, slice_index, slice_set, if◌then◌else◌}
use Rattle.poison_mem.specs.Asking.{Asking, Answer, Ask}
use Rattle.poison_mem.specs.Merge.{merged_value}
use Rattle.elf_load.specs.Program.{Program}
use Rattle.rv64_hart.specs.Around.{around_at}
use Rattle.rv64_hart.specs.Harts.{hart_at, first_harts, end_applied, peers_of}
use Rattle.rv64_hart.specs.State.{ArchitecturalState}
use Rattle.rv64_hart.specs.Outcome.{Outcome, Store, has_room}
use Rattle.rv64_hart.specs.Turn.{turn}
use Rattle.ras_machine.specs.declared.ending.Stop.TheVariants as stops
use Rattle.ras_machine.specs.declared.ending.Ending.{Ending}
use Rattle.ras_machine.specs.declared.settings.Settings.{Settings}
use Rattle.ras_machine.specs.Ends.{guest_ends}
use Rattle.ras_machine.specs.Schedule.{Given, pick}
use Rattle.ras_machine.specs.Runs.{Move, RunResult, ended_or, unless_ended}

-- what the flat machine keeps between two steps: its harts, how many bytes of the input they took, its RAM and its console
pub record FlatState : Type 0 where
  pub harts : List ArchitecturalState
  pub place : ℕ
  pub ram : List ℕ
  pub console : List ℕ

-- The state that an image starts in: of so many harts hart 0 is started and enters the image, nothing of the input is taken, the
-- RAM has the image's words, and the console is empty.
abbrev pub flat_start : Program → ℕ → FlatState
flat_start image harts = record { harts = first_harts harts image.entry; place = 0; ram = image.words; console = [] }

-- the number of the hart whose turn step n is
abbrev pub acting : Given → ℕ → List ArchitecturalState → ℕ
acting given n harts = pick given.schedule (length harts) n

-- the turn of that hart in step n, in a RAM of so many words
abbrev pub turn_of : Given → ℕ → ℕ → List ArchitecturalState → ℕ → Asking Outcome
turn_of given n words harts place =
    turn (around_at words (peers_of harts) n given.input place) (hart_at harts (acting given n harts))

-- what a computation answers where the RAM answers its asks
abbrev pub flat_answered : {X : Type 0} → List ℕ → Asking X → X
flat_answered ram (Answer x) = x
flat_answered ram (Ask w use_kind go_on) = flat_answered ram (go_on (slice_index ram w))

-- the RAM after stores, in order
abbrev pub ram_after : List ℕ → List Store → List ℕ
ram_after ram [] = ram
ram_after ram (s ∷ stores) = ram_after (slice_set ram s.w (merged_value (slice_index ram s.w) s.value s.mask)) stores

-- what a step of the flat machine leaves
abbrev pub FlatMove : Type 0
FlatMove = Move FlatState

-- What step n makes of an outcome of hart i: where the console has no room it stops and changes nothing; else the stores, the bytes, the
-- harts' new states and the place are applied.
unfoldable pub flat_outcome : ℕ → ℕ → FlatState → Outcome → FlatMove
flat_outcome i n s o =
    if has_room s.console o.bytes
    then record {
      after = record { harts = end_applied i o s.harts; place = s.place + o.taken; ram = ram_after s.ram o.stores; console = s.console ++ o.bytes };
      ending = guest_ends o.ending n;
    }
    else record { after = s; ending = Some (record { stop = stops.ConsoleFull; steps = n }) }

-- the turn of step n with this input
abbrev pub flat_turn : Given → ℕ → FlatState → Asking Outcome
flat_turn given n s = turn_of given n (length s.ram) s.harts s.place

-- step n with this input: the RAM answers each ask of the turn
abbrev pub flat_step : Given → ℕ → FlatState → FlatMove
flat_step given n s = flat_outcome (acting given n s.harts) n s (flat_answered s.ram (flat_turn given n s))

-- what a run of the flat machine leaves
abbrev pub FlatRun : Type 0
FlatRun = RunResult FlatState

-- The run from step n on, with so many steps left of the budget.
unfoldable pub flat_run : Given → ℕ → ℕ → FlatState → FlatRun
flat_run given zero n s = record { after = s; ending = record { stop = stops.Budget; steps = n } }
flat_run given (suc left) n s =
    let move = flat_step given n s in
    ended_or move.ending move.after (flat_run given left (n + 1) move.after)

-- the state after n steps
unfoldable pub flat_after : Given → FlatState → ℕ → FlatState
flat_after given start zero = start
flat_after given start (suc n) = (flat_step given n (flat_after given start n)).after

-- a flat machine: its state, its budget, and its ending once it has one
pub record FlatMachine : Type 0 where
  pub state : FlatState
  pub budget : ℕ
  pub ended : Option Ending

-- the machine of an image that has not run
abbrev pub flat_made : Program → ℕ → ℕ → FlatMachine
flat_made image budget harts = record { state = flat_start image harts; budget = budget; ended = None }

-- the machine of an image that has the budget and the harts of these settings
abbrev pub flat_of : Program → Settings → FlatMachine
flat_of image settings = flat_made image settings.budget settings.harts

-- the whole run of a machine that has not run
abbrev pub flat_whole : Given → FlatMachine → FlatRun
flat_whole given m = flat_run given m.budget 0 m.state

-- a machine after its whole run
abbrev pub after_run : FlatMachine → FlatRun → FlatMachine
after_run m run = record m { state = run.after; ended = Some run.ending }

-- what a run leaves; a machine that has ended stays as it is
abbrev pub flat_ran : Given → FlatMachine → FlatMachine
flat_ran given m = unless_ended m.ended m (after_run m (flat_whole given m))
