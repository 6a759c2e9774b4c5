-- The ways in which a run under faults keeps to the flat machine's.
use Rattle.std.specs.Prelude.{◌≡◌, ◌≢◌, ℕ, ◌≤◌, ◌<◌, ◌⊎◌, List, Option, Some, None, slice_index}
use Rattle.std.specs.List.{AllByRecursion}
use Rattle.ras_bits.specs.Map.{word_address}
use Rattle.poison_mem.specs.declared.cell.UseKind.{UseKind}
use Rattle.poison_mem.specs.declared.event.Class.TheVariants.{Critical}
use Rattle.poison_mem.specs.declared.event.RecordView.{RecordView}
use Rattle.poison_mem.specs.declared.record_id.RecordId.{RecordId}
use Rattle.poison_mem.specs.Event.{consumption_of}
use Rattle.poison_mem.specs.RecordId.{bank_number, record_number}
use Rattle.reri_bank.specs.Banks.{stamped}
use Rattle.fault_script.specs.declared.lines.Act.{Act}
use Rattle.fault_script.specs.declared.lines.Act.TheVariants.{Flip, Scrub, Inject, Control}
use Rattle.poison_mem.specs.Asking.{Asking, Answer, Ask}
use Rattle.fault_script.specs.declared.lines.ScriptLine.{ScriptLine}
use Rattle.rv64_hart.specs.Harts.{hart_at}
use Rattle.ras_machine.specs.declared.ending.Stop.TheVariants as stops
use Rattle.ras_machine.specs.declared.ending.Ending.{Ending}
use Rattle.ras_machine.specs.declared.state.MachineState.{MachineState}
use Rattle.ras_machine.specs.Flat.{FlatState, FlatMachine, acting, flat_turn, flat_step, flat_after, flat_whole}
use Rattle.reri_inject.specs.Calls.{due_event}
use Rattle.reri_inject.specs.Critical.{critical_at}
use Rattle.reri_inject.specs.Due.{IsDue}
use Rattle.ras_machine.specs.Due.{inject_lines}
use Rattle.ras_machine.specs.Since.{since, FlipsAtMost, ThirdTold}
use Rattle.ras_machine.specs.Schedule.{Given}

-- a computation, answered by the RAM, asks for this word with this use
abbrev pub AsksFor : {X : Type 0} → List ℕ → Asking X → ℕ → UseKind → Type 0
AsksFor ram (Answer x) w use_kind = ⊥
AsksFor ram (Ask asked for go_on) w use_kind = ((w ≡ asked) × (use_kind ≡ for)) ⊎ AsksFor ram (go_on (slice_index ram asked)) w use_kind

-- none of the first n steps ends the flat machine's run
abbrev pub GoesOn : Given → FlatState → ℕ → Type 0
GoesOn given start n = (m : ℕ) → m < n → (flat_step given m (flat_after given start m)).ending ≡ None

-- A run ends as the flat machine's does; or it stops in step n, since word w, which was flipped twice, is read; or it stops in
-- step n, since an injected error of this record, at this address, is critical.
pub data Way : Type 0 where
  AsFlat : Way
  AtFlips : (n w : ℕ) → (use_kind : UseKind) → Way
  AtInjection : (n : ℕ) → (id : RecordId) → (address : ℕ) → Way

-- the state of the flat machine that a run then shows: at its own end, or after n steps
abbrev pub way_state : Given → FlatMachine → Way → FlatState
way_state given flat AsFlat = (flat_whole given flat).after
way_state given flat (AtFlips n w use_kind) = flat_after given flat.state n
way_state given flat (AtInjection n id address) = flat_after given flat.state n

-- the number of the hart whose turn step n of the flat machine is, and its pc
abbrev pub flat_acting : Given → FlatMachine → ℕ → ℕ
flat_acting given flat n = acting given n (flat_after given flat.state n).harts

abbrev pub flat_pc : Given → FlatMachine → ℕ → ℕ
flat_pc given flat n = (hart_at (flat_after given flat.state n).harts (flat_acting given flat n)).pc

-- and how it ends: as the flat machine; with the word, its use, and the pc of the flat machine after n steps; or with the record
abbrev pub way_ending : Given → FlatMachine → Way → Ending
way_ending given flat AsFlat = (flat_whole given flat).ending
way_ending given flat (AtFlips n w use_kind) = record { stop = stops.Consumed w use_kind (flat_pc given flat n); steps = n }
way_ending given flat (AtInjection n id address) = record { stop = stops.Injected (bank_number id) (record_number id); steps = n }

-- A stop in step n: n is below the budget, and none of the flat machine's first n steps ends it.
pub record IsEarly (given : Given) (flat : FlatMachine) (n : ℕ) : Type 0 where
  pub early : n < flat.budget
  pub goes_on : GoesOn given flat.state n

-- at word w: step n of the flat machine asks for w with this use, and w was flipped twice since it was last stored whole
pub record IsAtFlips (given : Given) (flat : FlatMachine) (lines : List ScriptLine) (n w : ℕ) (use_kind : UseKind) : Type 0 where
  pub early : IsEarly given flat n
  pub asks : let f = flat_after given flat.state n in AsksFor f.ram (flat_turn given n f) w use_kind
  pub flipped_twice : 2 ≤ since given flat.state lines n w

-- at an injection: a critical one of this record, at this address, is due in step n by the lines of the steps below n
pub record IsAtInjection (given : Given) (flat : FlatMachine) (lines : List ScriptLine) (n : ℕ) (id : RecordId) (address : ℕ) : Type 0 where
  pub early : IsEarly given flat n
  pub due : IsDue (inject_lines lines id n) n (critical_at address)

-- what a way takes
abbrev pub IsWay : Given → FlatMachine → List ScriptLine → Way → Type 0
IsWay given flat lines AsFlat = Unit {0}
IsWay given flat lines (AtFlips n w use_kind) = IsAtFlips given flat lines n w use_kind
IsWay given flat lines (AtInjection n id address) = IsAtInjection given flat lines n id address

-- what the boot error region then shows: nothing, the consumption of the word, or the injected error
abbrev pub RegionShows : Given → FlatMachine → Way → Option RecordView → Type 0
RegionShows given flat AsFlat region = region ≡ None
RegionShows given flat (AtFlips n w use_kind) region =
    (v : RecordView) × (region ≡ Some v) × (v.kept ≡ stamped n (consumption_of use_kind (flat_acting given flat n) (word_address w) (flat_pc given flat n)))
RegionShows given flat (AtInjection n id address) region =
    (v : RecordView) × (region ≡ Some v) × (v.kept ≡ due_event n id (critical_at address))

-- an end of a run in this way: with the way's ending, harts, place in the input, console and boot error region
pub record EndsBy {B : Type 0} (given : Given) (flat : FlatMachine) (lines : List ScriptLine) (ending : Ending) (s : MachineState B) (way : Way) : Type 0 where
  pub is_way : IsWay given flat lines way
  pub same_ending : ending ≡ way_ending given flat way
  pub harts : s.shared.harts ≡ (way_state given flat way).harts
  pub place : s.place ≡ (way_state given flat way).place
  pub console : s.console ≡ (way_state given flat way).console
  pub region : RegionShows given flat way s.firmware.memory.region

-- an act injects no critical error
abbrev pub InjectsMildly : Act → Type 0
InjectsMildly (Flip w bit) = Unit {0}
InjectsMildly (Scrub w) = Unit {0}
InjectsMildly (Inject bank rec class delay address) = class ≢ Critical
InjectsMildly (Control bank rec value) = Unit {0}

-- no line does
pub record InjectNoCritical (lines : List ScriptLine) : Type 0 where
  pub each : AllByRecursion (λ (line : ScriptLine). InjectsMildly line.act) lines

-- How a run under these lines keeps to the flat machine, where `beyond` has the first third flip of a word that it met, and
-- `Ends` says what an end in a way is. Without a third flip it ends in one of the ways. A third flip comes only where three
-- lines flip one word, so where no three do, it ends in one of the ways; and where no two do and no critical error is injected,
-- it ends as the flat machine.
pub record KeepsToFlat (beyond : Option (ℕ × ℕ)) (lines : List ScriptLine) (Ends : Way → Type 0) : Type 0 where
  pub ways : beyond ≡ None → (way : Way) × Ends way
  pub third : ThirdTold lines beyond
  pub no_three : FlipsAtMost 2 lines → (way : Way) × Ends way
  pub no_two : FlipsAtMost 1 lines → InjectNoCritical lines → Ends AsFlat
