-- The banks under all that happens to them in a run, and what their records then have to do with the inject lines.
use Rattle.std.specs.Prelude.{◌≡◌, ℕ, ◌+◌, ◌≤◌, ◌<◌, if◌then◌else◌, List, [], ◌∷◌, Some, None}
use Rattle.poison_mem.specs.declared.event.Event.{Event}
use Rattle.poison_mem.specs.declared.event.EventKind.TheVariants.{Injected}
use Rattle.poison_mem.specs.Event.{event_of}
use Rattle.poison_mem.specs.RecordId.{bank_number, record_number}
use Rattle.poison_mem.specs.declared.record_id.RecordId.{RecordId}
use Rattle.reri_bank.specs.declared.state.RecState.{RecState}
use Rattle.reri_bank.specs.BanksState.{BanksState}
use Rattle.reri_bank.specs.State.{state_logged}
use Rattle.reri_bank.specs.Bank.{state_staged}
use Rattle.reri_bank.specs.Banks.{banks_staged, stamped}
use Rattle.reri_bank.specs.StateAt.{state_at, is_record, EachRecord}
use Rattle.reri_inject.specs.Due.{Injection, InjectLine, IsDue, staged_in}
use Rattle.reri_inject.specs.Inject.{staged_now, begun}

-- nothing is staged between these states of the banks, and nothing taken away
abbrev pub KeepsStaged : BanksState → BanksState → Type 0
KeepsStaged before after = EachRecord (λ s t. t.staged ≡ s.staged) before after

-- each record that can be injected into has staged what its lines say, after step n
abbrev pub AreStaged : (RecordId → List InjectLine) → ℕ → BanksState → Type 0
AreStaged lines n b = (id : RecordId) → bank_number id < 2 → (state_at b id).staged ≡ staged_in n (lines id)

-- what happens to the banks: an injection is staged, a step begins, or anything else, such as a log, a write of a register, a
-- mark or a clear
pub data BanksCall : Type 0 where
  StageAt : RecordId → (delay : ℕ) → Injection → BanksCall
  BeginStep : BanksCall
  Other : (BanksState → BanksState) → BanksCall

-- a delay is at least 1, and what else happens stages nothing and takes nothing away
abbrev pub IsCall : BanksCall → Type 0
IsCall (StageAt id delay i) = 1 ≤ delay
IsCall BeginStep = Unit {0}
IsCall (Other change) = (b : BanksState) → KeepsStaged b (change b)

-- the step after a call
abbrev pub step_after : ℕ → BanksCall → ℕ
step_after step (StageAt id delay i) = step
step_after step BeginStep = step + 1
step_after step (Other change) = step

-- the banks after a call
abbrev pub banks_after : ℕ → BanksCall → BanksState → BanksState
banks_after step (StageAt id delay i) b = banks_staged b (bank_number id) (record_number id) (Some (staged_now i.class delay i.addr))
banks_after step BeginStep b = begun (step + 1) b
banks_after step (Other change) b = change b

-- the step after calls, from a step on
abbrev pub last_step : ℕ → List BanksCall → ℕ
last_step step [] = step
last_step step (call ∷ calls) = last_step (step_after step call) calls

-- the banks after calls, from a step on
abbrev pub banks_run : ℕ → List BanksCall → BanksState → BanksState
banks_run step [] b = b
banks_run step (call ∷ calls) b = banks_run (step_after step call) calls (banks_after step call b)

-- the inject lines of a record among calls, from a step on
abbrev pub lines_of : RecordId → ℕ → List BanksCall → List InjectLine
lines_of id step [] = []
lines_of id step (StageAt other delay i ∷ calls) =
    if is_record (bank_number other) (record_number other) id then record { step = step; delay = delay; injection = i } ∷ lines_of id step calls
    else lines_of id step calls
lines_of id step (BeginStep ∷ calls) = lines_of id (step + 1) calls
lines_of id step (Other change ∷ calls) = lines_of id step calls

-- the event of an injection into a record, with its step
abbrev pub due_event : ℕ → RecordId → Injection → Event
due_event n id i = stamped n (event_of (Injected i.class) (bank_number id) (record_number id) i.addr)

-- a record apart from what is staged
abbrev pub apart : RecState → RecState
apart s = state_staged None s

-- what the beginning of step n does to a record, apart from what is staged: the injection that is due is logged, and where none
-- is due nothing happens
pub data IsCounted (lines : List InjectLine) (n : ℕ) (id : RecordId) (s t : RecState) : Type 0 where
  LogsDue : (i : Injection) → IsDue lines n i → apart t ≡ apart (state_logged s (due_event n id i)) → IsCounted lines n id s t
  LogsNothing : ((i : Injection) → IsDue lines n i → ⊥) → apart t ≡ apart s → IsCounted lines n id s t

-- after step n a record has staged what its lines say, and the next step logs to it what is due by them
pub record GoesByLines (lines : List InjectLine) (n : ℕ) (id : RecordId) (b : BanksState) : Type 0 where
  pub staged : (state_at b id).staged ≡ staged_in n lines
  pub next : IsCounted lines (n + 1) id (state_at b id) (state_at (begun (n + 1) b) id)
