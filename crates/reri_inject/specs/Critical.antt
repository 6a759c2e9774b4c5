-- Where a critical event comes from that is first kept in a step.
use Rattle.std.specs.Prelude.{◌≡◌, ℕ, ◌==◌, ◌⊎◌, if◌then◌else◌, List, Option, Some, None}
use Rattle.poison_mem.specs.declared.event.Class.TheVariants.{Critical}
use Rattle.poison_mem.specs.declared.event.Event.{Event}
use Rattle.poison_mem.specs.declared.event.RecordView.{RecordView}
use Rattle.poison_mem.specs.RecordId.{bank_number, record_number}
use Rattle.poison_mem.specs.declared.record_id.RecordId.{RecordId}
use Rattle.reri_bank.specs.Record.{rank}
use Rattle.reri_bank.specs.BanksState.{BanksState}
use Rattle.reri_bank.specs.StateAt.{state_at, EachRecord}
use Rattle.reri_inject.specs.Due.{Injection, InjectLine, IsDue}
use Rattle.reri_inject.specs.Calls.{due_event}

-- the critical event that a record keeps, where it keeps one
abbrev pub critical_event : Option RecordView → Option Event
critical_event None = None
critical_event (Some v) = if rank v.kept.class == 2 then Some v.kept else None

-- a critical event that a record keeps after is one that it kept before
abbrev pub BringsNoCritical : BanksState → BanksState → Type 0
BringsNoCritical before after = EachRecord (λ s t. (e : Event) → critical_event t.kept ≡ Some e → critical_event s.kept ≡ Some e) before after

-- each record keeps what it kept, or is emptied
abbrev pub KeepsOrEmpties : BanksState → BanksState → Type 0
KeepsOrEmpties before after = EachRecord (λ s t. (t.kept ≡ s.kept) ⊎ (t.kept ≡ None)) before after

-- a critical injection at an address
abbrev pub critical_at : ℕ → Injection
critical_at addr = record { class = Critical; addr = addr }

-- by these lines no critical injection is due in step n, into any record
abbrev pub NoCriticalIsDue : (RecordId → List InjectLine) → ℕ → Type 0
NoCriticalIsDue lines n = (id : RecordId) (addr : ℕ) → IsDue (lines id) n (critical_at addr) → ⊥

-- a bank and a number name a record that keeps the event of a critical injection which is due in step n
pub record KeepsDueCritical (lines : RecordId → List InjectLine) (n : ℕ) (b : BanksState) (bank rec : ℕ) : Type 0 where
  pub id : RecordId
  pub bank_is : bank ≡ bank_number id
  pub rec_is : rec ≡ record_number id
  pub addr : ℕ
  pub due : IsDue (lines id) n (critical_at addr)
  pub keeps : critical_event (state_at b id).kept ≡ Some (due_event n id (critical_at addr))
