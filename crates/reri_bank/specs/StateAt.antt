-- The states of the five records.
use Rattle.std.specs.Prelude.{◌≡◌, ℕ, ◌==◌, Bool, ◌&&◌}
use Rattle.poison_mem.specs.RecordId.{bank_number, record_number}
use Rattle.poison_mem.specs.declared.record_id.RecordId.{RecordId}
use Rattle.poison_mem.specs.declared.record_id.RecordId.TheVariants.{Read, Scrub, L1, L2, Hart}
use Rattle.reri_bank.specs.declared.state.RecState.{RecState}
use Rattle.reri_bank.specs.declared.bank.BankKind.TheVariants as kinds
use Rattle.reri_bank.specs.BanksState.{BanksOf, BanksState}

-- what the banks have for a record
abbrev pub state_at : {R : Type 0} → BanksOf R → RecordId → R
state_at b Read = b.memory.first
state_at b Scrub = b.memory.second
state_at b L1 = b.caches.first
state_at b L2 = b.caches.second
state_at b Hart = b.hart.first

-- this holds of each record's state in the one and in the other banks
abbrev pub EachRecord : (RecState → RecState → Type 0) → BanksState → BanksState → Type 0
EachRecord Holds before after = (id : RecordId) → Holds (state_at before id) (state_at after id)

-- a bank and a number name this record
abbrev pub is_record : ℕ → ℕ → RecordId → Bool
is_record bank rec id = bank == bank_number id && rec == record_number id

-- the banks are of their kinds
pub record HaveKinds (b : BanksState) : Type 0 where
  pub memory : b.memory.kind ≡ kinds.Memory
  pub caches : b.caches.kind ≡ kinds.Caches
  pub hart : b.hart.kind ≡ kinds.Hart
