-- The three banks, of records of any kind.
use Rattle.std.specs.Prelude.{ℕ, ◌==◌, Bool, false, nat_lt, if◌then◌else◌, Option, Some, None}
use Rattle.poison_mem.specs.declared.event.Event.{Event}
use Rattle.poison_mem.specs.declared.event.RecordView.{RecordView}
use Rattle.reri_bank.specs.declared.bank.BankKind.TheVariants.{Memory, Caches, Hart}
use Rattle.reri_bank.specs.declared.state.Staged.{Staged}
use Rattle.reri_bank.specs.Record.{rank}
use Rattle.reri_bank.specs.BankState.{BankOf}
use Rattle.reri_bank.specs.BanksState.{BanksOf, BanksState}
use Rattle.reri_bank.specs.State.{RecordLists, shown, state_logged, state_written}
use Rattle.reri_bank.specs.Bank.{map_bank, bank_of, new_state, with_record, bank_written_by, state_staged}
use Rattle.poison_mem.specs.RecordId.{names_record}

-- the banks by lists of events
abbrev pub BanksLists : Type 0
BanksLists = BanksOf RecordLists

-- the banks with something else for each record
abbrev pub map_banks : {R S : Type 0} → (R → S) → BanksOf R → BanksOf S
map_banks f b = record {
  memory = map_bank f b.memory;
  caches = map_bank f b.caches;
  hart = map_bank f b.hart;
  step = b.step;
}

-- the banks stand for lists where they are what these show
abbrev pub banks_shown : BanksLists → BanksState
banks_shown b = map_banks shown b

-- three banks with the same for each record, and step 0
abbrev pub banks_of : {R : Type 0} → R → BanksOf R
banks_of r = record {
  memory = bank_of r Memory;
  caches = bank_of r Caches;
  hart = bank_of r Hart;
  step = 0;
}

-- three new banks, and step 0
abbrev pub new_banks : BanksState
new_banks = banks_of new_state

-- another step is put into events
abbrev pub with_now : {R : Type 0} → BanksOf R → ℕ → BanksOf R
with_now b now = record b { step = now }

-- how many records a bank has
abbrev pub records_of : ℕ → ℕ
records_of bank = if bank == 2 then 1 else 2

-- a bank by its number
abbrev pub bank_at : {R : Type 0} → BanksOf R → ℕ → BankOf R
bank_at b bank = if bank == 0 then b.memory else if bank == 1 then b.caches else b.hart

-- the banks with one changed
abbrev pub with_bank : {R : Type 0} → BanksOf R → ℕ → (BankOf R → BankOf R) → BanksOf R
with_bank b bank change =
    if bank == 0 then record b { memory = change b.memory }
    else if bank == 1 then record b { caches = change b.caches }
    else record b { hart = change b.hart }

-- the banks with one record changed
abbrev pub with_record_of : {R : Type 0} → BanksOf R → ℕ → ℕ → (R → R) → BanksOf R
with_record_of b bank rec change = with_bank b bank (λ k. with_record k rec change)

-- an event with the step
abbrev pub stamped : ℕ → Event → Event
stamped now e = record e { at = now }

-- logging: the event gets the step and goes to the record that it names; one that names none, or whose priority is above 3,
-- changes nothing
abbrev pub banks_logged_by : {R : Type 0} → (R → Event → R) → BanksOf R → Event → BanksOf R
banks_logged_by log b e =
    if nat_lt 3 e.pri then b
    else if names_record e.bank e.rec
    then with_record_of b e.bank e.rec (λ r. log r (stamped b.step e))
    else b

-- the same of the live registers
abbrev pub banks_logged : BanksState → Event → BanksState
banks_logged b e = banks_logged_by state_logged b e

-- a write of a register of a bank
abbrev pub banks_written_by : {R : Type 0} → (Bool → R → ℕ → R) → BanksOf R → ℕ → ℕ → ℕ → BanksOf R
banks_written_by write b bank offset v = with_bank b bank (λ k. bank_written_by write k offset v)

-- the same of the live registers
abbrev pub banks_written : BanksState → ℕ → ℕ → ℕ → BanksState
banks_written b bank offset v = banks_written_by state_written b bank offset v

-- an injection is staged for a record of a bank, or taken away
abbrev pub banks_staged : BanksState → ℕ → ℕ → Option Staged → BanksState
banks_staged b bank rec staged = with_record_of b bank rec (state_staged staged)

-- a critical event is kept
abbrev pub is_critical : Option RecordView → Bool
is_critical None = false
is_critical (Some v) = rank v.kept.class == 2

-- the least bank and record that keeps a critical event
abbrev pub first_critical : BanksState → Option (ℕ × ℕ)
first_critical b =
    if is_critical b.memory.first.kept then Some (0, 0)
    else if is_critical b.memory.second.kept then Some (0, 1)
    else if is_critical b.caches.first.kept then Some (1, 0)
    else if is_critical b.caches.second.kept then Some (1, 1)
    else if is_critical b.hart.first.kept then Some (2, 0)
    else None
