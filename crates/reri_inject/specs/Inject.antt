-- Staging and counting down, on the banks (a profile of RERI 1.0, control_i with eid).
use Rattle.std.specs.Prelude.{ℕ, ◌-◌, nat_lt, if◌then◌else◌, Option, Some, None}
use Rattle.poison_mem.specs.declared.event.Class.{Class}
use Rattle.poison_mem.specs.declared.event.Event.{Event}
use Rattle.poison_mem.specs.declared.event.EventKind.TheVariants.{Injected}
use Rattle.poison_mem.specs.Event.{event_of}
use Rattle.reri_bank.specs.declared.state.RecState.{RecState}
use Rattle.reri_bank.specs.declared.state.Staged.{Staged}
use Rattle.reri_bank.specs.BanksState.{BanksState}
use Rattle.reri_bank.specs.State.{state_logged}
use Rattle.reri_bank.specs.Bank.{state_staged}
use Rattle.reri_bank.specs.Banks.{stamped, with_now}

-- what is staged by a call
abbrev pub staged_now : Class → ℕ → ℕ → Staged
staged_now class delay addr = record { class = class; addr = addr; left = delay }

-- the event of an injection
abbrev pub injected : ℕ → ℕ → Staged → Event
injected bank rec s = event_of (Injected s.class) bank rec s.addr

-- what a count does to what is staged for a record
pub data Counted : Type 0 where
  Rests : Counted
  Waits : Staged → Counted
  Fires : Staged → Counted

-- one step less is left; at the last one the injection is logged
abbrev pub counted : Option Staged → Counted
counted None = Rests
counted (Some s) = if nat_lt 1 s.left then Waits (record { class = s.class; addr = s.addr; left = s.left - 1 }) else Fires s

-- what a count does to one record
abbrev pub state_as : Counted → ℕ → ℕ → ℕ → RecState → RecState
state_as Rests step bank rec s = s
state_as (Waits t) step bank rec s = state_staged (Some t) s
state_as (Fires t) step bank rec s = state_logged (state_staged None s) (stamped step (injected bank rec t))

-- a count of one record
abbrev pub state_counted : ℕ → ℕ → ℕ → RecState → RecState
state_counted step bank rec s = state_as (counted s.staged) step bank rec s

-- a count of each record that can be injected into
abbrev pub each_counted : BanksState → BanksState
each_counted b = record {
  memory = record { kind = b.memory.kind; first = state_counted b.step 0 0 b.memory.first; second = state_counted b.step 0 1 b.memory.second };
  caches = record { kind = b.caches.kind; first = state_counted b.step 1 0 b.caches.first; second = state_counted b.step 1 1 b.caches.second };
  hart = b.hart;
  step = b.step;
}

-- step n begins: its number is set, and the counts are lowered
abbrev pub begun : ℕ → BanksState → BanksState
begun n b = each_counted (with_now b n)
