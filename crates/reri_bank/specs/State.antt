-- The state of one record: as the code keeps it, and as the lists that it stands for (a profile of RERI 1.0, control_i with sinv
-- and srdp).
use Rattle.std.specs.Prelude.{◌≡◌, ℕ, ◌<◌, ◌≤◌, not, IsTrue, Bool, false, ◌||◌, if◌then◌else◌, List, [], ◌∷◌, ◌++◌, Option, Some, None, is_some, IfSome}
use Rattle.poison_mem.specs.declared.event.Event.{Event}
use Rattle.reri_bank.specs.declared.layout.Control.{Control}
use Rattle.reri_bank.specs.declared.state.RecState.{RecState}
use Rattle.reri_bank.specs.declared.state.Staged.{Staged}
use Rattle.reri_bank.specs.Layout.{control_value}
use Rattle.reri_bank.specs.Views.{IsReachable, IsOf}
use Rattle.reri_bank.specs.Record.{rec_of, with_event}
use Rattle.ras_bits.specs.Bits.{has_bit}
use Rattle.reri_bank.specs.declared.layout.TheConstants.{SINV, SRDP}

-- a record as lists: the events since its last clear, `rdip`, its control and what is staged
pub record RecordLists : Type 0 where
  pub events : List Event
  pub rdip : Bool
  pub control : Control
  pub staged : Option Staged

-- a record's state stands for lists where it is what they show: the live registers are those of the events
abbrev pub shown : RecordLists → RecState
shown r = record { kept = rec_of r.events; rdip = r.rdip; control = r.control; staged = r.staged }

-- where something stands for lists before a call, it stands after it for what the call makes of these lists
abbrev pub StandsAfter : {L S : Type 0} → (L → S) → (L → L) → S → S → Type 0
StandsAfter {L} shows makes before after =
    (lists : L) → before ≡ shows lists → after ≡ shows (makes lists)

-- logging, where it is enabled: the event comes after the others, and `rdip` is cleared
abbrev pub lists_logged : RecordLists → Event → RecordLists
lists_logged r e =
    if r.control.logging then record r { events = r.events ++ e ∷ []; rdip = false } else r

-- the same of the live registers
abbrev pub state_logged : RecState → Event → RecState
state_logged s e =
    if s.control.logging then record s { kept = Some (with_event s.kept e); rdip = false } else s

-- sinv: empties the record where `rdip` is set, and clears that
abbrev pub lists_emptied : RecordLists → RecordLists
lists_emptied r = if r.rdip then record r { events = []; rdip = false } else r

-- the same of the live registers
abbrev pub state_emptied : RecState → RecState
state_emptied s = if s.rdip then record s { kept = None; rdip = false } else s

-- srdp: sets `rdip` where the record is valid
abbrev pub lists_marked : RecordLists → RecordLists
lists_marked r = record r { rdip = is_some (rec_of r.events) || r.rdip }

-- the same of the live registers
abbrev pub state_marked : RecState → RecState
state_marked s = record s { rdip = is_some s.kept || s.rdip }

-- bits 7:0 of a written control register; a record that always logs keeps its bit 0
abbrev pub control_after : Bool → ℕ → Control
control_after always_logs v =
    let c = control_value v in
    record c { logging = c.logging || always_logs }

-- a write of the control register: bits 7:0, then sinv, then srdp; other bits are ignored
abbrev pub lists_written : Bool → RecordLists → ℕ → RecordLists
lists_written always_logs r v =
    let set : RecordLists = record r { control = control_after always_logs v } in
    let emptied = if has_bit v SINV then lists_emptied set else set in
    if has_bit v SRDP then lists_marked emptied else emptied

-- the same of the live registers
abbrev pub state_written : Bool → RecState → ℕ → RecState
state_written always_logs s v =
    let set : RecState = record s { control = control_after always_logs v } in
    let emptied = if has_bit v SINV then state_emptied set else set in
    if has_bit v SRDP then state_marked emptied else emptied

-- what holds of the state of a record of a bank: its view is reachable and names it, `rdip` is set only with one, the
-- fields of the control fit, a staged count is at least 1, and the hart's bank logs always and has nothing staged
pub record IsRecordHeld (bank rec : ℕ) (s : RecState) : Type 0 where
  pub reachable : IfSome s.kept IsReachable
  pub names : IfSome s.kept (λ v. IsOf bank rec v.kept)
  pub rdip : IsTrue (not s.rdip || is_some s.kept)
  pub ces : s.control.ces < 4
  pub ueds : s.control.ueds < 4
  pub uecs : s.control.uecs < 4
  pub left : IfSome s.staged (λ t. 1 ≤ t.left)
  pub logs : bank ≡ 2 → IsTrue s.control.logging
  pub unstaged : bank ≡ 2 → s.staged ≡ None

-- a record's state that holds before a call holds after it
abbrev pub StaysHeld : ℕ → ℕ → RecState → RecState → Type 0
StaysHeld bank rec before after = IsRecordHeld bank rec before → IsRecordHeld bank rec after
