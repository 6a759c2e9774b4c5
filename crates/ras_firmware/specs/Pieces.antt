-- The pieces of a record's events under any schedule.
use Rattle.std.specs.Prelude.{ℕ, ◌==◌, Bool, false, if◌then◌else◌, List, [], ◌∷◌, ◌++◌, length, Option, Some, None}
use Rattle.poison_mem.specs.declared.event.Event.{Event}
use Rattle.poison_mem.specs.declared.event.RecordView.{RecordView}
use Rattle.reri_bank.specs.declared.layout.Control.{Control}
use Rattle.reri_bank.specs.declared.state.Staged.{Staged}
use Rattle.reri_bank.specs.Record.{rank, rec_of}
use Rattle.ras_firmware.specs.Drain.{is_signalled}
use Rattle.std.specs.List.{flat_map, fold}

-- what happens to a record: an event is logged, its control is written, an injection is staged or taken away, and the two
-- steps of the drain
pub data RecordAction : Type 0 where
  Log : Event → RecordAction
  Write : Control → RecordAction
  Stage : Option Staged → RecordAction
  Mark : RecordAction
  Clear : RecordAction

-- the pieces that were cleared, the events since, the number of events that was noted, and the control
pub record Pieces : Type 0 where
  pub pieces : List (List Event)
  pub events : List Event
  pub noted : Option ℕ
  pub control : Control

-- no events so far
abbrev pub new_pieces : Control → Pieces
new_pieces control = record { pieces = []; events = []; noted = None; control = control }

-- a noted number of events is still their number
abbrev pub is_unchanged : Option ℕ → List Event → Bool
is_unchanged None events = false
is_unchanged (Some n) events = n == length events

-- logging adds an event where it is enabled; a mark notes the number of events of a signalled record, and forgets an older
-- note; a clear ends a piece where that number is unchanged
abbrev pub pieces_after : Pieces → RecordAction → Pieces
pieces_after p (Log e) = record p { events = if p.control.logging then p.events ++ e ∷ [] else p.events }
pieces_after p (Write control) = record p { control = control }
pieces_after p (Stage staged) = p
pieces_after p Mark =
    record p { noted = if is_signalled (rec_of p.events) p.control then Some (length p.events) else None }
pieces_after p Clear = record p {
  pieces = if is_unchanged p.noted p.events then p.pieces ++ p.events ∷ [] else p.pieces;
  events = if is_unchanged p.noted p.events then [] else p.events;
  noted = None;
}

-- the pieces after all that happens to a record
abbrev pub pieces_run : Pieces → List RecordAction → Pieces
pieces_run p actions = fold pieces_after p actions

-- at the stop the events since the last clear are a piece, where there are any
abbrev pub rest : List Event → List (List Event)
rest [] = []
rest (e ∷ es) = (e ∷ es) ∷ []

-- all pieces, the last one at the stop
abbrev pub all_pieces : Pieces → List (List Event)
all_pieces p = p.pieces ++ rest p.events

-- the pieces joined in order
abbrev pub joined_pieces : List (List Event) → List Event
joined_pieces pieces = flat_map (λ (es : List Event). es) pieces

-- there is an event
abbrev pub IsNonempty : List Event → Type 0
IsNonempty [] = ⊥
IsNonempty (e ∷ es) = Unit {0}

-- the events that were logged while logging was enabled
abbrev pub let_in : Control → List RecordAction → List Event
let_in control [] = []
let_in control (Log e ∷ actions) =
    if control.logging then e ∷ let_in control actions else let_in control actions
let_in control (Write c ∷ actions) = let_in c actions
let_in control (Stage staged ∷ actions) = let_in control actions
let_in control (Mark ∷ actions) = let_in control actions
let_in control (Clear ∷ actions) = let_in control actions

-- the rank of the kept class, 0 of an empty record
abbrev pub kept_class : Option RecordView → ℕ
kept_class None = 0
kept_class (Some v) = rank v.kept.class
