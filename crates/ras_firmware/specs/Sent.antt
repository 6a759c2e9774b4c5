-- What calls of new firmware emit, and the pieces of the events that they log.
use Rattle.std.specs.Prelude.{ℕ, ◌%◌, ◌^◌, ◌==◌, Bool, true, false, not, ◌&&◌, nat_lt, if◌then◌else◌, List, [], ◌∷◌, ◌++◌, length, Option, Some, None, sum_by, count_by}
use Rattle.std.specs.List.{filter, flat_map, last_or}
use Rattle.poison_mem.specs.RecordId.{bank_number, record_number, all_records}
use Rattle.poison_mem.specs.declared.event.Event.{Event}
use Rattle.poison_mem.specs.declared.event.RecordView.{RecordView}
use Rattle.poison_mem.specs.declared.record_id.RecordId.{RecordId}
use Rattle.reri_bank.specs.Bank.{first_control}
use Rattle.reri_bank.specs.Banks.{stamped}
use Rattle.reri_bank.specs.State.{control_after}
use Rattle.reri_bank.specs.StateAt.{is_record}
use Rattle.ras_firmware.specs.Drain.{all_kept}
use Rattle.ras_firmware.specs.Firmware.{FirmwareCall, LogEvent, SetNow, WriteControl, SetStaged, MarkAll, ClearAll, new_firmware, firmware_after, firmware_run, firmware_stopped, emitted_by}
use Rattle.ras_firmware.specs.Pieces.{Pieces, RecordAction, Log, Write, Stage, Mark, Clear, new_pieces, pieces_run, all_pieces, let_in}
use Rattle.ras_firmware.specs.declared.firmware.Firmware.{Firmware}

-- new firmware after these calls, and stopped
abbrev pub after_calls : List FirmwareCall → Firmware
after_calls calls = firmware_run new_firmware calls

-- .. and stopped, with a fatal record or none
abbrev pub stopped : Option (ℕ × ℕ) → List FirmwareCall → Firmware
stopped fatal calls = firmware_stopped fatal (after_calls calls)

-- ---- what is emitted

-- what each call emits, from a state on
abbrev pub rounds : Firmware → List FirmwareCall → List (List RecordView)
rounds f [] = []
rounds f (call ∷ calls) = emitted_by f call ∷ rounds (firmware_after f call) calls

-- the views of all rounds, in order
abbrev pub joined_rounds : List (List RecordView) → List RecordView
joined_rounds views = flat_map (λ (round : List RecordView). round) views

-- all views that new firmware emits over these calls and at the stop
abbrev pub sent : List FirmwareCall → List RecordView
sent calls = joined_rounds (rounds new_firmware calls) ++ all_kept (after_calls calls).banks

-- a round has views
abbrev pub has_views : List RecordView → Bool
has_views [] = false
has_views (v ∷ vs) = true

-- the views of a round, none without one
abbrev pub views_in : Option (List RecordView) → List RecordView
views_in None = []
views_in (Some round) = round

-- the views of the last round that has any
abbrev pub last_views : List (List RecordView) → List RecordView
last_views views = views_in (last_or None (filter has_views views))

-- a call is a clear
abbrev pub is_clear : FirmwareCall → Bool
is_clear (LogEvent e) = false
is_clear (SetNow step) = false
is_clear (WriteControl id value) = false
is_clear (SetStaged id staged) = false
is_clear MarkAll = false
is_clear ClearAll = true

-- how many clears there are
abbrev pub clears : List FirmwareCall → ℕ
clears calls = count_by is_clear calls

-- the views that name a record, in order
abbrev pub those_of : RecordId → List RecordView → List RecordView
those_of id views = filter (λ (v : RecordView). is_record v.kept.bank v.kept.rec id) views

-- ---- pieces

-- an event that a record lets in: it names it, and its priority fits
abbrev pub is_let_in : RecordId → Event → Bool
is_let_in id e = not (nat_lt 3 e.pri) && is_record e.bank e.rec id

-- what calls do to a record, from a step on
abbrev pub actions_of : RecordId → ℕ → List FirmwareCall → List RecordAction
actions_of id step [] = []
actions_of id step (LogEvent e ∷ calls) =
    if is_let_in id e then Log (stamped step e) ∷ actions_of id step calls
    else actions_of id step calls
actions_of id step (SetNow next ∷ calls) = actions_of id next calls
actions_of id step (WriteControl other value ∷ calls) =
    if is_record (bank_number other) (record_number other) id
    then Write (control_after (bank_number other == 2) (value % 2 ^ 32)) ∷ actions_of id step calls
    else actions_of id step calls
actions_of id step (SetStaged other staged ∷ calls) =
    if is_record (bank_number other) (record_number other) id
    then Stage staged ∷ actions_of id step calls
    else actions_of id step calls
actions_of id step (MarkAll ∷ calls) = Mark ∷ actions_of id step calls
actions_of id step (ClearAll ∷ calls) = Clear ∷ actions_of id step calls

-- a record's pieces so far, and its events since
abbrev pub pieces_at : RecordId → List FirmwareCall → Pieces
pieces_at id calls = pieces_run (new_pieces first_control) (actions_of id 0 calls)

-- the pieces of a record, the last one at the stop among them
abbrev pub pieces_of : RecordId → List FirmwareCall → List (List Event)
pieces_of id calls = all_pieces (pieces_at id calls)

-- the events that a record let in
abbrev pub events_of : RecordId → List FirmwareCall → List Event
events_of id calls = let_in first_control (actions_of id 0 calls)

-- the number of pieces of all records
abbrev pub piece_count : List FirmwareCall → ℕ
piece_count calls = sum_by (λ id. length (pieces_of id calls)) all_records
