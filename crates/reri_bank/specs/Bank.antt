-- A bank, of records of any kind, and its registers (a profile of RERI 1.0: bank_info, valid_summary and the registers of an
-- error record).
use Rattle.std.specs.Prelude.{ℕ, ◌+◌, ◌-◌, ◌*◌, ◌==◌, is_some, nat_le, nat_lt, Bool, true, false, ◌&&◌, ◌||◌, not, if◌then◌else◌, [], Option, Some, None}
use Rattle.poison_mem.specs.declared.event.Event.{Event}
use Rattle.reri_bank.specs.declared.bank.BankKind.{BankKind}
use Rattle.reri_bank.specs.declared.bank.BankKind.TheVariants.{Memory, Caches, Hart}
use Rattle.reri_bank.specs.declared.layout.Control.{Control}
use Rattle.reri_bank.specs.declared.state.RecState.{RecState}
use Rattle.reri_bank.specs.declared.state.Staged.{Staged}
use Rattle.reri_bank.specs.State.{RecordLists, shown, state_written}
use Rattle.reri_bank.specs.BankState.{BankOf, BankState, kind_number}
use Rattle.reri_bank.specs.Layout.{control_word, status_word}
use Rattle.poison_mem.specs.declared.event.RecordView.{RecordView}
use Rattle.std.specs.Int.{from_bool}
use Rattle.reri_bank.specs.declared.layout.TheConstants.{CONTROL, STRIDE, STATUS, ADDR, INFO, SUPPL, TIMESTAMP, BANK_ID, BANK_INFO, VALID_SUMMARY}
use Rattle.reri_bank.specs.declared.bank.TheConstants.{RECORDS_UNIT, VERSION}

-- how many records a bank of each kind has
abbrev pub record_count : BankKind → ℕ
record_count Memory = 2
record_count Caches = 2
record_count Hart = 1

-- the hart's bank logs always
abbrev pub is_hart : BankKind → Bool
is_hart kind = kind_number kind == 2

-- a bank by lists of events
abbrev pub BankLists : Type 0
BankLists = BankOf RecordLists

-- a bank with something else for each record
abbrev pub map_bank : {R S : Type 0} → (R → S) → BankOf R → BankOf S
map_bank f b = record { kind = b.kind; first = f b.first; second = f b.second }

-- a bank stands for lists where it is what they show
abbrev pub bank_shown : BankLists → BankState
bank_shown b = map_bank shown b

-- a new record's control, 0x57
abbrev pub first_control : Control
first_control = record { logging = true; cece = true; ces = 1; ueds = 1; uecs = 1 }

-- a new record: empty, with the first control, and nothing staged
abbrev pub new_state : RecState
new_state = record { kept = None; rdip = false; control = first_control; staged = None }

-- a new record as lists
abbrev pub no_events : RecordLists
no_events = record { events = []; rdip = false; control = first_control; staged = None }

-- a bank with the same for each record
abbrev pub bank_of : {R : Type 0} → R → BankKind → BankOf R
bank_of r kind = record { kind = kind; first = r; second = r }

-- a bank with new records
abbrev pub new_bank : BankKind → BankState
new_bank kind = bank_of new_state kind

-- a record of a bank
abbrev pub record_at : {R : Type 0} → BankOf R → ℕ → R
record_at b rec = if rec == 0 then b.first else b.second

-- a bank with one record changed
abbrev pub with_record : {R : Type 0} → BankOf R → ℕ → (R → R) → BankOf R
with_record b rec change =
    if rec == 0 then record b { first = change b.first } else record b { second = change b.second }

-- an event is logged to the record that it names
abbrev pub bank_logged_by : {R : Type 0} → (R → Event → R) → BankOf R → Event → BankOf R
bank_logged_by log b e = with_record b e.rec (λ r. log r e)

-- staging, in place of what was staged
abbrev pub state_staged : Option Staged → RecState → RecState
state_staged staged s = record s { staged = staged }

-- the same of the lists
abbrev pub lists_staged : Option Staged → RecordLists → RecordLists
lists_staged staged r = record r { staged = staged }

-- which record's control register stands at an offset
abbrev pub is_control_of : BankKind → ℕ → Bool
is_control_of kind offset = offset == CONTROL || (offset == CONTROL + STRIDE && not (is_hart kind))

-- a write changes a record by its control register, and nothing at every other offset
abbrev pub bank_written_by : {R : Type 0} → (Bool → R → ℕ → R) → BankOf R → ℕ → ℕ → BankOf R
bank_written_by write b offset v =
    if offset == CONTROL then with_record b 0 (λ r. write (is_hart b.kind) r v)
    else if offset == CONTROL + STRIDE && not (is_hart b.kind)
    then with_record b 1 (λ r. write (is_hart b.kind) r v)
    else b

-- the same of the live registers
abbrev pub bank_written : BankState → ℕ → ℕ → BankState
bank_written b offset v = bank_written_by state_written b offset v

-- the steps left of what is staged, 0 without
abbrev pub eid_of : Option Staged → ℕ
eid_of None = 0
eid_of (Some s) = s.left

-- the bank's number from bit 0 up, its number of records from bit 16 up, and version 1 from bit 56 up
abbrev pub bank_info : BankKind → ℕ
bank_info kind = kind_number kind + RECORDS_UNIT * record_count kind + VERSION

-- bit 0 is 1, and bit i + 1 is set where record i is valid
abbrev pub valid_summary : BankState → ℕ
valid_summary b =
    1 + 2 * from_bool (is_some b.first.kept)
    + 4 * from_bool (not (is_hart b.kind) && is_some b.second.kept)

-- a part of the kept event, 0 of an empty record
abbrev pub of_kept : (Event → ℕ) → Option RecordView → ℕ
of_kept part None = 0
of_kept part (Some v) = part v.kept

-- addr, info, suppl_info and timestamp of the kept event, 0 of an empty record
abbrev pub kept_register : Option RecordView → ℕ → Option ℕ
kept_register kept offset =
    if offset == ADDR then Some (of_kept (λ e. e.addr) kept)
    else if offset == INFO then Some (of_kept (λ e. e.info) kept)
    else if offset == SUPPL then Some (of_kept (λ e. e.suppl) kept)
    else if offset == TIMESTAMP then Some (of_kept (λ e. e.at) kept)
    else None

-- the registers of one record, by their offset from its control register; every other offset is undefined
abbrev pub record_register : RecState → ℕ → Option ℕ
record_register s offset =
    if offset == 0 then Some (control_word s.control (eid_of s.staged))
    else if offset == STATUS then Some (status_word s.kept s.control.cece s.rdip)
    else kept_register s.kept offset

-- the registers of a bank; every other offset is undefined, also inside a register
abbrev pub register_at : BankState → ℕ → Option ℕ
register_at b offset =
    if offset == BANK_ID then Some 0
    else if offset == BANK_INFO then Some (bank_info b.kind)
    else if offset == VALID_SUMMARY then Some (valid_summary b)
    else if nat_le CONTROL offset && nat_lt offset (CONTROL + STRIDE)
    then record_register b.first (offset - CONTROL)
    else if nat_le (CONTROL + STRIDE) offset && nat_lt offset (CONTROL + 2 * STRIDE)
    && not (is_hart b.kind)
    then record_register b.second (offset - (CONTROL + STRIDE))
    else None
