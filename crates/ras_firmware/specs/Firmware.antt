-- The error side of a machine: its banks, the drain, the emitted records and firmware's memory, under any calls.
use Rattle.std.specs.Prelude.{ℕ, ◌+◌, ◌*◌, ◌%◌, ◌^◌, ◌==◌, if◌then◌else◌, List, [], ◌∷◌, Option}
use Rattle.std.specs.List.{fold}
use Rattle.poison_mem.specs.RecordId.{bank_number, record_number}
use Rattle.poison_mem.specs.declared.event.Event.{Event}
use Rattle.poison_mem.specs.declared.event.RecordView.{RecordView}
use Rattle.poison_mem.specs.declared.record_id.RecordId.{RecordId}
use Rattle.reri_bank.specs.BanksState.{BanksState}
use Rattle.reri_bank.specs.Banks.{new_banks, banks_logged, banks_written, banks_staged, with_now}
use Rattle.reri_bank.specs.declared.layout.TheConstants.{CONTROL, STRIDE}
use Rattle.reri_bank.specs.declared.state.Staged.{Staged}
use Rattle.ras_firmware.specs.Drain.{notes_of, marked_banks, cleared_banks, emissions, all_kept, fatal_view}
use Rattle.ras_firmware.specs.Memory.{new_memory, with_polled, with_region}
use Rattle.ras_firmware.specs.Notes.{no_notes}
use Rattle.ras_firmware.specs.Records.{no_records, with_all}
use Rattle.ras_firmware.specs.declared.firmware.Firmware.{Firmware}

-- a call of the banks or of the drain: an event is logged, the step number is set, a value whose upper half is 0 is written
-- to a control register, an injection is staged or taken away (a count-down is such calls and logs), and the drain's steps
pub data FirmwareCall : Type 0 where
  LogEvent : Event → FirmwareCall
  SetNow : ℕ → FirmwareCall
  WriteControl : RecordId → (value : ℕ) → FirmwareCall
  SetStaged : RecordId → Option Staged → FirmwareCall
  MarkAll : FirmwareCall
  ClearAll : FirmwareCall

-- new banks, no notes, nothing emitted, and an empty memory
abbrev pub new_firmware : Firmware
new_firmware = record {
  banks = new_banks;
  drain = no_notes;
  records = no_records;
  memory = new_memory;
}

-- the banks after a write of a control register
abbrev pub control_written : BanksState → RecordId → ℕ → BanksState
control_written b id value =
    banks_written b (bank_number id) (CONTROL + STRIDE * record_number id) (value % 2 ^ 32)

-- what a call emits: a clear alone does
abbrev pub emitted_by : Firmware → FirmwareCall → List RecordView
emitted_by f (LogEvent e) = []
emitted_by f (SetNow step) = []
emitted_by f (WriteControl id value) = []
emitted_by f (SetStaged id staged) = []
emitted_by f MarkAll = []
emitted_by f ClearAll = emissions f.drain f.banks

-- what a call does
abbrev pub firmware_after : Firmware → FirmwareCall → Firmware
firmware_after f (LogEvent e) = record f { banks = banks_logged f.banks e }
firmware_after f (SetNow step) = record f { banks = with_now f.banks step }
firmware_after f (WriteControl id value) = record f { banks = control_written f.banks id value }
firmware_after f (SetStaged id staged) =
    record f { banks = banks_staged f.banks (bank_number id) (record_number id) staged }
firmware_after f MarkAll = record f { banks = marked_banks f.banks; drain = notes_of f.banks }
firmware_after f ClearAll = record {
  banks = cleared_banks f.drain f.banks;
  drain = no_notes;
  records = with_all f.records (emissions f.drain f.banks);
  memory = with_polled f.memory (emissions f.drain f.banks);
}

-- what calls do, in order
abbrev pub firmware_run : Firmware → List FirmwareCall → Firmware
firmware_run f calls = fold firmware_after f calls

-- at the stop every valid record is emitted, and a fatal one is shown in the boot error region
abbrev pub firmware_stopped : Option (ℕ × ℕ) → Firmware → Firmware
firmware_stopped fatal f = record f {
  records = with_all f.records (all_kept f.banks);
  memory = with_region f.memory (fatal_view f.banks fatal);
}

-- the drain's calls in a step: with an interval, a mark in the step before the last of each interval and a clear in its last
abbrev pub drain_calls : (step interval : ℕ) → List FirmwareCall
drain_calls step interval =
    if interval == 0 then []
    else if step % interval + 2 == interval then MarkAll ∷ []
    else if step % interval + 1 == interval then ClearAll ∷ []
    else []
