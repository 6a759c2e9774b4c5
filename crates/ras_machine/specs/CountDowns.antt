-- A count-down of the staged injections, as calls of the banks.
use Rattle.std.specs.Prelude.{List, [], ◌∷◌, ◌++◌, Some, None}
use Rattle.poison_mem.specs.RecordId.{bank_number, record_number}
use Rattle.poison_mem.specs.declared.record_id.RecordId.{RecordId}
use Rattle.poison_mem.specs.declared.record_id.RecordId.TheVariants.{Read, Scrub, L1, L2}
use Rattle.reri_bank.specs.BanksState.{BanksState}
use Rattle.reri_bank.specs.StateAt.{state_at}
use Rattle.reri_inject.specs.Inject.{Counted, counted, Rests, Waits, Fires, injected}
use Rattle.ras_firmware.specs.Firmware.{FirmwareCall, LogEvent, SetStaged}
use Rattle.ras_firmware.specs.declared.firmware.Firmware.{Firmware}

-- the same drain, records and memory over other banks
abbrev pub with_banks : Firmware → BanksState → Firmware
with_banks f banks = record f { banks = banks }

-- the calls that a count of a record is: none, a staging with a step less, or nothing staged and the event logged
abbrev pub calls_as : Counted → RecordId → List FirmwareCall
calls_as Rests id = []
calls_as (Waits s) id = SetStaged id (Some s) ∷ []
calls_as (Fires s) id = SetStaged id None ∷ LogEvent (injected (bank_number id) (record_number id) s) ∷ []

-- by what is staged for the record
abbrev pub record_calls : BanksState → RecordId → List FirmwareCall
record_calls b id = calls_as (counted (state_at b id).staged) id

-- the calls that a count-down is, in the order of banks and records
abbrev pub count_calls : BanksState → List FirmwareCall
count_calls b = record_calls b Read ++ (record_calls b Scrub ++ (record_calls b L1 ++ record_calls b L2))
