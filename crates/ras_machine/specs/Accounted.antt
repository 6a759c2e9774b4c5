-- The error side over a run: no event is lost or doubled between the banks and the records that firmware emits.
use Rattle.std.specs.Prelude.{◌≡◌, ℕ, ◌+◌, ◌≤◌, List, ◌++◌, length, map, Option, Some}
use Rattle.std.specs.List.{AllByRecursion}
use Rattle.poison_mem.specs.declared.event.Event.{Event}
use Rattle.poison_mem.specs.declared.record_id.RecordId.{RecordId}
use Rattle.reri_bank.specs.Record.{rec_of}
use Rattle.elf_load.specs.Program.{Program}
use Rattle.fault_script.specs.declared.lines.ScriptLine.{ScriptLine}
use Rattle.ras_firmware.specs.Drain.{fatal_view}
use Rattle.ras_firmware.specs.Firmware.{FirmwareCall, new_firmware}
use Rattle.ras_firmware.specs.Pieces.{joined_pieces, IsNonempty, kept_class}
use Rattle.ras_firmware.specs.Records.{first_views}
use Rattle.ras_firmware.specs.Sent.{after_calls, stopped, rounds, sent, last_views, pieces_of, events_of, those_of, piece_count}
use Rattle.ras_firmware.specs.declared.firmware.Firmware.{Firmware}
use Rattle.ras_machine.specs.declared.settings.Settings.{Settings}
use Rattle.ras_machine.specs.Machine.{StackMachine, machine_made, machine_run, faulty_run, calls_in}
use Rattle.ras_machine.specs.Schedule.{Given}

-- what the run of an image tells the error side, from its first state on
abbrev pub run_calls : Program → Settings → Given → List ScriptLine → List FirmwareCall
run_calls image settings given script = calls_in given script (settings.budget + 1) (machine_made image settings)

-- a machine is on the run of an image: what its run leaves is what the whole run does
pub record IsOnRun (image : Program) (given : Given) (script : List ScriptLine) (m : StackMachine) : Type 0 where
  pub run : machine_run given script m ≡ faulty_run image m.settings given script

-- what firmware is after calls and a stop, where no event of these calls is lost or doubled
pub record EmitsEachOnce (calls : List FirmwareCall) (fatal : Option (ℕ × ℕ)) (f : Firmware) : Type 0 where
  -- it is what the calls and the stop make of new firmware
  pub is : f ≡ stopped fatal calls
  -- the events that a record let in are its pieces, joined in order; each has an event
  pub joined : (id : RecordId) → joined_pieces (pieces_of id calls) ≡ events_of id calls
  pub some : (id : RecordId) → AllByRecursion IsNonempty (pieces_of id calls)
  -- each piece is emitted once, as what the record shows of it, in order; the last one at the stop
  pub emitted : (id : RecordId) → map Some (those_of id (sent calls)) ≡ map rec_of (pieces_of id calls)
  -- the first views are kept and the others counted, and they add up to the pieces of all records
  pub kept : f.records ≡ first_views (sent calls)
  pub adds_up : length f.records.views + f.records.left_out ≡ piece_count calls
  -- within a piece the kept class never falls
  pub class_never_falls : (front back : List Event) → kept_class (rec_of front) ≤ kept_class (rec_of (front ++ back))
  -- the polled block shows what the last clear that emitted any did, and the boot error region the fatal record
  pub polled : f.memory.polled ≡ last_views (rounds new_firmware calls)
  pub region : f.memory.region ≡ fatal_view (after_calls calls).banks fatal
