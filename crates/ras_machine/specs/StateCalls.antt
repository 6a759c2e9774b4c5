-- What the state calls set, by which a machine takes over a state from elsewhere, as from a snapshot. No step does so.
use Rattle.std.specs.Prelude.{◌≡◌, ℕ, true, List, Option, Some, None, IfSome}
use Rattle.poison_mem.specs.declared.event.RecordView.{RecordView}
use Rattle.poison_mem.specs.RecordId.{record_id}
use Rattle.mem_stack.specs.Stack.{StackLines}
use Rattle.reri_bank.specs.Banks.{with_record_of}
use Rattle.reri_bank.specs.declared.state.RecState.{RecState}
use Rattle.ras_firmware.specs.Notes.{IsNote, with_named_note}
use Rattle.ras_firmware.specs.declared.firmware.Firmware.{Firmware}
use Rattle.rv64_hart.specs.State.{ArchitecturalState}
use Rattle.scrubber.specs.Patrol.{new_patrol, moved_to}
use Rattle.ras_machine.specs.Machine.{StackMachine}
use Rattle.ras_machine.specs.Settings.{ram_words}
use Rattle.ras_machine.specs.declared.settings.Settings.{Settings}

-- The settings, how many steps are completed, the word that is scrubbed next, where input is read, and the first third flip. The
-- machine hasn't ended.
abbrev pub with_run : Settings → (n patrol_place place : ℕ) → Option (ℕ × ℕ) → StackMachine → StackMachine
with_run settings n patrol_place place beyond m = record {
  state = record m.state {
    place = place;
    beyond = beyond;
    poll = settings.poll;
    patrol = moved_to (new_patrol settings.patrol (ram_words settings)) patrol_place;
    steps = n;
  };
  settings = settings;
  ended = None;
}

-- the harts
abbrev pub with_harts : List ArchitecturalState → StackMachine → StackMachine
with_harts harts m = record m { state = record m.state { shared = record m.state.shared { harts = harts } } }

-- the caches and the memory below them
abbrev pub with_memory : StackLines → StackMachine → StackMachine
with_memory memory m = record m { state = record m.state { shared = record m.state.shared { memory = memory } } }

-- the error side
abbrev pub with_firmware : Firmware → StackMachine → StackMachine
with_firmware f m = record m { state = record m.state { firmware = f } }

-- the bytes that the program has written
abbrev pub with_console : List ℕ → StackMachine → StackMachine
with_console bytes m = record m { state = record m.state { console = bytes } }

-- a record of the banks, and the note of it
abbrev pub record_set : (bank rec : ℕ) → RecState → Option RecordView → Firmware → Firmware
record_set bank rec s note f = record f {
  banks = with_record_of f.banks bank rec (λ old. s);
  drain = with_named_note f.drain (record_id bank rec) note;
}

-- the emitted views, how many others were dropped, and the polled block; the boot error region is empty
abbrev pub emitted_set : List RecordView → ℕ → List RecordView → Firmware → Firmware
emitted_set views dropped polled f = record f {
  records = record { views = views; left_out = dropped };
  memory = record { polled = polled; region = None };
}

-- A note goes with a record in this state: it is one of this record, it is there only where the record is valid, and where `rdip` is
-- set it is what the record shows.
pub record GoesWith (bank rec : ℕ) (s : RecState) (note : Option RecordView) : Type 0 where
  pub is_note : IfSome note (IsNote bank rec)
  pub valid : s.kept ≡ None → note ≡ None
  pub unchanged : s.rdip ≡ true → IfSome note (λ v. s.kept ≡ Some v)
