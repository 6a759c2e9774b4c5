-- What the two steps of the drain do, to a record and to all.
use Rattle.std.specs.Prelude.{ℕ, ◌==◌, Bool, false, not, if◌then◌else◌, List, map, Option, Some, None}
use Rattle.std.specs.List.{filter_map}
use Rattle.poison_mem.specs.RecordId.{bank_number, record_number, record_id, all_records}
use Rattle.poison_mem.specs.declared.event.Class.{Class}
use Rattle.poison_mem.specs.declared.event.Class.TheVariants.{Corrected, Deferred, Critical}
use Rattle.poison_mem.specs.declared.event.RecordView.{RecordView}
use Rattle.poison_mem.specs.declared.record_id.RecordId.{RecordId}
use Rattle.poison_mem.specs.declared.record_id.RecordId.TheVariants.{Read, Scrub, L1, L2, Hart}
use Rattle.reri_bank.specs.BanksState.{BanksState}
use Rattle.reri_bank.specs.Banks.{with_record_of}
use Rattle.reri_bank.specs.StateAt.{state_at}
use Rattle.reri_bank.specs.declared.layout.Control.{Control}
use Rattle.reri_bank.specs.declared.state.RecState.{RecState}
use Rattle.reri_bank.specs.State.{state_marked, state_emptied}
use Rattle.ras_firmware.specs.Notes.{Notes, note_at}

-- a class is signalled where its field of the control isn't 0
abbrev pub signals : Control → Class → Bool
signals c Corrected = not (c.ces == 0)
signals c Deferred = not (c.ueds == 0)
signals c Critical = not (c.uecs == 0)

-- a record is signalled where it is valid and its kept class is
abbrev pub is_signalled : Option RecordView → Control → Bool
is_signalled None c = false
is_signalled (Some v) c = signals c v.kept.class

-- mark: a signalled record is noted with what it shows, and its `rdip` is set
abbrev pub note_of : RecState → Option RecordView
note_of s = if is_signalled s.kept s.control then s.kept else None

-- the record after a mark
abbrev pub marked : RecState → RecState
marked s = if is_signalled s.kept s.control then state_marked s else s

-- clear: a noted record whose `rdip` is still set emits what was noted and becomes empty
abbrev pub emission : Option RecordView → RecState → Option RecordView
emission None s = None
emission (Some v) s = if s.rdip then Some v else None

-- the record after a clear
abbrev pub cleared : Option RecordView → RecState → RecState
cleared None s = s
cleared (Some v) s = state_emptied s

-- ---- all records

-- the banks with one record changed
abbrev pub with_state : BanksState → RecordId → (RecState → RecState) → BanksState
with_state b id change = with_record_of b (bank_number id) (record_number id) change

-- the banks with each record changed by its own change
abbrev pub each_record : (RecordId → RecState → RecState) → BanksState → BanksState
each_record change b = record {
  memory = record b.memory { first = change Read b.memory.first; second = change Scrub b.memory.second };
  caches = record b.caches { first = change L1 b.caches.first; second = change L2 b.caches.second };
  hart = record b.hart { first = change Hart b.hart.first };
  step = b.step;
}

-- the notes of a mark
abbrev pub notes_of : BanksState → Notes
notes_of b = map (λ id. note_of (state_at b id)) all_records

-- the banks after a mark
abbrev pub marked_banks : BanksState → BanksState
marked_banks b = each_record (λ id. marked) b

-- the banks after a clear under these notes
abbrev pub cleared_banks : Notes → BanksState → BanksState
cleared_banks notes b = each_record (λ id. cleared (note_at notes id)) b

-- what a clear emits, in the order of banks and records
abbrev pub emissions : Notes → BanksState → List RecordView
emissions notes b = filter_map (λ id. emission (note_at notes id) (state_at b id)) all_records

-- what every valid record shows, in the order of banks and records
abbrev pub all_kept : BanksState → List RecordView
all_kept b = filter_map (λ id. (state_at b id).kept) all_records

-- ---- the fatal record

-- what a record shows, where one is named
abbrev pub kept_by : BanksState → Option RecordId → Option RecordView
kept_by b None = None
kept_by b (Some id) = (state_at b id).kept

-- what the record shows that a bank and a number name as fatal
abbrev pub fatal_view : BanksState → Option (ℕ × ℕ) → Option RecordView
fatal_view b None = None
fatal_view b (Some fatal) = kept_by b (record_id fatal.0 fatal.1)
