use Rattle.std.proofs.Common.{◌≡◌, ◌≤◌, take}
use Rattle.std.specs.List.{AllByRecursion, filter_map}
use Rattle.arrayvec.specs.ArrayVec.{array_vec_len}
use Rattle.poison_mem.specs.RecordId.{all_records}
use Rattle.poison_mem.specs.RecordView.{IsListedView}
use Rattle.reri_bank.specs.StateAt.{state_at}
use Rattle.ras_firmware.specs.Drain.{emission}
use Rattle.ras_firmware.specs.Notes.{note_at}
use Rattle.ras_firmware.proofs.States.{changed_first, clearing}
use Rattle.ras_firmware.proofs.drain.emissions.Given as goal

abbrev pub invariant-loop-id : goal.invariant-loop-id
invariant-loop-id l = record {
  banks : l.banks ≡ changed_first (clearing l.fn.notes) l.id-index l.fn.banks;
  emitted : l.emitted.items ≡ filter_map (λ id. emission (note_at l.fn.notes id) (state_at l.fn.banks id)) (take l.id-index all_records);
  few : array_vec_len l.emitted ≤ l.id-index;
  listed : AllByRecursion IsListedView l.emitted.items;
}
