use Rattle.std.proofs.Common.{◌≡◌, ◌≤◌, take}
use Rattle.std.specs.List.{AllByRecursion, filter_map}
use Rattle.arrayvec.specs.ArrayVec.{array_vec_len}
use Rattle.poison_mem.specs.RecordId.{all_records}
use Rattle.poison_mem.specs.RecordView.{IsListedView}
use Rattle.reri_bank.specs.StateAt.{state_at}
use Rattle.ras_firmware.proofs.drain.all_kept.Given as goal

abbrev pub invariant-loop-id : goal.invariant-loop-id
invariant-loop-id l = record {
  kept : l.kept.items ≡ filter_map (λ id. (state_at l.fn.banks id).kept) (take l.id-index all_records);
  few : array_vec_len l.kept ≤ l.id-index;
  listed : AllByRecursion IsListedView l.kept.items;
}
