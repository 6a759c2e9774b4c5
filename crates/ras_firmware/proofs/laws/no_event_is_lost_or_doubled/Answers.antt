use Rattle.reri_bank.specs.Bank.{first_control}
use Rattle.ras_firmware.specs.Sent.{actions_of}
use Rattle.ras_firmware.proofs.Emitting.{all_joined, all_some}
use Rattle.ras_firmware.proofs.Alone.{each_emitted, clears_emitted, stop_emitted, all_kept_first, all_counted, all_bounded, all_add_up}
use Rattle.ras_firmware.proofs.laws.no_event_is_lost_or_doubled.Goals as goal

pub returns : goal.returns
returns c = record {
  emitted = each_emitted;
  cleared = clears_emitted;
  at_stop = stop_emitted;
  joined = λ id calls. all_joined first_control (actions_of id 0 calls);
  some = λ id calls. all_some first_control (actions_of id 0 calls);
  kept = all_kept_first;
  counted = all_counted;
  bounded = all_bounded;
  adds_up = all_add_up;
}
