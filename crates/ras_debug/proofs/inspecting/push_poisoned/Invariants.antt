use Rattle.std.proofs.Common.{◌≡◌, ◌≤◌, ◌*◌, length}
use Rattle.ras_debug.specs.Replies.{poison_count, poison_lines}
use Rattle.ras_debug.proofs.inspecting.push_poisoned.Given as goal

abbrev pub invariant-loop-w : goal.invariant-loop-w
invariant-loop-w l = record {
  text : l.reply ≡ poison_lines l.m l.w;
  count : l.count ≡ poison_count l.m l.w;
  below : l.count ≤ l.w;
  room : length l.reply ≤ 19 * l.count;
  most : length l.reply ≤ 4864;
}
