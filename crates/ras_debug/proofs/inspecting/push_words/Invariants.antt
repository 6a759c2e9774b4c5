use Rattle.std.proofs.Common.{◌≡◌, ◌≤◌, ◌*◌, length}
use Rattle.ras_debug.specs.Replies.{word_lines}
use Rattle.ras_debug.proofs.inspecting.push_words.Given as goal

abbrev pub invariant-loop-i : goal.invariant-loop-i
invariant-loop-i l = record {
  text : l.reply ≡ word_lines l.m l.w l.i;
  len : length l.reply ≤ 38 * l.i;
}
