use Rattle.std.proofs.Common.{◌≡◌, ◌≤◌, ◌*◌, length}
use Rattle.ras_debug.specs.Replies.{instruction_lines}
use Rattle.ras_debug.proofs.inspecting.push_instructions.Given as goal

abbrev pub invariant-loop-i : goal.invariant-loop-i
invariant-loop-i l = record {
  text : l.reply ≡ instruction_lines l.m l.address l.i;
  len : length l.reply ≤ 95 * l.i;
}
