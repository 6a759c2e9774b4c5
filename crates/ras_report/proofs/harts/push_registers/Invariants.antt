use Rattle.std.proofs.Common.{◌≡◌, ◌+◌, ◌≤◌, ◌++◌, ◌*◌}
use Rattle.arrayvec.specs.ArrayVec.{array_vec_len}
use Rattle.ras_report.specs.Harts.{registers_to}
use Rattle.ras_report.proofs.harts.push_registers.Given as goal

abbrev pub invariant-loop-n : goal.invariant-loop-n
invariant-loop-n l = record {
  items : l.text.items ≡ l.fn.text.items ++ registers_to l.hart l.n;
  len : array_vec_len l.text ≤ array_vec_len l.fn.text + 24 * l.n;
}
