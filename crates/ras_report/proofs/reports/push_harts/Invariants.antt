use Rattle.std.proofs.Common.{◌≡◌, ◌+◌, ◌≤◌, ◌++◌, ◌*◌, []}
use Rattle.arrayvec.specs.ArrayVec.{array_vec_len}
use Rattle.ras_report.specs.Harts.{hart_lines}
use Rattle.ras_report.proofs.reports.push_harts.Given as goal

abbrev pub invariant-loop-i : goal.invariant-loop-i
invariant-loop-i l = record {
  items : l.text.items ≡ l.fn.text.items ++ hart_lines [] l.m.state.shared.harts l.i;
  len : array_vec_len l.text ≤ array_vec_len l.fn.text + 783 * l.i;
}
