use Rattle.std.proofs.Common.{◌≡◌, ◌+◌, ◌≤◌, ◌++◌, ◌*◌, codes}
use Rattle.arrayvec.specs.ArrayVec.{array_vec_len}
use Rattle.ras_report.specs.Harts.{hart_lines}
use Rattle.ras_report.proofs.reports.push_flat_harts.Given as goal

abbrev pub invariant-loop-i : goal.invariant-loop-i
invariant-loop-i l = record {
  items : l.text.items ≡ l.fn.text.items ++ hart_lines (codes "flat ") l.f.state.harts l.i;
  len : array_vec_len l.text ≤ array_vec_len l.fn.text + 788 * l.i;
}
