use Rattle.std.proofs.Common.{codes, arith}
use Rattle.ras_report.proofs.Lines.{lines_more}
use Rattle.ras_report.proofs.reports.push_flat_harts.Goals as goal

pub loop-i-preserved : goal.loop-i-preserved
loop-i-preserved c = record {
  items = lines_more (codes "flat ") c.args.f.now.state.harts c.loop-i.i c.hart.result.now _ _ _ c.push_hart.ensures.items c.hart.ensures c.loop-i.invariant.items;
  len = omega arith;
}
