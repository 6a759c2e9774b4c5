use Rattle.std.proofs.Common.{arith}
use Rattle.ras_report.proofs.Lines.{registers_more}
use Rattle.ras_report.proofs.harts.push_registers.Goals as goal

pub loop-n-preserved : goal.loop-n-preserved
loop-n-preserved c = record {
  items = registers_more c.args.hart.now c.loop-n.n c.x.result _ _ _ c.push_register.ensures.items c.x.ensures.register c.loop-n.invariant.items;
  len = omega arith;
}
