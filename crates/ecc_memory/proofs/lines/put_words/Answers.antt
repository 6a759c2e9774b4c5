use Rattle.std.proofs.Common.{arith, refl}
use Rattle.ecc_memory.proofs.LineSteps.{one_more_put}
use Rattle.ecc_memory.specs.LinesLaws.{puts-words}
use Rattle.ecc_memory.proofs.lines.put_words.Goals as goal

pub loop-i-preserved : goal.loop-i-preserved
loop-i-preserved c = rw (c.put_at.ensures, c.cell.ensures, c.loop-i.invariant, one_more_put) refl

pub put_at-requires : goal.put_at-requires
put_at-requires c =
    let range = c.requires.range in
    let below = c.loop-i-test.true in
    rw (c.loop-i.invariant, puts-words c.args.l c.args.cells.now c.args.line.now c.loop-i.i) (omega arith)

pub returns-clause-length : goal.returns-clause-length
returns-clause-length c = rw c.loop-i.invariant (puts-words c.args.l c.args.cells.now c.args.line.now c.loop-i.i)
