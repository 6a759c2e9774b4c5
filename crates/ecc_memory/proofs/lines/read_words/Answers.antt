use Rattle.std.proofs.Common.{◌+◌, ◌*◌, arith, refl}
use Rattle.poison_mem.specs.BusLaws.{logged_append}
use Rattle.poison_mem.specs.LineLaws.{one_more_cell}
use Rattle.ecc_memory.specs.Lines.{shown_at}
use Rattle.ecc_memory.specs.LinesLaws.{reads-words}
use Rattle.ecc_memory.proofs.LineSteps.{unread, one_more_read, one_more_logged}
use Rattle.ecc_memory.proofs.lines.read_words.Goals as goal

pub loop-i-preserved : goal.loop-i-preserved
loop-i-preserved g c =
    let kept = c.loop-i.invariant in
    let read = c.read_at-cell.ensures in
    let as_before = unread c.args.cells.now c.args.l c.loop-i.i (8 * c.args.l + c.loop-i.i) (omega arith) in
    record {
      line = rw (c.set.ensures, read.cell, kept.cells, as_before)
          (one_more_cell c.loop-i.line (λ n. shown_at c.args.cells.now (8 * c.args.l + n)) c.loop-i.i (omega arith) kept.line);
      cells = rw (read.after, kept.cells, one_more_read) refl;
      events = rw (read.events, kept.cells, kept.events, one_more_logged, logged_append) refl;
    }

pub read_at-cell-requires : goal.read_at-cell-requires
read_at-cell-requires g c =
    let range = c.requires.range in
    let below = c.loop-i-test.true in
    rw (c.loop-i.invariant.cells, reads-words c.args.l c.args.cells.now c.loop-i.i) (omega arith)

pub returns-clause-length : goal.returns-clause-length
returns-clause-length g c = rw c.loop-i.invariant.cells (reads-words c.args.l c.args.cells.now c.loop-i.i)
