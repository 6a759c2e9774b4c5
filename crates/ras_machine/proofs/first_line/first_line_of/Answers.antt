use Rattle.std.proofs.Common.{ℕ, ◌+◌, ◌-◌, ◌/◌, arith}
use Rattle.ras_machine.proofs.FirstLines.{no_line, earlier_too, later_too}
use Rattle.ras_machine.proofs.first_line.first_line_of.Goals as goal

pub loop-low-preserved-then-lines-middle : goal.loop-low-preserved-then-lines-middle
loop-low-preserved-then-lines-middle c =
    let middle : ℕ = c.loop-low.low + (c.loop-low.high - c.loop-low.low) / 2 in
    let order = c.loop-low.invariant.order in
    let inside = c.loop-low.invariant.inside in
    let going = c.loop-low-test.true in
    let less = c.if-lines-middle.true in
    record {
      order = omega arith;
      inside = inside;
      before = λ i d below. earlier_too c.args.lines.now c.args.n i middle d no_line c.requires (omega arith) (omega arith) less;
      behind = c.loop-low.invariant.behind;
    }

pub loop-low-preserved : goal.loop-low-preserved
loop-low-preserved c =
    let middle : ℕ = c.loop-low.low + (c.loop-low.high - c.loop-low.low) / 2 in
    let order = c.loop-low.invariant.order in
    let inside = c.loop-low.invariant.inside in
    let going = c.loop-low-test.true in
    let more = c.if-lines-middle.false in
    record {
      order = omega arith;
      inside = omega arith;
      before = c.loop-low.invariant.before;
      behind = λ i d above there. later_too c.args.lines.now c.args.n middle i d no_line c.requires above there (omega arith);
    }
