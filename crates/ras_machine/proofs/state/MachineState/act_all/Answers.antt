use Rattle.std.proofs.Common.{◌+◌, sym, ap, refl, arith}
use Rattle.ras_machine.specs.Actions.{lines_acted}
use Rattle.ras_machine.proofs.FirstLines.{no_line, from_first_line, lines_over, later_too}
use Rattle.ras_machine.proofs.state.MachineState.act_all.Goals as goal

pub loop-next-init : goal.loop-next-init
loop-next-init g c = record {
  left = ap (λ lines. (lines_acted g.B.FlipBus.flips lines c.args.self.now).after) (sym (from_first_line c.args.lines.now c.args.self.now.steps c.args.at.now no_line c.requires.script.rising c.requires.first));
  words = refl;
  harts = refl;
  poll = refl;
  patrol = refl;
  steps = refl;
  inside = c.requires.first.inside;
  before = λ i d below. let less = c.requires.first.before i d below in omega arith;
  behind = c.requires.first.behind;
}

pub returns-else-lines-next-clause-after : goal.returns-else-lines-next-clause-after
returns-else-lines-next-clause-after g c =
    let other = c.if-lines-next.false in
    let low = c.loop-next.invariant.behind c.loop-next.next no_line (omega arith) c.loop-next-test.true in
    lines_over g.B.FlipBus.flips c.args.lines.now c.args.self.now.steps c.loop-next.next no_line c.args.self.now c.loop-next.self c.requires.script.rising c.loop-next-test.true (omega arith) c.loop-next.invariant.left

pub returns-else-lines-next-clause-next : goal.returns-else-lines-next-clause-next
returns-else-lines-next-clause-next g c =
    let other = c.if-lines-next.false in
    let low = c.loop-next.invariant.behind c.loop-next.next no_line (omega arith) c.loop-next-test.true in
    record {
      inside = c.loop-next.invariant.inside;
      before = c.loop-next.invariant.before;
      behind = λ i d above there. later_too c.args.lines.now (c.args.self.now.steps + 1) c.loop-next.next i d no_line c.requires.script.rising above there (omega arith);
    }
