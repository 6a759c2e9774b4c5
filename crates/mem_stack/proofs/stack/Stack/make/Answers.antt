use Rattle.std.proofs.Common.{ap}
use Rattle.mem_stack.specs.Stack.{fresh_stack}
use Rattle.mem_stack.specs.StackLaws.{zeros_stand}
use Rattle.mem_stack.proofs.Zeros.{all_zero}
use Rattle.mem_stack.proofs.stack.Stack.make.Goals as goal

pub returns : goal.returns
returns c = record {
  empty = rw (
    c.in_ok-l1.ensures.empty,
    c.in_ok-l2.ensures.empty,
    c.in_ok-memory.ensures.zero,
    c.bank.ensures,
    c.record.ensures,
    c.bank-2.ensures,
    c.record-2.ensures,
  ) (ap fresh_stack (all_zero c.args.words));
  stands = λ q. rw (
    c.in_ok-l1.ensures.empty,
    c.in_ok-l2.ensures.empty,
    c.in_ok-memory.ensures.zero,
    c.bank.ensures,
    c.record.ensures,
    c.bank-2.ensures,
    c.record-2.ensures,
  ) (zeros_stand c.args.words q c.requires.lines);
}
