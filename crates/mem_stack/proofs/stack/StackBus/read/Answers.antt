use Rattle.std.proofs.Common.{◌∙◌, ◌/◌, ◌%◌, ap, sym, subst}
use Rattle.mem_stack.specs.Stack.{LogsToOwnRecords}
use Rattle.mem_stack.proofs.Logs.{read_logs}
use Rattle.mem_stack.proofs.stack.StackBus.read.Goals as goal

pub invariant_of-self : goal.invariant_of-self
invariant_of-self g c = (
  ap (λ words. words % 8) c.read_word.ensures.words ∙ c.self.invariant.0,
  subst LogsToOwnRecords (sym c.read_word.ensures.after) (read_logs c.self.inside.l1 (c.args.w / 8) c.self.invariant.1),
)
