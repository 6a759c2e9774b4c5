use Rattle.std.proofs.Common.{◌∙◌, ◌%◌, ap, sym, subst}
use Rattle.mem_stack.specs.Stack.{LogsToOwnRecords}
use Rattle.mem_stack.proofs.Logs.{store_logs}
use Rattle.mem_stack.proofs.stack.StackBus.store.Goals as goal

pub invariant_of-self : goal.invariant_of-self
invariant_of-self g c = (
  ap (λ words. words % 8) c.store.ensures.words ∙ c.self.invariant.0,
  subst LogsToOwnRecords (sym c.store.ensures.after) (store_logs c.self.inside.l1 c.args.w c.args.v c.args.mask c.self.invariant.1),
)
