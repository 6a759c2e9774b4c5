use Rattle.std.proofs.Common.{◌+◌, ◌-◌, ◌∙◌, sym, ap, arith}
use Rattle.ras_debug.specs.Running.{advanced}
use Rattle.ras_debug.proofs.Steps.{advanced_ended, advanced_next, advanced_over}
use Rattle.ras_debug.proofs.running.Running.advance.Goals as goal

pub loop-done-init : goal.loop-done-init
loop-done-init c = record {
  left = advanced_next c.args.n (c.args.n - 1) c.args.self.now (omega arith) ∙ ap (advanced (c.args.n - 1)) (sym c.step-ending.ensures.after);
  ending = c.step-ending.ensures.ending;
  settings = c.step-ending.ensures.settings;
}

pub loop-done-preserved : goal.loop-done-preserved
loop-done-preserved c =
    let left = c.args.n - (c.loop-done._done + 1) in
    record {
      left = c.loop-done.invariant.left ∙ advanced_next (c.args.n - c.loop-done._done) left c.loop-done.self (omega arith)
          ∙ ap (advanced left) (sym c.step-ending-in-None.ensures.after);
      ending = c.step-ending-in-None.ensures.ending;
      settings = c.step-ending-in-None.ensures.settings ∙ c.loop-done.invariant.settings;
    }

pub returns-in-Some-clause-after : goal.returns-in-Some-clause-after
returns-in-Some-clause-after c =
    sym (c.loop-done.invariant.left
    ∙ advanced_ended (c.args.n - c.loop-done._done) c.loop-done.self c.in-Some.found (sym c.loop-done.invariant.ending ∙ c.in-Some.is))

pub returns-clause-after : goal.returns-clause-after
returns-clause-after c =
    sym (c.loop-done.invariant.left ∙ advanced_over (c.args.n - c.loop-done._done) c.loop-done.self (omega arith))
