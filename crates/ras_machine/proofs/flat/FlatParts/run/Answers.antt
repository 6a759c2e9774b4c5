use Rattle.std.proofs.Common.{◌+◌, ◌-◌, ◌≡◌, arith, ◌∙◌, ap}
use Rattle.ras_machine.specs.Schedule.{given_by}
use Rattle.ras_machine.specs.declared.ending.Stop.TheVariants.{Budget}
use Rattle.ras_machine.proofs.Steps.{run_step, run_over}
use Rattle.ras_machine.proofs.flat.FlatParts.run.Goals as goal

pub returns-in-Some-clause-run : goal.returns-in-Some-clause-run
returns-in-Some-clause-run c =
    let n = c.loop-n.n in
    c.loop-n.invariant.left ∙ run_step (given_by c.args.input.now c.args.schedule.now) (c.args.budget - n) (c.args.budget - (n + 1)) n _ _ (omega arith) c.in-Some.ensures.step

pub loop-n-preserved : goal.loop-n-preserved
loop-n-preserved c =
    let n = c.loop-n.n in
    record {
      left = c.loop-n.invariant.left ∙ run_step (given_by c.args.input.now c.args.schedule.now) (c.args.budget - n) (c.args.budget - (n + 1)) n _ _ (omega arith) c.in-None.ensures.step;
      harts = c.in-None.ensures.harts ∙ c.loop-n.invariant.harts;
    }

pub returns-clause-run : goal.returns-clause-run
returns-clause-run c =
    let e : c.loop-n.n ≡ c.args.budget = omega arith in
    c.loop-n.invariant.left
    ∙ run_over (given_by c.args.input.now c.args.schedule.now) (c.args.budget - c.loop-n.n) c.loop-n.n _ (omega arith)
    ∙ ap (λ n. record { after = c.loop-n.self; ending = record { stop = Budget; steps = n } }) e
