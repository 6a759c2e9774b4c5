use Rattle.std.proofs.Common.{◌<◌, arith, ap, subst, ◌∙◌}
use Rattle.ras_machine.specs.Undisturbed.{first_with_few}
use Rattle.ras_machine.proofs.Alone.{no_patrol, no_drain, few_later}
use Rattle.ras_machine.proofs.state.MachineState.undisturbed_until.Goals as goal

pub returns-clause-alone : goal.returns-clause-alone
returns-clause-alone g c n up low =
    let s = c.args.self.now in
    let near = c.min.ensures in
    let nearest = c.min-2.ensures in
    let high = c.silent_until.ensures.high in
    let drain = c.first_with_few-drain.ensures ∙ ap (λ k. first_with_few s.steps k 2) c.left.ensures.left in
    let patrol = c.first_with_few-patrol.ensures ∙ ap (λ k. first_with_few s.steps k 1) c.left-2.ensures.left in
    record {
      more = omega arith;
      silent = c.silent_until.ensures.silent s.steps n c.requires.first up (omega arith);
      unpatrolled = no_patrol s.patrol s.steps n up (subst (λ k. n < k) patrol (omega arith));
      undrained = no_drain s.poll s.steps n up (subst (λ k. n < k) drain (omega arith));
    }

pub returns-clause-first : goal.returns-clause-first
returns-clause-first g c n up low =
    let near = c.min.ensures in
    let nearest = c.min-2.ensures in
    c.silent_until.ensures.first c.args.self.now.steps n c.requires.first up (omega arith)

pub returns-clause-low : goal.returns-clause-low
returns-clause-low g c =
    let s = c.args.self.now in
    let near = c.min.ensures in
    let nearest = c.min-2.ensures in
    let silent = c.silent_until.ensures.low s.steps c.requires.first c.requires.budget in
    let drain =
    few_later s.steps c.left.result 2 c.first_with_few-drain.result c.first_with_few-drain.type_inv c.first_with_few-drain.ensures (omega arith) in
    let patrol =
    few_later s.steps c.left-2.result 1 c.first_with_few-patrol.result c.first_with_few-patrol.type_inv c.first_with_few-patrol.ensures (omega arith) in
    omega arith
