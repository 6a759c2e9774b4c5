use Rattle.std.proofs.Common.{sym, ◌∙◌, subst, ap}
use Rattle.ras_machine.specs.Flat.{FlatRun}
use Rattle.ras_report.specs.declared.verdicts.Verdict.{Verdict}
use Rattle.ras_report.specs.Verdicts.{IsVerdict, faulty_shown, flat_shown, verdict_of}
use Rattle.ras_report.specs.VerdictLaws.{judged, verdict_is}
use Rattle.ras_report.proofs.VerdictsByWays.{judges_by_way}
use Rattle.ras_report.proofs.judging.verdict.Goals as goal

pub returns-clause-verdict : goal.returns-clause-verdict
returns-clause-verdict c =
    let faulty = faulty_shown c.args.m.now.state c.args.e.now in
    let flat = flat_shown c.args.f.now.state c.args.fe.now in
    judged faulty flat _ _ _ c.verdict_by.ensures c.is_at_error.ensures c.shows_same.ensures

pub returns-clause-rule : goal.returns-clause-rule
returns-clause-rule c =
    let faulty = faulty_shown c.args.m.now.state c.args.e.now in
    let flat = flat_shown c.args.f.now.state c.args.fe.now in
    subst (λ (v : Verdict). IsVerdict faulty flat v) (sym (returns-clause-verdict c)) (verdict_is faulty flat)

pub returns-clause-third_flip : goal.returns-clause-third_flip
returns-clause-third_flip c given flat lines whole keeps =
    let faulty = faulty_shown c.args.m.now.state c.args.e.now in
    let beside = ap (λ (run : FlatRun). verdict_of faulty (flat_shown run.after run.ending)) (sym whole) in
    judges_by_way given flat lines c.args.e.now c.args.m.now.state _ (returns-clause-verdict c ∙ beside) keeps
