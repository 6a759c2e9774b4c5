use Rattle.std.proofs.lemmas.Result.{on_ok_weaker, on_err_weaker}
use Rattle.ras_cli.proofs.WritesLemmas.{any_error}
use Rattle.ras_cli.proofs.ComparisonLemmas.{all_compared, first_cut, second_cut, third_cut}
use Rattle.ras_cli.proofs.compare.write_pieces.Goals as goal

pub returns-in_err-err-clause-cut : goal.returns-in_err-err-clause-cut
returns-in_err-err-clause-cut g c =
    any_error _ (first_cut c.args.console.now c.args.report.now c.args.flat_report.now c.args.line.now _ _ _ c.in_ok-out.ensures.ok c.in_err-err.ensures.err)

pub returns-in_err-err-2-clause-cut : goal.returns-in_err-err-2-clause-cut
returns-in_err-err-2-clause-cut g c =
    any_error _ (second_cut c.args.console.now c.args.report.now c.args.flat_report.now c.args.line.now _ _ _ _ c.in_ok-out.ensures.ok c.in_ok-err.ensures.ok c.in_err-err-2.ensures.err)

pub returns-clause-made : goal.returns-clause-made
returns-clause-made g c =
    on_ok_weaker c.err-3.result
    (all_compared c.args.console.now c.args.report.now c.args.flat_report.now c.args.line.now _ _ _ _ _ c.in_ok-out.ensures.ok c.in_ok-err.ensures.ok c.in_ok-err-2.ensures.ok)
    c.err-3.ensures.ok

pub returns-clause-cut : goal.returns-clause-cut
returns-clause-cut g c =
    on_err_weaker c.err-3.result
    (third_cut c.args.console.now c.args.report.now c.args.flat_report.now c.args.line.now _ _ _ _ _ c.in_ok-out.ensures.ok c.in_ok-err.ensures.ok c.in_ok-err-2.ensures.ok)
    c.err-3.ensures.err
