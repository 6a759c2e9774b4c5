use Rattle.std.proofs.lemmas.Result.{on_ok_weaker, on_err_weaker}
use Rattle.ras_words.specs.Read.{run_in}
use Rattle.ras_cli.proofs.WritesLemmas.{any_error, records_cut, tables_cut, report_cut, all_written}
use Rattle.ras_cli.proofs.writes.write_pieces.Goals as goal

pub returns-in_err-create_named-clause-cut : goal.returns-in_err-create_named-clause-cut
returns-in_err-create_named-clause-cut g c =
    let o = c.args.outputs.now in
    any_error _ (records_cut (run_in c.args.run) o.console.now o.records.now o.tables.now o.report.now _ _ _ c.in_ok-out.ensures.ok c.in_err-create_named.ensures.cut)

pub returns-in_err-create_named-2-clause-cut : goal.returns-in_err-create_named-2-clause-cut
returns-in_err-create_named-2-clause-cut g c =
    let o = c.args.outputs.now in
    any_error _ (tables_cut (run_in c.args.run) o.console.now o.records.now o.tables.now o.report.now _ _ _ _ c.in_ok-out.ensures.ok c.in_ok-create_named.ensures.made c.in_err-create_named-2.ensures.cut)

pub returns-clause-made : goal.returns-clause-made
returns-clause-made g c =
    let o = c.args.outputs.now in
    on_ok_weaker c.err.result
    (all_written (run_in c.args.run) o.console.now o.records.now o.tables.now o.report.now _ _ _ _ _ c.in_ok-out.ensures.ok c.in_ok-create_named.ensures.made c.in_ok-create_named-2.ensures.made)
    c.err.ensures.ok

pub returns-clause-cut : goal.returns-clause-cut
returns-clause-cut g c =
    let o = c.args.outputs.now in
    on_err_weaker c.err.result
    (report_cut (run_in c.args.run) o.console.now o.records.now o.tables.now o.report.now _ _ _ _ _ c.in_ok-out.ensures.ok c.in_ok-create_named.ensures.made c.in_ok-create_named-2.ensures.made)
    c.err.ensures.err
