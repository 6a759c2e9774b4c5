use Rattle.std.proofs.Common.{[], ◌∷◌}
use Rattle.std.proofs.lemmas.Result.{on_err_weaker}
use Rattle.ras_host.specs.Told.{Out}
use Rattle.ras_cli.proofs.WritesLemmas.{out_cut}
use Rattle.ras_cli.proofs.printing.write_text.Goals as goal

pub returns-clause-follows : goal.returns-clause-follows
returns-clause-follows g c =
    c.end_written.ensures.follows _ _ (Out c.args.text.now ∷ []) c.out-written.ensures.ok
    (on_err_weaker c.out-written.result (out_cut c.args.text.now [] _ _) c.out-written.ensures.err)

pub returns-clause-ends : goal.returns-clause-ends
returns-clause-ends g c = c.end_written.ensures.ends _ _ _ _ c.out-written.ensures.later c.out-written.ensures.failed
