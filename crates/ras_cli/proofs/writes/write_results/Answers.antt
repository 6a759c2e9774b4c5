use Rattle.ras_words.specs.Read.{run_in}
use Rattle.ras_cli.specs.Writes.{pieces_in}
use Rattle.ras_cli.proofs.writes.write_results.Goals as goal

pub returns-clause-follows : goal.returns-clause-follows
returns-clause-follows g c =
    c.end_written.ensures.follows _ _ (pieces_in (run_in c.args.run) c.args.outputs.now) c.write_pieces-written.ensures.made c.write_pieces-written.ensures.cut

pub returns-clause-ends : goal.returns-clause-ends
returns-clause-ends g c = c.end_written.ensures.ends _ _ _ _ c.write_pieces-written.ensures.later c.write_pieces-written.ensures.failed
