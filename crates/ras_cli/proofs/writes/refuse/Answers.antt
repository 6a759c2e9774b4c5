use Rattle.ras_cli.proofs.EndsLemmas.{line_ends}
use Rattle.ras_cli.proofs.writes.refuse.Goals as goal

pub returns-clause-ends : goal.returns-clause-ends
returns-clause-ends g c = line_ends _ _ _ _ _ _ c.write_last.ensures.follows c.write_last.ensures.code c.write_last.ensures.later c.write_last.ensures.cause
