use Rattle.ras_host.proofs.CallLemmas.{log_appended}
use Rattle.ras_host.proofs.steady.SteadyHost.begin.Goals as goal

pub returns-clause-appended : goal.returns-clause-appended
returns-clause-appended c = rw (← c.self.view_is, c.note.ensures.told) (log_appended c.self.inside.log _)
