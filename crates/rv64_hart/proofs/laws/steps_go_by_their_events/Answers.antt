use Rattle.rv64_hart.specs.StepLaws.{step_by_events}
use Rattle.rv64_hart.proofs.laws.steps_go_by_their_events.Goals as goal

pub returns : goal.returns
returns g c m s = step_by_events g.B.Bus.meaning g.G.EventLog.logged m s
