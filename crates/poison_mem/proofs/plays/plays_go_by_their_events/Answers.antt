use Rattle.poison_mem.specs.AskingLaws.{play_by_events}
use Rattle.poison_mem.proofs.plays.plays_go_by_their_events.Goals as goal

pub returns : goal.returns
returns g c m b log = play_by_events g.B.Bus.meaning g.G.EventLog.logged m b log
