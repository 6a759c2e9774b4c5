use Rattle.std.proofs.Common.{◌≡◌}
use Rattle.sv39_walk.specs.Walking.{needs}
use Rattle.sv39_walk.specs.Progress.{left_of}
use Rattle.poison_mem.specs.Asking.{play}
use Rattle.rv64_hart.specs.Translation.{walked}
use Rattle.rv64_hart.proofs.locate.follow.Given as goal

-- what is left of the walk is the whole walk
abbrev pub invariant-walk : goal.invariant-walk
invariant-walk g l =
    let over = play g.B.Bus.meaning g.G.EventLog.logged in
    record {
      left : over (walked l.words l.kind (left_of l.fn.start)) l.fn.bus l.fn.log ≡ over (walked l.words l.kind (left_of l.walk)) l.bus l.log;
      words : g.B.Bus.meaning.words l.bus ≡ g.B.Bus.meaning.words l.fn.bus;
    }

abbrev pub decreases-walk : goal.decreases-walk
decreases-walk g l = needs (left_of l.walk)
