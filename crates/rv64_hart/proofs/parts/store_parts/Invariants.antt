use Rattle.std.proofs.Common.{◌≡◌, ◌+◌, ◌-◌}
use Rattle.rv64_hart.specs.ConsoleCalls.{parts_stored}
use Rattle.rv64_hart.specs.Step.{stored}
use Rattle.rv64_hart.proofs.parts.store_parts.Given as goal

-- the stores that are left, after those that were made, are all of them
abbrev pub invariant-loop-i : goal.invariant-loop-i
invariant-loop-i g l =
    let over = stored g.B.Bus.meaning g.G.EventLog.logged in
    record {
      left : over (parts_stored l.address l.bytes l.first l.n) l.fn.bus l.fn.log ≡ over (parts_stored l.address l.bytes (l.first + l.i) (l.n - l.i)) l.bus l.log;
      words : g.B.Bus.meaning.words l.bus ≡ g.B.Bus.meaning.words l.fn.bus;
    }
