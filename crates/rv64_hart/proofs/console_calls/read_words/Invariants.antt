use Rattle.std.proofs.Common.{◌≡◌, ◌+◌, ◌-◌, ◌*◌}
use Rattle.arrayvec.specs.ArrayVec.{array_vec_len}
use Rattle.poison_mem.specs.Asking.{play}
use Rattle.rv64_hart.specs.ConsoleCalls.{bytes_asked}
use Rattle.rv64_hart.proofs.console_calls.read_words.Given as goal

-- what is left to be asked for is the whole
abbrev pub invariant-loop-i : goal.invariant-loop-i
invariant-loop-i g l =
    let over = play g.B.Bus.meaning g.G.EventLog.logged in
    record {
      left : over (bytes_asked l.fn.bytes.items l.w l.n) l.fn.bus l.fn.log ≡ over (bytes_asked l.bytes.items (l.w + l.i) (l.n - l.i)) l.bus l.log;
      len : array_vec_len l.bytes ≡ array_vec_len l.fn.bytes + 8 * l.i;
      words : g.B.Bus.meaning.words l.bus ≡ g.B.Bus.meaning.words l.fn.bus;
    }
