use Rattle.std.proofs.Common.{ℕ, ◌≡◌, ◌<◌, ◌+◌, ◌*◌}
use Rattle.poison_mem.specs.Bus.{logged_all}
use Rattle.poison_mem.specs.Line.{cell}
use Rattle.ecc_memory.specs.Lines.{shown_at, after_reads, read_events}
use Rattle.ecc_memory.proofs.lines.read_words.Given as goal

-- the words so far
abbrev pub invariant-loop-i : goal.invariant-loop-i
invariant-loop-i g l = record {
  line : (n : ℕ) → n < l.i → cell l.line n ≡ shown_at l.fn.cells (8 * l.l + n);
  cells : l.cells ≡ after_reads l.fn.cells l.l l.i;
  events : l.g ≡ logged_all g.G.EventLog.logged l.fn.g (read_events l.fn.cells l.l l.i);
}
