use Rattle.std.proofs.Common.{◌≡◌}
use Rattle.ecc_memory.specs.Lines.{after_puts}
use Rattle.ecc_memory.proofs.lines.put_words.Given as goal

-- the cells so far
abbrev pub invariant-loop-i : goal.invariant-loop-i
invariant-loop-i l = l.cells ≡ after_puts l.fn.cells l.l l.fn.line l.i
