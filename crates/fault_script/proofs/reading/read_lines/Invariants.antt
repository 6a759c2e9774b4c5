use Rattle.std.proofs.Common.{◌≡◌, ◌≤◌, ◌+◌, [], length}
use Rattle.fault_script.specs.Fits.{AreReadable}
use Rattle.fault_script.specs.Words.{lines_of}
use Rattle.fault_script.proofs.ReadingLemmas.{read_on}
use Rattle.fault_script.proofs.reading.read_lines.Given as goal

abbrev pub invariant-loop-rest : goal.invariant-loop-rest
invariant-loop-rest l = record {
  reading : read_on l.ram_words l.number l.lines.items (lines_of l.rest) ≡ read_on l.ram_words 0 [] (lines_of l.text);
  fits : AreReadable l.ram_words l.lines.items;
  within : l.number + length l.rest ≤ length l.text;
}

abbrev pub decreases-loop-rest : goal.decreases-loop-rest
decreases-loop-rest l = length l.rest
