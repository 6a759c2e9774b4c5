use Rattle.std.proofs.Common.{◌≡◌, drop}
use Rattle.fault_script.specs.Words.{words_of}
use Rattle.fault_script.proofs.words.line_word.Given as goal

abbrev pub invariant-loop-passed : goal.invariant-loop-passed
invariant-loop-passed l = drop l._passed (words_of l.fn.line) ≡ words_of l.rest
