use Rattle.std.proofs.Common.{◌∙◌}
use Rattle.fault_script.specs.Words.{words_of}
use Rattle.fault_script.proofs.WordLemmas.{drop_next}
use Rattle.fault_script.proofs.words.line_word.Goals as goal

pub loop-passed-preserved : goal.loop-passed-preserved
loop-passed-preserved c = drop_next (words_of c.args.line.now) c.loop-passed._passed _ _ (c.loop-passed.invariant ∙ c.in-Some.ensures.words)
