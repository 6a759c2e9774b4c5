use Rattle.std.proofs.Common.{◌∙◌, ◌++◌, ◌+◌, ℕ, List, length, ap, arith}
use Rattle.ras_debug.specs.Replies.{word_line}
use Rattle.ras_debug.proofs.Lines.{no_words, words_more}
use Rattle.ras_debug.proofs.inspecting.push_words.Goals as goal

pub loop-i-init : goal.loop-i-init
loop-i-init c = record {
  text = no_words c.args.m.now c.args.w c.args.reply.now c.requires.empty;
  len = omega (arith, ap length c.requires.empty);
}

pub loop-i-preserved : goal.loop-i-preserved
loop-i-preserved c = record {
  text = c.push_word.ensures.text ∙ ap (λ (text : List ℕ). text ++ word_line c.args.m.now (c.args.w + c.loop-i.i)) c.loop-i.invariant.text
      ∙ words_more c.args.m.now c.args.w c.loop-i.i;
  len = omega arith;
}
