use Rattle.std.proofs.Common.{◌∙◌, ap, slice_set}
use Rattle.ecc_memory.proofs.Arrays.{words_set, word_back}
use Rattle.ecc_memory.proofs.words.Words.set.Goals as goal

pub returns : goal.returns
returns c =
    let fields = c.self.inside in
    let word = c.args.word in
    words_set fields.values.items fields.checks.items fields.notes.items c.args.w word.value word.check c.note.result c.self.invariant.0 c.self.invariant.1
    ∙ rw (c.note.ensures, word_back word c.requires.counted) (ap (λ words. slice_set words c.args.w word) c.self.view_is)
