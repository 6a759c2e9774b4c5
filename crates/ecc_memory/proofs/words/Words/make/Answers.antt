use Rattle.std.proofs.Common.{◌≡◌, replicate, rules, refl}
use Rattle.ecc_memory.proofs.Arrays.{words_same, word_back}
use Rattle.ecc_memory.proofs.words.Words.make.Goals as goal

pub returns : goal.returns
returns c =
    let values : c.in_ok-values.values.items ≡ replicate c.args.words c.args.word.value = search rules in
    let checks : c.in_ok-checks.checks.items ≡ replicate c.args.words c.args.word.check = search rules in
    let notes : c.in_ok-notes.notes.items ≡ replicate c.args.words c.note.result = search rules in
    rw (values, checks, notes, c.note.ensures, words_same, word_back c.args.word c.requires) refl
