use Rattle.std.proofs.Common.{◌∙◌, ap, arith}
use Rattle.ecc_memory.specs.Memory.{cell_at}
use Rattle.ecc_memory.proofs.Arrays.{words_get, words_length}
use Rattle.ecc_memory.proofs.words.Words.get.Goals as goal

pub returns-clause-word : goal.returns-clause-word
returns-clause-word c =
    let fields = c.self.inside in
    words_get fields.values.items fields.checks.items fields.notes.items c.args.w c.index.result.now c.index-2.result.now c.index-note.result.now
    (grind (arith, words_length)) c.self.invariant.0 c.self.invariant.1 c.index.ensures c.index-2.ensures c.index-note.ensures
    ∙ ap (λ words. cell_at words c.args.w) c.self.view_is
