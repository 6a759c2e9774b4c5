use Rattle.std.proofs.Common.{ap, ◌∙◌}
use Rattle.clap.specs.Matches.{found_of}
use Rattle.clap.specs.Walk.{rows_of}
use Rattle.clap_words.specs.GivenRows.{is_from_words}
use Rattle.clap_words.specs.Reading.{has}
use Rattle.clap_words.proofs.GivenLemmas.{source_rows, from_words_is}
use Rattle.clap_words.proofs.given.Given.has.Goals as goal

pub returns : goal.returns
returns c =
    let f = found_of c.self.inside.matches in
    c.is_from_words.ensures ∙ ap is_from_words (c.value_source.ensures ∙ source_rows f c.args.name.now)
    ∙ from_words_is c.args.name.now (rows_of f) c.self.invariant ∙ ap (has c.args.name.now) c.self.view_is
