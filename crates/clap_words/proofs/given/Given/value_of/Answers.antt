use Rattle.std.proofs.Common.{sym, ap, ◌∙◌}
use Rattle.clap.specs.Matches.{found_of}
use Rattle.clap.specs.Walk.{rows_of}
use Rattle.clap.proofs.WalkLemmas.{first_value-rows}
use Rattle.clap_words.specs.Reading.{has, value_of}
use Rattle.clap_words.proofs.GivenLemmas.{value_is, value_absent}
use Rattle.clap_words.proofs.given.Given.value_of.Goals as goal

pub returns-then-has : goal.returns-then-has
returns-then-has c =
    let f = found_of c.self.inside.matches in
    c.get_str.ensures ∙ first_value-rows f c.args.name.now
    ∙ value_is c.args.name.now (rows_of f) c.self.invariant (ap (has c.args.name.now) c.self.view_is ∙ sym c.has.ensures ∙ c.if-has.true)
    ∙ ap (value_of c.args.name.now) c.self.view_is

pub returns-else-has : goal.returns-else-has
returns-else-has c = sym (value_absent c.args.name.now c.args.self.now (sym c.has.ensures ∙ c.if-has.false))
