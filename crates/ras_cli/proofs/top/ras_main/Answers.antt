use Rattle.std.proofs.Common.{rules, refl}
use Rattle.std.specs.Prelude.{IfSome}
use Rattle.ras_words.specs.Read.{texts_of}
use Rattle.ras_cli.specs.Plans.{planned_by}
use Rattle.ras_cli.specs.Follows.{Follows}
use Rattle.ras_cli.proofs.EndsLemmas.{ends_line}
use Rattle.ras_cli.proofs.FollowsLemmas.{refused_words, all_make_front, usage_line}
use Rattle.ras_cli.proofs.TopLemmas.{words_complete}
use Rattle.ras_cli.proofs.top.ras_main.Goals as goal

pub returns-in-Ok-clause-calls : goal.returns-in-Ok-clause-calls
returns-in-Ok-clause-calls g c =
    let follows : IfSome (g.H.Host.told c.args.host.now).files (λ files. Follows (g.H.Host.told c.args.host.now) (g.H.Host.told c.carry_out.new.host) (planned_by (texts_of c.args.words.now) files) c.carry_out.result.code) =
    search (rules, c.carry_out.ensures.follows) in
    all_make_front _ (planned_by (texts_of c.args.words.now)) _ _ _ follows

pub returns-in-Ok-clause-complete : goal.returns-in-Ok-clause-complete
returns-in-Ok-clause-complete g c =
    let follows : IfSome (g.H.Host.told c.args.host.now).files (λ files. Follows (g.H.Host.told c.args.host.now) (g.H.Host.told c.carry_out.new.host) (planned_by (texts_of c.args.words.now) files) c.carry_out.result.code) =
    search (rules, c.carry_out.ensures.follows) in
    words_complete _ (texts_of c.args.words.now) _ _ _ follows

pub returns-in-Ok-clause-line : goal.returns-in-Ok-clause-line
returns-in-Ok-clause-line g c = ends_line _ _ _ _ _ c.carry_out.ensures.ends

pub returns-in-Err-Refused-clause-follows : goal.returns-in-Err-Refused-clause-follows
returns-in-Err-Refused-clause-follows g c =
    refused_words _ (texts_of c.args.words.now) _ _ _ (c.in-Err-Refused.ensures.refused (rw c.in-Err-Refused.field-0-is refl)) c.write_last.ensures.follows

pub returns-in-Err-Refused-clause-line : goal.returns-in-Err-Refused-clause-line
returns-in-Err-Refused-clause-line g c = usage_line _ _ _ c.write_last.ensures.follows
