use Rattle.std.proofs.Common.{ap, sym, ◌∙◌, Some}
use Rattle.clap.specs.Simple.{App}
use Rattle.clap.specs.Faults.{fault_of, is_simple_and_free}
use Rattle.clap_words.specs.GivenRows.{given_in, are_given}
use Rattle.clap_words.specs.Table.{options_of, plain_of, texts_of}
use Rattle.clap_words.proofs.AppLemmas.{rows_are, refused_has_fault}
use Rattle.clap_words.proofs.Spelled.{texts_are_spelled}
use Rattle.clap_words.proofs.TableApps.{app_with, app_is, raw_rules}
use Rattle.clap_words.proofs.TableReading.{table_built, parsed, refused_of}
use Rattle.clap_words.proofs.read.read_given.Goals as goal
use Rattle.clap_words.proofs.read.read_given.Goals.{in-OutOfMemory, in_default-kind}

pub of-requires : goal.of-requires
of-requires c =
    let t = c.args.table.now in
    let ws = texts_of c.args.words.now in
    let m = c.in-Ok-try_get_matches_from.matches in
    let b = table_built (options_of t) (plain_of t) c.requires in
    let e = c.in-Ok.ensures ∙ app_is (plain_of t) (options_of t) in
    let k = c.in-Ok-try_get_matches_from.ensures.kinds (ap is_simple_and_free e ∙ b.free) in
    let p = parsed (options_of t) (plain_of t) ws b (texts_are_spelled c.args.words.now) (sym (ap (λ (a : App). fault_of a ws) e) ∙ k) in
    ap are_given (rows_are _ (app_with (raw_rules (plain_of t) (options_of t))) ws m e b.free c.in-Ok-try_get_matches_from.ensures.matches) ∙ p.are

pub returns-in-Ok-try_get_matches_from-clause-taken : goal.returns-in-Ok-try_get_matches_from-clause-taken
returns-in-Ok-try_get_matches_from-clause-taken c =
    let t = c.args.table.now in
    let ws = texts_of c.args.words.now in
    let m = c.in-Ok-try_get_matches_from.matches in
    let b = table_built (options_of t) (plain_of t) c.requires in
    let e = c.in-Ok.ensures ∙ app_is (plain_of t) (options_of t) in
    let k = c.in-Ok-try_get_matches_from.ensures.kinds (ap is_simple_and_free e ∙ b.free) in
    let p = parsed (options_of t) (plain_of t) ws b (texts_are_spelled c.args.words.now) (sym (ap (λ (a : App). fault_of a ws) e) ∙ k) in
    p.read ∙ ap Some (ap given_in (sym (rows_are _ (app_with (raw_rules (plain_of t) (options_of t))) ws m e b.free c.in-Ok-try_get_matches_from.ensures.matches)) ∙ sym c.of.ensures)

pub returns-after-kind-clause-refused : goal.returns-after-kind-clause-refused
returns-after-kind-clause-refused c =
    let t = c.args.table.now in
    let ws = texts_of c.args.words.now in
    let b = table_built (options_of t) (plain_of t) c.requires in
    let e = c.in-Ok.ensures ∙ app_is (plain_of t) (options_of t) in
    let k = c.in-Err.ensures.kinds (ap is_simple_and_free e ∙ b.free) in
    elim c.match-kind.branch [
      | in-OutOfMemory w ↦ λ r. let is = w.result-is in cc
      | in_default-kind w ↦ λ r. refused_of (options_of t) (plain_of t) ws b
          (λ n. refused_has_fault _ c.in-Err.error k (λ x. w.in_default-kind.not-OutOfMemory (c.kind.ensures ∙ x)) (ap (λ (a : App). fault_of a ws) e ∙ n))
    ]
