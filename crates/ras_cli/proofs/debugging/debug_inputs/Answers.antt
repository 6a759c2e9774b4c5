use Rattle.std.proofs.Common.{ap, ◌∙◌, ◌++◌, List, refl, arith, inl, subst}
use Rattle.std.proofs.lemmas.Result.{on_ok_weaker, on_err_weaker}
use Rattle.ras_host.specs.Told.{HostAction}
use Rattle.ras_cli.specs.Inputs.{given_in}
use Rattle.ras_cli.specs.Plan.{Planned}
use Rattle.ras_cli.specs.Status.{code_of}
use Rattle.ras_cli.specs.declared.status.Exit.TheVariants.{Ended}
use Rattle.ras_cli.specs.DebugPlan.{session_pieces}
use Rattle.ras_cli.specs.Follows.{Follows}
use Rattle.ras_cli.proofs.DebugLemmas.{nothing_behind, pieces_same}
use Rattle.ras_cli.proofs.EndsLemmas.{memory_ends}
use Rattle.ras_cli.proofs.debugging.debug_inputs.Goals as goal

pub returns-in-Ok-clause-follows : goal.returns-in-Ok-clause-follows
returns-in-Ok-clause-follows g c = λ lines rising start reads all h.
    let pieces = session_pieces c.args.text.now c.in-Ok.session in
    let same = ap (session_pieces c.args.text.now) c.in-Ok.ensures ∙ pieces_same c.args.text.now c.args.inputs.image c.args.settings.now (given_in c.args.inputs) lines c.args.inputs.script.lines rising in
    let planned = λ (l : List HostAction). let p : Planned = record { code = code_of Ended; actions = reads ++ l } in Follows start (g.H.Host.told c.write_replies-written.new.host) p c.end_written.result.code in
    subst planned same
    (c.end_written.ensures.follows start _ (reads ++ pieces)
    (on_ok_weaker c.write_replies-written.result (λ k. k start reads h) c.write_replies-written.ensures.made)
    (on_err_weaker c.write_replies-written.result (λ k. k start reads h) c.write_replies-written.ensures.cut))

pub returns-in-Ok-clause-ends : goal.returns-in-Ok-clause-ends
returns-in-Ok-clause-ends g c = c.end_written.ensures.ends _ _ _ _ c.write_replies-written.ensures.later c.write_replies-written.ensures.failed

pub returns-in-Err-clause-follows : goal.returns-in-Err-clause-follows
returns-in-Err-clause-follows g c = λ lines rising. rw c.status.ensures (nothing_behind _ _)

pub returns-in-Err-clause-ends : goal.returns-in-Err-clause-ends
returns-in-Err-clause-ends g c = rw c.status.ensures (memory_ends _ _ _ _ (inl refl) (omega arith))
