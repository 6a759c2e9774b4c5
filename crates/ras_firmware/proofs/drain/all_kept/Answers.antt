use Rattle.std.proofs.Common.{ap, ◌∙◌, arith, subst, sym}
use Rattle.std.specs.List.{AllByRecursion}
use Rattle.arrayvec.specs.ArrayVec.{ArrayVec, array_vec_len}
use Rattle.poison_mem.specs.RecordView.{IsListedView}
use Rattle.poison_mem.specs.declared.event.RecordView.{RecordView}
use Rattle.reri_bank.specs.StateAt.{state_at}
use Rattle.ras_firmware.proofs.States.{nth_read, given_more, none_given, some_given, listed_more}
use Rattle.ras_firmware.proofs.drain.all_kept.Goals.{in-None, in-Some}
use Rattle.ras_firmware.proofs.drain.all_kept.Goals as goal

pub loop-id-preserved : goal.loop-id-preserved
loop-id-preserved c =
    let b = c.args.banks.now in
    let i = c.loop-id.id-index in
    let h = c.loop-id.invariant in
    let below = c.loop-id-test.true in
    let kept = c.loop-id.kept in
    let new = c.match-kept_by.kept in
    elim c.match-kept_by.branch [
      | in-None w ↦ record {
        kept = given_more (λ id. (state_at b id).kept) i _ kept.items new.items c.kept_by.result below (nth_read i _ below) h.kept c.kept_by.ensures.kept
            (none_given kept.items new.items c.kept_by.result (ap (λ (k : ArrayVec RecordView). k.items) w.kept-is) w.in-None.is);
        few = omega (arith, ap array_vec_len w.kept-is, h.few);
        listed = subst (AllByRecursion IsListedView) (sym (ap (λ (k : ArrayVec RecordView). k.items) w.kept-is)) h.listed;
      }
      | in-Some w ↦ record {
        kept = given_more (λ id. (state_at b id).kept) i _ kept.items new.items c.kept_by.result below (nth_read i _ below) h.kept c.kept_by.ensures.kept
            (some_given kept.items new.items c.kept_by.result w.in-Some.view (ap (λ (k : ArrayVec RecordView). k.items) w.kept-is ∙ w.push.ensures.items) w.in-Some.is);
        few = omega (arith, ap array_vec_len w.kept-is, w.push.ensures.len, h.few);
        listed = listed_more kept.items new.items w.in-Some.view (ap (λ (k : ArrayVec RecordView). k.items) w.kept-is ∙ w.push.ensures.items) h.listed w.in-Some.ensures.listed;
      }
    ]
