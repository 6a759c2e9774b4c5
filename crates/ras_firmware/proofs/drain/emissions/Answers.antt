use Rattle.std.proofs.Common.{ap, ◌∙◌, arith, subst, sym}
use Rattle.std.specs.List.{AllByRecursion}
use Rattle.arrayvec.specs.ArrayVec.{ArrayVec, array_vec_len}
use Rattle.poison_mem.specs.RecordView.{IsListedView}
use Rattle.poison_mem.specs.declared.event.RecordView.{RecordView}
use Rattle.reri_bank.specs.StateAt.{state_at}
use Rattle.ras_firmware.specs.Drain.{emission}
use Rattle.ras_firmware.specs.Notes.{note_at}
use Rattle.ras_firmware.proofs.States.{nth_read, cleared_more, emitted_of, given_more, none_given, some_given, listed_more}
use Rattle.ras_firmware.proofs.drain.emissions.Goals.{in-None, in-Some}
use Rattle.ras_firmware.proofs.drain.emissions.Goals as goal

pub loop-id-preserved : goal.loop-id-preserved
loop-id-preserved c =
    let notes = c.args.notes.now in
    let b = c.args.banks.now in
    let i = c.loop-id.id-index in
    let h = c.loop-id.invariant in
    let below = c.loop-id-test.true in
    let kept = c.loop-id.emitted in
    let one = emitted_of notes i b c.loop-id.banks _ c.note_at.result c.clear_record.result below (nth_read i _ below) c.note_at.ensures.note h.banks c.clear_record.ensures.emitted in
    let banks = cleared_more notes i b c.loop-id.banks c.clear_record.new.banks _ c.note_at.result below (nth_read i _ below) c.note_at.ensures.note h.banks c.clear_record.ensures.banks in
    elim c.match-clear_record.branch [
      | in-None w ↦ record {
        banks = banks;
        emitted = given_more (λ id. emission (note_at notes id) (state_at b id)) i _ kept.items c.match-clear_record.emitted.items c.clear_record.result below (nth_read i _ below) h.emitted one
            (none_given kept.items c.match-clear_record.emitted.items c.clear_record.result (ap (λ (k : ArrayVec RecordView). k.items) w.emitted-is) w.in-None.is);
        few = omega (arith, ap array_vec_len w.emitted-is, h.few);
        listed = subst (AllByRecursion IsListedView) (sym (ap (λ (k : ArrayVec RecordView). k.items) w.emitted-is)) h.listed;
      }
      | in-Some w ↦ record {
        banks = banks;
        emitted = given_more (λ id. emission (note_at notes id) (state_at b id)) i _ kept.items c.match-clear_record.emitted.items c.clear_record.result below (nth_read i _ below) h.emitted one
            (some_given kept.items c.match-clear_record.emitted.items c.clear_record.result w.in-Some.view (ap (λ (k : ArrayVec RecordView). k.items) w.emitted-is ∙ w.push.ensures.items) w.in-Some.is);
        few = omega (arith, ap array_vec_len w.emitted-is, w.push.ensures.len, h.few);
        listed = listed_more kept.items c.match-clear_record.emitted.items w.in-Some.view (ap (λ (k : ArrayVec RecordView). k.items) w.emitted-is ∙ w.push.ensures.items) h.listed w.in-Some.ensures.listed;
      }
    ]
