use Rattle.std.proofs.Common.{refl, sym, ap, ◌∙◌}
use Rattle.ras_firmware.specs.Drain.{marked}
use Rattle.ras_firmware.specs.Notes.{index_of}
use Rattle.ras_firmware.proofs.States.{nth_read, changed_more, index_is, noted, noted_more, noted_of}
use Rattle.ras_firmware.proofs.drain.marked_notes.Goals as goal

pub loop-i-preserved : goal.loop-i-preserved
loop-i-preserved c =
    let b = c.args.banks.now in
    let i = c.loop-i.i in
    let h = c.loop-i.invariant in
    let below = c.loop-i-test.true in
    record {
      banks = changed_more (λ id. marked) i b c.loop-i.banks c.mark_record.new.banks _ below (nth_read i _ below) h.banks c.mark_record.ensures.banks;
      notes = noted_more i b c.loop-i.notes _ _ c.mark_record.result below (nth_read i _ below) h.notes
          (noted_of i b c.loop-i.banks _ c.mark_record.result below (nth_read i _ below) h.banks c.mark_record.ensures.note) refl;
      each = noted c.loop-i.notes _ i c.mark_record.result h.each (sym (ap index_of (nth_read i _ below) ∙ index_is i below)) c.mark_record.ensures.listed;
    }
