use Rattle.std.proofs.Common.{◌≡◌, ℕ, ◌+◌, ◌-◌, ◌<◌, List, ◌++◌, length, Some, get_or, ap, subst, ◌∙◌, arith}
use Rattle.std.specs.List.{slice_get}
use Rattle.std.proofs.lemmas.Option.{slice_get-get_or}
use Rattle.std.proofs.lemmas.List.{length-append}
use Rattle.poison_mem.specs.declared.event.RecordView.{RecordView}
use Rattle.cper_sections.specs.Record.{record_bytes}
use Rattle.ras_report.proofs.FileLemmas.{no_view, record_written, records_from}
use Rattle.ras_report.proofs.records.write_records.Goals as goal

pub loop-view-preserved : goal.loop-view-preserved
loop-view-preserved c =
    let views = c.args.r.now.views in
    let items = c.list-view-items.result.now in
    let same : items ≡ views = c.list-view-items.ensures.views in
    let i = c.loop-view.view-index in
    let v = get_or items i no_view in
    let within : i < length views = subst (λ (xs : List RecordView). i < length xs) same c.loop-view-test.true in
    let here : slice_get views i ≡ Some v = subst (λ (xs : List RecordView). slice_get xs i ≡ Some v) same (slice_get-get_or items i no_view c.loop-view-test.true) in
    let pushed : c.push.new.self ≡ c.loop-view.b ++ c.write_record.new.out.items = c.push.ensures ∙ ap (λ (xs : List ℕ). c.loop-view.b ++ xs) c.as_slice.ensures.value in
    let made : c.push.new.self ≡ c.loop-view.b ++ record_bytes v (i + 1) =
    pushed ∙ ap (λ (xs : List ℕ). c.loop-view.b ++ xs) (c.write_record.ensures.bytes ∙ ap (λ (n : ℕ). record_bytes v (n + 1)) c.loop-view.invariant.number) in
    record {
      whole = ap (λ (xs : List ℕ). xs ++ records_from views (i + 1) (length views - (i + 1))) made
          ∙ record_written views i v c.loop-view.b within here ∙ c.loop-view.invariant.whole;
      number = ap (λ (n : ℕ). n + 1) c.loop-view.invariant.number;
      room = omega (arith, ap (λ (xs : List ℕ). length xs) pushed, length-append c.loop-view.b c.write_record.new.out.items, c.write_record.ensures.short, c.loop-view.invariant.room);
    }
