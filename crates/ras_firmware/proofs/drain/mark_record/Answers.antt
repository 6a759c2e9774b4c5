use Rattle.std.proofs.Common.{◌≡◌, sym, ap, ◌∙◌}
use Rattle.reri_bank.specs.StateAt.{state_at}
use Rattle.reri_bank.specs.State.{state_marked}
use Rattle.ras_firmware.specs.Drain.{note_of}
use Rattle.ras_firmware.proofs.States.{read_at, changed_as, marked_with, marked_without}
use Rattle.ras_firmware.proofs.drain.mark_record.Goals as goal

pub returns-then-is_some-clause-banks : goal.returns-then-is_some-clause-banks
returns-then-is_some-clause-banks c =
    let b = c.args.banks.now in
    let id = c.args.id in
    let note : c.signalled_view-note.result ≡ note_of (state_at b id) =
    c.signalled_view-note.ensures.view ∙ ap note_of (read_at b id c.bank.result c.record.result c.bank-2.result.now c.bank.ensures c.record.ensures c.bank-2.ensures.value) in
    marked_with b c.write_srdp.new.banks id c.signalled_view-note.result note (sym c.is_some.ensures ∙ c.if-is_some.true)
    (changed_as b c.write_srdp.new.banks id c.bank-then-is_some.result c.record-then-is_some.result state_marked c.bank-then-is_some.ensures c.record-then-is_some.ensures c.write_srdp.ensures)

pub returns-else-is_some-clause-banks : goal.returns-else-is_some-clause-banks
returns-else-is_some-clause-banks c =
    let b = c.args.banks.now in
    let id = c.args.id in
    let note : c.signalled_view-note.result ≡ note_of (state_at b id) =
    c.signalled_view-note.ensures.view ∙ ap note_of (read_at b id c.bank.result c.record.result c.bank-2.result.now c.bank.ensures c.record.ensures c.bank-2.ensures.value) in
    marked_without b id c.signalled_view-note.result note (sym c.is_some.ensures ∙ c.if-is_some.false)
