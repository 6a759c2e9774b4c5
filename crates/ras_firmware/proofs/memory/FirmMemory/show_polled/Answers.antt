use Rattle.std.proofs.Common.{◌≡◌, ◌<◌, ◌-◌, length, sym, ap, ◌∙◌, arith, subst}
use Rattle.std.specs.List.{AllByRecursion}
use Rattle.poison_mem.specs.RecordView.{IsListedView}
use Rattle.ras_bits.specs.declared.map.TheConstants.{FIRMWARE_START, POLLED_BLOCK_START}
use Rattle.ras_firmware.specs.Memory.{memory_front, polled_piece, views_block}
use Rattle.ras_firmware.proofs.Written.{before, memory_written, shown}
use Rattle.ras_firmware.proofs.memory.FirmMemory.show_polled.Goals as goal

pub invariant_of-self : goal.invariant_of-self
invariant_of-self c =
    let m = c.self.inside in
    let h = c.self.invariant in
    let front = c.truncate.new.self in
    let whole = c.push_padded.new.to in
    let cut : front.items ≡ memory_front m.region =
    before (POLLED_BLOCK_START - FIRMWARE_START) (memory_front m.region) (polled_piece m.polled.items) m.bytes.items front.items h.bytes_are h.front c.truncate.ensures.items in
    let long : length front.items ≡ POLLED_BLOCK_START - FIRMWARE_START = ap length cut ∙ h.front in
    memory_written m.region c.copied-self-inside.result.items front.items whole.items c.as_slice.result.now _
    cut (c.as_slice.ensures.value ∙ c.views_block.ensures ∙ ap views_block (sym c.copied-self-inside.ensures)) c.push_padded.ensures.items long (omega (arith, whole.ok.0, front.ok.0, long, c.push_padded.ensures.len))
    (omega (arith, h.room, c.truncate.ensures.capacity, c.push_padded.ensures.capacity))
    (subst (AllByRecursion IsListedView) (sym c.copied-self-inside.ensures) c.requires.listed) h.region

pub returns-then-not-is_empty : goal.returns-then-not-is_empty
returns-then-not-is_empty c =
    let some : 0 < length c.args.views.now = grind (arith, c.is_empty.ensures, c.if-not-is_empty.true) in
    shown c.args.views.now c.copied-self-inside.result.items c.self.inside.polled.items c.self.inside.region c.args.self.now c.copied-self-inside.ensures some c.self.view_is
