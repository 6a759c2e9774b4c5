use Rattle.std.proofs.Common.{◌∙◌, arith}
use Rattle.ras_firmware.proofs.Written.{memory_written}
use Rattle.ras_firmware.proofs.memory.write_memory.Goals as goal

pub returns : goal.returns
returns c =
    let front = c.write_front.new.bytes in
    let whole = c.push_padded.new.to in
    memory_written c.args.region c.args.polled.now front.items whole.items c.as_slice.result.now _
    c.write_front.ensures.items (c.as_slice.ensures.value ∙ c.views_block.ensures) c.push_padded.ensures.items
    (omega (arith, front.ok.0, c.write_front.ensures.len)) (omega (arith, whole.ok.0, c.push_padded.ensures.len, c.write_front.ensures.len))
    (omega (arith, c.requires.room, c.write_front.ensures.capacity, c.push_padded.ensures.capacity)) c.requires.listed c.requires.region
