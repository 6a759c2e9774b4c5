use Rattle.std.proofs.Common.{◌-◌, ap, ◌∙◌}
use Rattle.byte_fields.specs.Fields.{padded}
use Rattle.ras_bits.specs.declared.map.TheConstants.{POLLED_POINTER, BOOT_REGION_START}
use Rattle.ras_firmware.proofs.Written.{front_written}
use Rattle.ras_firmware.proofs.memory.write_front.Goals as goal

pub returns-clause-items : goal.returns-clause-items
returns-clause-items c =
    front_written c.args.region c.hest.result c.bert.result c.as_slice.result.now c.as_slice-2.result.now
    c.clear.new.self.items c.push_padded.new.to.items c.push_padded-2.new.to.items c.push_padded-3.new.to.items c.push_padded-4.new.to.items
    c.clear.ensures.items c.hest.ensures.bytes c.push_padded.ensures.items c.bert.ensures.bytes c.push_padded-2.ensures.items
    (ap (padded (BOOT_REGION_START - POLLED_POINTER)) c.as_slice.ensures.value ∙ c.pointer.ensures) c.push_padded-3.ensures.items
    (c.as_slice-2.ensures.value ∙ c.region_block.ensures) c.push_padded-4.ensures.items
