use Rattle.std.proofs.Common.{◌∙◌}
use Rattle.ras_firmware.proofs.Registers.{sinv_effect}
use Rattle.ras_firmware.proofs.drain.write_sinv.Goals as goal

pub returns : goal.returns
returns c =
    c.write_reg.ensures.state
    ∙ sinv_effect c.args.banks.now c.args.bank c.args.rec c.control_offset.result c.put_field.result c.control_register-value.result c.bank.result.now
    c.bank.ensures.value c.bank.ensures.held c.bank.ensures.records c.requires.rec c.control_offset.ensures c.control_register-value.ensures c.put_field.ensures
