use Rattle.std.proofs.Common.{◌∙◌}
use Rattle.ras_firmware.proofs.Registers.{control_effect}
use Rattle.ras_firmware.proofs.drain.control_of_record.Goals as goal

pub returns : goal.returns
returns c = c.control_of.ensures.value ∙ control_effect c.args.bank.now c.args.rec c.control_register.result c.requires.held c.requires.rec c.control_register.ensures
