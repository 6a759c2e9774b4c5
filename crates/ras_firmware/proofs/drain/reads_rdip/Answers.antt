use Rattle.ras_firmware.proofs.Registers.{rdip_effect}
use Rattle.ras_firmware.proofs.drain.reads_rdip.Goals as goal

pub returns-in-Some : goal.returns-in-Some
returns-in-Some c =
    rdip_effect c.args.bank.now c.args.rec c.control_offset.result c.in-Some.value c.has_bit.result c.read_reg.result
    c.requires.held c.requires.rec c.control_offset.ensures c.read_reg.ensures c.in-Some.is c.has_bit.ensures
