use Rattle.ras_firmware.proofs.Emitting.{never_falls}
use Rattle.ras_firmware.proofs.laws.class_never_falls.Goals as goal

pub returns : goal.returns
returns c = never_falls
