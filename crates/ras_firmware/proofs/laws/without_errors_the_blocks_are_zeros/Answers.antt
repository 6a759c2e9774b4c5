use Rattle.ras_firmware.proofs.Zeros.{zero_polled, zero_region}
use Rattle.ras_firmware.proofs.laws.without_errors_the_blocks_are_zeros.Goals as goal

pub returns : goal.returns
returns c = record { polled = zero_polled; region = zero_region }
