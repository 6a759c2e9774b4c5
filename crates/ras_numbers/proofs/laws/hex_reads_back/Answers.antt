use Rattle.ras_numbers.proofs.ReadBack.{number_of_hex}
use Rattle.ras_numbers.proofs.laws.hex_reads_back.Goals as goal

pub returns : goal.returns
returns c width n some small h = number_of_hex width n some small h
