use Rattle.ras_numbers.proofs.ReadBack.{number_of_address}
use Rattle.ras_numbers.proofs.laws.address_reads_back.Goals as goal

pub returns : goal.returns
returns c n h = number_of_address n h
