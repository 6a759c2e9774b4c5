use Rattle.ras_numbers.proofs.ReadBack.{number_of_decimal}
use Rattle.ras_numbers.proofs.laws.decimal_reads_back.Goals as goal

pub returns : goal.returns
returns c n h = number_of_decimal n h
