use Rattle.rv64_hart.specs.RamFillsLaws.{fills_ram}
use Rattle.rv64_hart.proofs.laws.console_reads_fill_ram.Goals as goal

pub returns : goal.returns
returns c ram input h place address n touched small = fills_ram ram input h place address n touched small
