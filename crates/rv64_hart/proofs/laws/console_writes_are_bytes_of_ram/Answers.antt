use Rattle.rv64_hart.specs.RamBytesLaws.{writes_ram}
use Rattle.rv64_hart.proofs.laws.console_writes_are_bytes_of_ram.Goals as goal

pub returns : goal.returns
returns c ram h address n starts = writes_ram ram h address n starts
