use Rattle.std.proofs.Common.{arith}
use Rattle.hsiao_code.proofs.Entries.{syndrome_at}
use Rattle.hsiao_code.proofs.tables.syndrome_entry.Goals as goal

pub returns : goal.returns
returns c = syndrome_at c.args.s (omega arith)
