use Rattle.std.proofs.Common.{rules}
use Rattle.ecc_memory.specs.LinesLaws.{zero_lines_stand}
use Rattle.ecc_memory.proofs.memory.EccMemory.make.Goals as goal

pub returns-clause-stands : goal.returns-clause-stands
returns-clause-stands c = λ l q in_range i below. zero_lines_stand c.in_ok-cells.cells c.args.words (search rules) l q i below
