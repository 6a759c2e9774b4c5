use Rattle.std.proofs.Common.{arith, ap, sym, subst, ◌∙◌}
use Rattle.rv64_decode.specs.Encoding.{OperandsInRange, IsItsRow, encoding}
use Rattle.rv64_decode.proofs.Laws.{row_unique, row_in_range, row_written_back}
use Rattle.rv64_decode.proofs.decoding.decode.Goals as goal

pub returns-clause-unique : goal.returns-clause-unique
returns-clause-unique c =
    subst (IsItsRow c.args.word) (sym c.row_of_word.ensures) (row_unique c.args.word (omega arith))

pub returns-clause-in_range : goal.returns-clause-in_range
returns-clause-in_range c = subst OperandsInRange (sym c.row_of_word.ensures) (row_in_range c.args.word (omega arith))

pub returns-clause-written_back : goal.returns-clause-written_back
returns-clause-written_back c =
    ap encoding c.row_of_word.ensures ∙ row_written_back c.args.word (omega arith)
