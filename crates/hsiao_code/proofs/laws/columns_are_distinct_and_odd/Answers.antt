use Rattle.hsiao_code.specs.ColumnLaws.{columns_apart, column_weight_odd}
use Rattle.hsiao_code.proofs.laws.columns_are_distinct_and_odd.Goals as goal

pub returns : goal.returns
returns c = record { distinct = columns_apart; odd = column_weight_odd }
