-- Plain words.
use Rattle.std.specs.Prelude.{ℕ, List, [], length, slice_index, slice_set}
use Rattle.poison_mem.specs.Bus.{BusMeaning}
use Rattle.poison_mem.specs.Merge.{merged_value}
use Rattle.poison_mem.specs.declared.cell.Cell.TheVariants.{Good}

-- each read is good, and nothing is logged
abbrev pub flat_meaning : BusMeaning (List ℕ)
flat_meaning = record {
  words = length;
  read = λ memory w. record { cell = Good (slice_index memory w); after = memory; events = [] };
  store = λ memory w value mask. record { after = slice_set memory w (merged_value (slice_index memory w) value mask); events = [] };
}
