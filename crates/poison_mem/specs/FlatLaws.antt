-- Plain words stay as many.
use Rattle.std.specs.Prelude.{slice_index, refl}
use Rattle.std.proofs.Math.ListN.{length-set}
use Rattle.poison_mem.specs.Bus.{KeepsWords}
use Rattle.poison_mem.specs.Merge.{merged_value}
use Rattle.poison_mem.specs.Flat.{flat_meaning}

pub flat_keeps_words : KeepsWords flat_meaning
flat_keeps_words = record {
  read = λ memory w. refl;
  store = λ memory w value mask. length-set memory w (merged_value (slice_index memory w) value mask);
}
