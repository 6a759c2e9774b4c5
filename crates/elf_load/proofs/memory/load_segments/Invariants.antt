use Rattle.elf_load.specs.Memory.{segments_loaded, HoldsBytes}
use Rattle.elf_load.proofs.memory.load_segments.Given as goal

abbrev pub invariant-loop-k : goal.invariant-loop-k
invariant-loop-k l = HoldsBytes l.words (segments_loaded l.b l.k)
