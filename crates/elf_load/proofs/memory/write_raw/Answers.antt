use Rattle.std.proofs.Common.{arith}
use Rattle.elf_load.specs.Memory.{zero_memory, raw_memory, HoldsBytes}
use Rattle.elf_load.proofs.WordLemmas.{words_are}
use Rattle.elf_load.proofs.memory.write_raw.Goals as goal

pub returns : goal.returns
returns c =
    let held : HoldsBytes c.write_part.new.words (raw_memory c.args.b.now) = c.write_part.ensures zero_memory c.requires.zero in
    words_are c.write_part.new.words (raw_memory c.args.b.now) _ (omega arith) (λ k. (c.type_inv.words k).fits) held
