use Rattle.std.proofs.Common.{arith}
use Rattle.elf_load.specs.Memory.{file_memory}
use Rattle.elf_load.proofs.WordLemmas.{words_are}
use Rattle.elf_load.proofs.memory.write_segments.Goals as goal

pub returns : goal.returns
returns c = words_are c.load_segments.new.words (file_memory c.args.b.now) c.args.ram_words (omega arith) (λ k. (c.type_inv.words k).fits) c.load_segments.ensures
