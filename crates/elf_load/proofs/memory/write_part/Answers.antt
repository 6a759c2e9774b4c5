use Rattle.std.proofs.Common.{◌+◌}
use Rattle.ras_bits.specs.declared.map.TheConstants.{RAM_START}
use Rattle.elf_load.proofs.RamLemmas.{holds_same, part_none}
use Rattle.elf_load.proofs.memory.write_part.Goals as goal

pub returns : goal.returns
returns c memory held =
    let none = holds_same c.args.words.now memory _ (part_none c.args.part.now (RAM_START + c.args.at) memory) held in
    c.write_bytes-2.ensures memory (c.write_words.ensures memory (c.write_bytes.ensures memory none))
