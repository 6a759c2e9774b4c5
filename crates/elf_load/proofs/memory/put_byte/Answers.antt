use Rattle.std.proofs.Common.{◌/◌, ◌%◌, get_or, arith}
use Rattle.elf_load.proofs.RamLemmas.{put_holds, new_bytes}
use Rattle.elf_load.proofs.memory.put_byte.Goals as goal

pub returns : goal.returns
returns c memory held =
    put_holds c.args.words.now memory c.args.at c.args.byte c.from_le_bytes.result c.requires
    (new_bytes (get_or c.args.words.now (c.args.at / 8) 0) c.to_le_bytes-bytes.result (c.args.at % 8) c.args.byte c.from_le_bytes.result (omega arith) (omega arith) c.to_le_bytes-bytes.ensures c.from_le_bytes.ensures) held
