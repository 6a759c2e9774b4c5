use Rattle.std.proofs.Common.{◌≡◌, subst, ◌+◌, ℕ, arith}
use Rattle.ras_bits.specs.declared.map.TheConstants.{RAM_START}
use Rattle.elf_load.specs.Memory.{HoldsBytes}
use Rattle.elf_load.specs.Bytes.{with_byte, with_part}
use Rattle.elf_load.proofs.RamLemmas.{holds_same, part_next}
use Rattle.elf_load.proofs.memory.write_bytes.Goals as goal

pub loop-i-preserved : goal.loop-i-preserved
loop-i-preserved c memory held =
    let behind : RAM_START + (c.args.at + c.loop-i.i) ≡ RAM_START + c.args.at + c.loop-i.i = omega arith in
    holds_same c.put_byte.new.words
    (with_byte (RAM_START + c.args.at + c.loop-i.i) c.byte_of-byte.result (with_part c.args.part.now (RAM_START + c.args.at) c.loop-i.i memory))
    (with_part c.args.part.now (RAM_START + c.args.at) (c.loop-i.i + 1) memory)
    (part_next c.args.part.now (RAM_START + c.args.at) c.loop-i.i c.byte_of-byte.result memory c.byte_of-byte.ensures)
    (subst (λ (at : ℕ). HoldsBytes c.put_byte.new.words (with_byte at c.byte_of-byte.result (with_part c.args.part.now (RAM_START + c.args.at) c.loop-i.i memory))) behind
    (c.put_byte.ensures _ (c.loop-i.invariant memory held)))
