use Rattle.std.proofs.Common.{◌≡◌, subst, ◌+◌, ◌*◌, ◌/◌, ◌%◌, set, ℕ, arith}
use Rattle.ras_bits.specs.declared.map.TheConstants.{RAM_START}
use Rattle.elf_load.specs.Memory.{HoldsBytes}
use Rattle.elf_load.specs.Bytes.{with_part}
use Rattle.elf_load.proofs.RamLemmas.{put_word}
use Rattle.elf_load.proofs.memory.write_words.Goals as goal

pub loop-k-preserved : goal.loop-k-preserved
loop-k-preserved c memory held =
    let next : c.args.from + 8 * c.loop-k.k + 8 ≡ c.args.from + 8 * (c.loop-k.k + 1) = omega arith in
    let aligned : (c.args.at + c.args.from) % 8 ≡ 0 = c.requires.aligned (omega arith) in
    subst (λ (n : ℕ). HoldsBytes (set c.loop-k.words ((c.args.at + c.args.from) / 8 + c.loop-k.k) c.part_word.result) (with_part c.args.part.now (RAM_START + c.args.at) n memory)) next
    (put_word c.args.part.now c.loop-k.words c.args.at (c.args.from + 8 * c.loop-k.k) ((c.args.at + c.args.from) / 8 + c.loop-k.k) c.part_word.result memory
    (omega (arith, aligned)) (omega arith) c.part_word.ensures (c.loop-k.invariant memory held))
