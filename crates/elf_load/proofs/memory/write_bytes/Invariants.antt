use Rattle.std.proofs.Common.{ℕ, ◌+◌}
use Rattle.ras_bits.specs.declared.map.TheConstants.{RAM_START}
use Rattle.elf_load.specs.Memory.{HoldsBytes}
use Rattle.elf_load.specs.Bytes.{with_part}
use Rattle.elf_load.proofs.memory.write_bytes.Given as goal

abbrev pub invariant-loop-i : goal.invariant-loop-i
invariant-loop-i l = (memory : ℕ → ℕ) → HoldsBytes l.fn.words (with_part l.part (RAM_START + l.at) l.from memory)
    → HoldsBytes l.words (with_part l.part (RAM_START + l.at) l.i memory)
