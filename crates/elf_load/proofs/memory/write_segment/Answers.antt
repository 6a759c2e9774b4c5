use Rattle.std.proofs.Common.{◌≡◌, ◌+◌, ◌-◌, ℕ, List, true, take, drop, subst, arith}
use Rattle.std.proofs.lemmas.Grind.{common_steps}
use Rattle.ras_bits.specs.declared.map.TheConstants.{RAM_START}
use Rattle.elf_load.specs.Headers.{is_load}
use Rattle.elf_load.specs.Memory.{HoldsBytes, with_segment}
use Rattle.elf_load.specs.Bytes.{with_part}
use Rattle.elf_load.proofs.RamLemmas.{holds_same, starts_in_ram, part_is_segment}
use Rattle.elf_load.proofs.memory.write_segment.Goals as goal

pub returns : goal.returns
returns c memory held =
    let header = c.args.header.now in
    let load : is_load header ≡ true = grind (arith, common_steps) in
    let written = c.write_part.ensures memory held in
    let whole = subst (λ (part : List ℕ). HoldsBytes c.write_part.new.words (with_part part (RAM_START + (header.p_paddr - RAM_START)) header.p_memsz memory)) c.file_part-part.ensures written in
    let placed = subst (λ (start : ℕ). HoldsBytes c.write_part.new.words (with_part (take header.p_filesz (drop header.p_offset c.args.b.now)) start header.p_memsz memory))
    (starts_in_ram c.args.b.now c.args.ram_words header c.requires.fits load c.if-header-eq0.false) whole in
    holds_same c.write_part.new.words _ (with_segment c.args.b.now header memory) (part_is_segment c.args.b.now header memory load) placed
