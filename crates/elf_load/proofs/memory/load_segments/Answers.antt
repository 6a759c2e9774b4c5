use Rattle.std.proofs.Common.{◌≡◌, ℕ, ◌+◌, sym, ◌∙◌, ap, subst}
use Rattle.elf_load.specs.declared.headers.ProgramHeader.{ProgramHeader}
use Rattle.elf_load.specs.Memory.{segments_loaded, with_segment, HoldsBytes}
use Rattle.elf_load.proofs.RamLemmas.{loaded_next}
use Rattle.elf_load.proofs.memory.load_segments.Goals as goal

pub loop-k-preserved : goal.loop-k-preserved
loop-k-preserved c =
    let same : with_segment c.args.b.now c.program_header.result (segments_loaded c.args.b.now c.loop-k.k) ≡ segments_loaded c.args.b.now (c.loop-k.k + 1) =
    ap (λ (h : ProgramHeader). with_segment c.args.b.now h (segments_loaded c.args.b.now c.loop-k.k)) c.program_header.ensures ∙ sym (loaded_next c.args.b.now c.loop-k.k) in
    subst (λ (memory : ℕ → ℕ). HoldsBytes c.write_segment.new.words memory) same (c.write_segment.ensures _ c.loop-k.invariant)
