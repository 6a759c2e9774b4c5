use Rattle.std.proofs.Common.{◌≡◌, ℕ, List, [], ◌∷◌, ◌++◌, ◌-◌, ◌+◌, sym, ◌∙◌, ap, arith}
use Rattle.ras_bits.specs.declared.terms.SectionAt.{SectionAt}
use Rattle.acpi_tables.specs.Reading.{entry_end, entry_section}
use Rattle.acpi_tables.proofs.BlockLemmas.{entries_from, entry_read, next_start}
use Rattle.acpi_tables.proofs.block_reading.read_entries.Goals as goal

pub loop-i-preserved : goal.loop-i-preserved
loop-i-preserved c =
    let b = c.args.b.now in
    let at = c.loop-i.at in
    let end = c.args.end in
    let count = c.args.count in
    let taken = c.loop-i.entries.items in
    let i = c.loop-i.i in
    let items : c.push.new.self.items ≡ taken ++ entry_section b at ∷ [] = c.push.ensures.items ∙ ap (λ (s : SectionAt). taken ++ s ∷ []) c.entry_section.ensures in
    let behind : at + 72 + c.u32_in.result ≡ entry_end b at = ap (λ (n : ℕ). at + 72 + n) c.u32_in.ensures in
    let less : count - (i + 1) ≡ count - i - 1 = omega arith in
    record {
      whole = ap (λ (xs : List SectionAt). entries_from end b count xs (i + 1) (count - (i + 1))) items
          ∙ ap (entries_from end b count (taken ++ entry_section b at ∷ []) (i + 1)) less
          ∙ sym (entry_read end b count taken i (count - i) at (omega arith) c.loop-i.invariant.place (omega arith))
          ∙ c.loop-i.invariant.whole;
      place = behind ∙ next_start b i at c.loop-i.invariant.place;
      inside = omega arith;
      room = omega arith;
    }
