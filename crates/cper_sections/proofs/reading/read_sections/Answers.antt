use Rattle.std.proofs.Common.{◌≡◌, List, [], ◌∷◌, ◌++◌, ◌-◌, ◌+◌, true, sym, ◌∙◌, ap, arith}
use Rattle.ras_bits.specs.declared.terms.SectionAt.{SectionAt}
use Rattle.cper_sections.specs.Reading.{descriptor_start, is_in_place, section_at, section_count}
use Rattle.cper_sections.proofs.SectionLemmas.{section_read, sections_from}
use Rattle.cper_sections.proofs.reading.read_sections.Goals as goal

pub loop-i-preserved : goal.loop-i-preserved
loop-i-preserved c =
    let b = c.args.b.now in
    let taken = c.loop-i.sections.items in
    let i = c.loop-i.i in
    let count = section_count b in
    let section : c.section_at.result ≡ section_at b (descriptor_start i) = c.section_at.ensures ∙ ap (section_at b) c.descriptor_start.ensures in
    let items : c.push.new.self.items ≡ taken ++ section_at b (descriptor_start i) ∷ [] = c.push.ensures.items ∙ ap (λ (s : SectionAt). taken ++ s ∷ []) section in
    let less : count - (i + 1) ≡ count - i - 1 = omega arith in
    let placed : is_in_place b i ≡ true = cc in
    record {
      whole = ap (λ (xs : List SectionAt). sections_from b xs (i + 1) (count - (i + 1))) items
          ∙ ap (sections_from b (taken ++ section_at b (descriptor_start i) ∷ []) (i + 1)) less
          ∙ sym (section_read b taken i (count - i) (omega arith) placed)
          ∙ c.loop-i.invariant.whole;
      room = omega arith;
    }
