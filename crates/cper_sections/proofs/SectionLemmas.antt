-- Sections of a record, read one by one.
use Rattle.std.proofs.Common.{◌≡◌, ℕ, zero, suc, ◌+◌, ◌-◌, ◌<◌, ◌≤◌, true, not, length, refl, List, map, [], ◌∷◌, ◌++◌, Result, Ok, sym, ap, append_assoc, arith}
use Rattle.std.specs.List.{find, range_with_len}
use Rattle.arrayvec.specs.ArrayVec.{ArrayVec}
use Rattle.ras_bits.specs.declared.terms.SectionAt.{SectionAt}
use Rattle.ras_bits.specs.Results.{◌>>=◌}
use Rattle.cper_sections.specs.Reading.{descriptor_start, is_in_place, none_misplaced, section_at}
use Rattle.cper_sections.specs.declared.reading.CperRefused.{CperRefused}
use Rattle.byte_fields.specs.Section.{TellsOfSection}
use Rattle.cper_sections.specs.declared.descriptor.TheConstants.{SECTION}

-- a descriptor that is there tells of a section
pub descriptor_tells : (b : List ℕ) (at : ℕ) → at + 72 ≤ length b → TellsOfSection SECTION at b
descriptor_tells b at whole = record {
  kind = record { width = refl; there = omega arith };
  length = record { width = refl; there = omega arith };
  severity = record { width = refl; there = omega arith };
  valid = record { width = refl; there = omega arith };
  fru = record { width = refl; there = omega arith };
}

-- the sections that were taken, and those of the descriptors from number i on, so many
abbrev pub sections_from : List ℕ → List SectionAt → ℕ → ℕ → Result (ArrayVec SectionAt) CperRefused
sections_from b taken i left =
    none_misplaced (find (λ k. not (is_in_place b k)) (range_with_len i left))
    >>= λ placed. Ok (record { items = taken ++ map (λ k. section_at b (descriptor_start k)) (range_with_len i left) })

-- one section is read, and the next is looked at
pub section_read : (b : List ℕ) (taken : List SectionAt) (i left : ℕ) → 0 < left → is_in_place b i ≡ true
    → sections_from b taken i left ≡ sections_from b (taken ++ section_at b (descriptor_start i) ∷ []) (i + 1) (left - 1)
section_read b taken i zero some placed = absurd (omega arith)
section_read b taken i (suc left) some placed =
    let less : suc left - 1 ≡ left = omega arith in
    rw (placed, less)
    (ap (λ (xs : List SectionAt). none_misplaced (find (λ k. not (is_in_place b k)) (range_with_len (i + 1) left)) >>= λ p. Ok (record { items = xs }))
    (sym (append_assoc taken (section_at b (descriptor_start i) ∷ []) (map (λ k. section_at b (descriptor_start k)) (range_with_len (i + 1) left)))))
