-- Sections lie in what holds them.
use Rattle.std.proofs.Common.{◌≡◌, ℕ, ◌+◌, ◌<◌, ◌≤◌, ◌==◌, Bool, true, false, not, cond, ◌&&◌, List, map, [], ◌∷◌, length, codes, Option, Some, None, Result, Ok, Err, refl, ap, subst, arith}
use Rattle.std.proofs.lemmas.Bool.{leb-true, ltb-false}
use Rattle.std.specs.Prelude.{nat_le, nat_lt, if◌then◌else◌}
use Rattle.std.specs.Result.{result_unwrap_or}
use Rattle.std.specs.List.{AllByRecursion, find, range_with_len}
use Rattle.arrayvec.specs.ArrayVec.{ArrayVec}
use Rattle.ras_bits.specs.Results.{◌>>=◌}
use Rattle.ras_bits.specs.declared.terms.SectionAt.{SectionAt}
use Rattle.byte_fields.specs.Section.{section_in}
use Rattle.cper_sections.specs.Reading.{record_of, record_length, header_kept, is_in_place, descriptor_start, section_at, section_numbers, sections_of, none_misplaced, descriptors_end, section_count, section_offset, section_length, signature_end, signature_start}
use Rattle.cper_sections.specs.Record.{end_mark, header_length}
use Rattle.cper_sections.specs.declared.reading.CperRefused.TheVariants as refused
use Rattle.cper_sections.specs.declared.reading.Cper.{Cper}
use Rattle.cper_sections.specs.declared.reading.CperRefused.{CperRefused}
use Rattle.acpi_tables.specs.Reading.{block_of, block_data_length, entries_in, entry_count, entry_end, entry_section, entry_start, is_past, refused_at}
use Rattle.acpi_tables.specs.Blocks.{block_header_length}
use Rattle.acpi_tables.specs.declared.refused.TableRefused.{TableRefused}
use Rattle.acpi_tables.specs.declared.refused.TableRefused.TheVariants as table
use Rattle.acpi_tables.specs.declared.block_reading.BlockView.{BlockView}
use Rattle.ras_read.specs.Sections.{IsInside}
use Rattle.ras_read.specs.Records.{IsWhole}

-- what is answered after a step was answered by it and by the next
both_answer : {A B E : Type 0} (r : Result A E) (f : A → Result B E) (y : B) → (r >>= f) ≡ Ok y → (x : A) × ((r ≡ Ok x) × (f x ≡ Ok y))
both_answer (Ok x) f y e = (x, (refl, e))
both_answer (Err refusal) f y e = absurd cc

-- what is answered behind a test passed it
passed : {A E : Type 0} (t : Bool) (refusal : E) (r : Result A E) (y : A) → (if t then Err refusal else r) ≡ Ok y → (t ≡ false) × (r ≡ Ok y)
passed true refusal r y e = absurd cc
passed false refusal r y e = (refl, e)

and_both : (a b : Bool) → (a && b) ≡ true → (a ≡ true) × (b ≡ true)
and_both true b e = (refl, e)
and_both false b e = absurd cc

-- ---- records

none_found : (f : Option ℕ) (x : Unit {0}) → none_misplaced f ≡ Ok x → f ≡ None
none_found None x e = refl
none_found (Some k) x e = absurd cc

record HasLength (b : List ℕ) : Type 0 where
  some : 0 < record_length b
  there : record_length b ≤ length b

-- the header's tests of the number of sections
abbrev from_count : List ℕ → Result (Unit {0}) CperRefused
from_count b =
    if section_count b == 0 then Err refused.Sections
    else if nat_lt 16 (section_count b) then Err refused.Sections
    else if nat_lt (record_length b) (descriptors_end b) then Err refused.Sections
    else Ok tt

-- from that of the bytes that are there on
abbrev from_length : List ℕ → Result (Unit {0}) CperRefused
from_length b = if nat_lt (length b) (record_length b) then Err refused.Length else from_count b

-- from that of the least length on
abbrev from_least : List ℕ → Result (Unit {0}) CperRefused
from_least b = if nat_lt (record_length b) header_length then Err refused.Length else from_length b

-- from that of the end mark on
abbrev from_mark : List ℕ → Result (Unit {0}) CperRefused
from_mark b = if not (signature_end b == end_mark) then Err refused.EndMark else from_least b

header_has_length : (b : List ℕ) (x : Unit {0}) → header_kept b ≡ Ok x → HasLength b
unfolding header_kept
header_has_length b x e =
    let is_other = not (signature_start b == signature_start (codes "CPER")) in
    let signature = passed (nat_lt (length b) header_length) refused.Short (if is_other then Err refused.Signature else from_mark b) x e in
    let mark = passed is_other refused.Signature (from_mark b) x signature.1 in
    let least = passed (not (signature_end b == end_mark)) refused.EndMark (from_least b) x mark.1 in
    let there = passed (nat_lt (record_length b) header_length) refused.Length (from_length b) x least.1 in
    let count = passed (nat_lt (length b) (record_length b)) refused.Length (from_count b) x there.1 in
    let above = ltb-false (record_length b) header_length there.0 in
    let below = ltb-false (length b) (record_length b) count.0 in
    record { some = omega (arith, above); there = below }

section_inside : (b : List ℕ) (k : ℕ) → is_in_place b k ≡ true → record_length b ≤ length b → IsInside b (section_at b (descriptor_start k))
unfolding section_in
section_inside b k placed there =
    let end = section_offset b (descriptor_start k) + section_length b (descriptor_start k) in
    let both = and_both (nat_le (descriptors_end b) (section_offset b (descriptor_start k))) (nat_le end (record_length b)) placed in
    let ends = leb-true end (record_length b) both.1 in
    omega (arith, ends, there)

sections_inside : (b : List ℕ) (ks : List ℕ) → find (λ k. not (is_in_place b k)) ks ≡ None → record_length b ≤ length b
    → AllByRecursion (IsInside b) (map (λ k. section_at b (descriptor_start k)) ks)
sections_inside b [] e there = tt
sections_inside b (k ∷ ks) e there = by_test (is_in_place b k) refl e (λ f. sections_inside b ks f there) where
  by_test : (t : Bool) → is_in_place b k ≡ t → cond (not t) (Some k) (find (λ k. not (is_in_place b k)) ks) ≡ None
      → (find (λ k. not (is_in_place b k)) ks ≡ None → AllByRecursion (IsInside b) (map (λ k. section_at b (descriptor_start k)) ks))
      → AllByRecursion (IsInside b) (map (λ k. section_at b (descriptor_start k)) (k ∷ ks))
  by_test true placed e others = (section_inside b k placed there, others e)
  by_test false placed e others = absurd cc

-- the sections of a header's descriptors
abbrev sections_read : List ℕ → List SectionAt
sections_read b = map (λ k. section_at b (descriptor_start k)) (section_numbers b)

all_inside : (b : List ℕ) (sections : ArrayVec SectionAt) → sections_of b ≡ Ok sections → record_length b ≤ length b
    → AllByRecursion (IsInside b) sections.items
all_inside b sections e there =
    let steps = both_answer (none_misplaced (find (λ k. not (is_in_place b k)) (section_numbers b))) (λ placed. Ok (record { items = sections_read b })) sections e in
    let found = none_found (find (λ k. not (is_in_place b k)) (section_numbers b)) steps.0 steps.1.0 in
    let items : sections_read b ≡ sections.items = ap (λ (q : Result (ArrayVec SectionAt) CperRefused). (result_unwrap_or q sections).items) steps.1.1 in
    subst (AllByRecursion (IsInside b)) items (sections_inside b (section_numbers b) found there)

pub record_whole : (b : List ℕ) (r : Cper) → record_of b ≡ Ok r → IsWhole b r
unfolding record_of
record_whole b r e =
    let header = both_answer (header_kept b) _ r e in
    let has = header_has_length b header.0 header.1.0 in
    let read = both_answer (sections_of b) _ r header.1.1 in
    let inside = all_inside b read.0 read.1.0 has.there in
    let length_is : record_length b ≡ r.length = ap (λ (q : Result Cper CperRefused). (result_unwrap_or q r).length) read.1.1 in
    let sections_are : read.0 ≡ r.sections = ap (λ (q : Result Cper CperRefused). (result_unwrap_or q r).sections) read.1.1 in
    record {
      some = subst (λ (n : ℕ). 0 < n) length_is has.some;
      there = subst (λ (n : ℕ). n ≤ length b) length_is has.there;
      inside = subst (λ (s : ArrayVec SectionAt). AllByRecursion (IsInside b) s.items) sections_are inside;
    }

-- ---- blocks

none_refused : (f : Option ℕ) (x : Unit {0}) → refused_at table.Entry f ≡ Ok x → f ≡ None
none_refused None x e = refl
none_refused (Some i) x e = absurd cc

entry_inside : (end : ℕ) (b : List ℕ) (i : ℕ) → is_past end b i ≡ false → end ≤ length b → IsInside b (entry_section b (entry_start b i))
unfolding section_in
entry_inside end b i inside there =
    let ends = ltb-false end (entry_end b (entry_start b i)) inside in
    omega (arith, ends, there)

entries_inside : (end : ℕ) (b : List ℕ) (is : List ℕ) → find (is_past end b) is ≡ None → end ≤ length b
    → AllByRecursion (IsInside b) (map (λ i. entry_section b (entry_start b i)) is)
entries_inside end b [] e there = tt
entries_inside end b (i ∷ is) e there = by_test (is_past end b i) refl e (λ f. entries_inside end b is f there) where
  by_test : (t : Bool) → is_past end b i ≡ t → cond t (Some i) (find (is_past end b) is) ≡ None
      → (find (is_past end b) is ≡ None → AllByRecursion (IsInside b) (map (λ i. entry_section b (entry_start b i)) is))
      → AllByRecursion (IsInside b) (map (λ i. entry_section b (entry_start b i)) (i ∷ is))
  by_test true inside e others = absurd cc
  by_test false inside e others = (entry_inside end b i inside there, others e)

-- the sections of so many entries
abbrev entries_read : List ℕ → ℕ → List SectionAt
entries_read b count = map (λ i. entry_section b (entry_start b i)) (range_with_len 0 count)

all_entries_inside : (end : ℕ) (b : List ℕ) (count : ℕ) (sections : ArrayVec SectionAt) → entries_in end b count ≡ Ok sections → end ≤ length b
    → AllByRecursion (IsInside b) sections.items
all_entries_inside end b count sections e there =
    let steps = both_answer (refused_at table.Entry (find (is_past end b) (range_with_len 0 count)))
    (λ inside. if entry_start b count == end then Ok (record { items = entries_read b count }) else Err table.Length) sections e in
    let found = none_refused (find (is_past end b) (range_with_len 0 count)) steps.0 steps.1.0 in
    by_end (entry_start b count == end) steps.1.1 (entries_inside end b (range_with_len 0 count) found there) where
      by_end : (t : Bool) → (if t then Ok (record { items = entries_read b count }) else Err table.Length) ≡ Ok sections
          → AllByRecursion (IsInside b) (entries_read b count) → AllByRecursion (IsInside b) sections.items
      by_end true e inside =
          let items : entries_read b count ≡ sections.items = ap (λ (q : Result (ArrayVec SectionAt) TableRefused). (result_unwrap_or q sections).items) e in
          subst (AllByRecursion (IsInside b)) items inside
      by_end false e inside = absurd cc

-- what is read of a block's entries
abbrev block_entries : List ℕ → Result (ArrayVec SectionAt) TableRefused
block_entries b = entries_in (block_header_length + block_data_length b) b (entry_count b)

ends_there : {A : Type 0} (b : List ℕ) (r : Result A TableRefused) (y : A)
    → (if nat_lt (length b) block_header_length then Err table.Short
    else if nat_lt (length b) (block_header_length + block_data_length b) then Err table.Length
    else if nat_lt 16 (entry_count b) then Err table.Length
    else r) ≡ Ok y → (block_header_length + block_data_length b ≤ length b) × (r ≡ Ok y)
ends_there b r y e =
    let end = block_header_length + block_data_length b in
    let few = if nat_lt 16 (entry_count b) then Err table.Length else r in
    let short = passed (nat_lt (length b) block_header_length) table.Short (if nat_lt (length b) end then Err table.Length else few) y e in
    let past = passed (nat_lt (length b) end) table.Length few y short.1 in
    let many = passed (nat_lt 16 (entry_count b)) table.Length r y past.1 in
    (ltb-false (length b) end past.0, many.1)

pub block_inside : (b : List ℕ) (v : BlockView) → block_of b ≡ Ok v → AllByRecursion (IsInside b) v.entries.items
unfolding block_of
block_inside b v e =
    let there = ends_there b _ v e in
    let read = both_answer (block_entries b) _ v there.1 in
    let inside = all_entries_inside (block_header_length + block_data_length b) b (entry_count b) read.0 read.1.0 there.0 in
    let entries_are : read.0 ≡ v.entries = ap (λ (q : Result BlockView TableRefused). (result_unwrap_or q v).entries) read.1.1 in
    subst (λ (s : ArrayVec SectionAt). AllByRecursion (IsInside b) s.items) entries_are inside
