-- Entries of a block, written one by one.
use Rattle.std.proofs.Common.{◌≡◌, ℕ, zero, suc, ◌+◌, ◌-◌, ◌<◌, ◌≤◌, List, map, [], ◌∷◌, ◌++◌, ◌==◌, Result, Ok, Err, length, refl, get_or, drop, sym, ap, ◌∙◌, append_assoc, add-one, drop-cons, arith}
use Rattle.std.proofs.lemmas.List.{append-nil}
use Rattle.std.proofs.Math.ListN.{drop_of_length-le}
use Rattle.std.specs.Prelude.{if◌then◌else◌}
use Rattle.std.specs.List.{find, flat_map, range_with_len}
use Rattle.ras_bits.specs.Results.{◌>>=◌}
use Rattle.byte_fields.specs.Fields.{little, zeros, padded}
use Rattle.byte_fields.specs.Section.{TellsOfSection}
use Rattle.acpi_tables.specs.declared.entries.Entry.{Entry}
use Rattle.acpi_tables.specs.declared.entries.TheConstants.{SECTION}
use Rattle.acpi_tables.specs.Blocks.{block_bytes}
use Rattle.acpi_tables.specs.Entries.{entry_bytes}
use Rattle.acpi_tables.specs.Reading.{entry_end, entry_start, is_past, refused_at, entry_section}
use Rattle.acpi_tables.specs.declared.refused.TableRefused.{TableRefused}
use Rattle.acpi_tables.specs.declared.refused.TableRefused.TheVariants as refused
use Rattle.arrayvec.specs.ArrayVec.{ArrayVec}
use Rattle.ras_bits.specs.declared.terms.SectionAt.{SectionAt}
use Rattle.std.proofs.lemmas.Bool.{le-ltb}

-- the next of the entries that are left
next_entry : (entries : List Entry) (i : ℕ) (e : Entry) → i < length entries → e ≡ get_or entries i e → drop i entries ≡ e ∷ drop (i + 1) entries
next_entry entries i e lt is = drop-cons entries i e lt ∙ ap (λ (x : Entry). x ∷ drop (suc i) entries) (sym is) ∙ ap (λ (n : ℕ). e ∷ drop n entries) (sym (add-one i))

-- an entry more at the end, and one less that is left
pub entry_written : (out : List ℕ) (entries : List Entry) (i : ℕ) (e : Entry) → i < length entries → e ≡ get_or entries i e
    → (out ++ entry_bytes e) ++ flat_map entry_bytes (drop (i + 1) entries) ≡ out ++ flat_map entry_bytes (drop i entries)
entry_written out entries i e lt is =
    append_assoc out (entry_bytes e) (flat_map entry_bytes (drop (i + 1) entries))
    ∙ ap (λ (es : List Entry). out ++ flat_map entry_bytes es) (sym (next_entry entries i e lt is))

-- an entry that is there tells of a section
pub entry_tells : (b : List ℕ) (at : ℕ) → at + 72 ≤ length b → TellsOfSection SECTION at b
entry_tells b at whole = record {
  kind = record { width = refl; there = omega arith };
  length = record { width = refl; there = omega arith };
  severity = record { width = refl; there = omega arith };
  valid = record { width = refl; there = omega arith };
  fru = record { width = refl; there = omega arith };
}

-- the sections that were taken, and those of the entries from number i on, so many, the last of `count`
abbrev pub entries_from : ℕ → List ℕ → ℕ → List SectionAt → ℕ → ℕ → Result (ArrayVec SectionAt) TableRefused
entries_from end b count taken i left =
    refused_at refused.Entry (find (is_past end b) (range_with_len i left))
    >>= λ inside. if entry_start b count == end then Ok (record { items = taken ++ map (λ k. entry_section b (entry_start b k)) (range_with_len i left) })
    else Err refused.Length

-- one entry is read, and the next is looked at
pub entry_read : (end : ℕ) (b : List ℕ) (count : ℕ) (taken : List SectionAt) (i left at : ℕ) → 0 < left → at ≡ entry_start b i → entry_end b at ≤ end
    → entries_from end b count taken i left ≡ entries_from end b count (taken ++ entry_section b at ∷ []) (i + 1) (left - 1)
entry_read end b count taken i zero at some place whole = absurd (omega arith)
entry_read end b count taken i (suc left) at some place whole =
    let less : suc left - 1 ≡ left = omega arith in
    let inside : entry_end b (entry_start b i) ≤ end = omega (arith, ap (entry_end b) place) in
    rw (place, less, le-ltb _ _ inside)
    (ap (λ (xs : List SectionAt). refused_at refused.Entry (find (is_past end b) (range_with_len (i + 1) left)) >>= λ p. if entry_start b count == end then Ok (record { items = xs }) else Err refused.Length)
    (sym (append_assoc taken (entry_section b (entry_start b i) ∷ []) (map (λ k. entry_section b (entry_start b k)) (range_with_len (i + 1) left)))))

-- the next entry stands where this one ends
pub next_start : (b : List ℕ) (i at : ℕ) → at ≡ entry_start b i → entry_end b at ≡ entry_start b (i + 1)
next_start b i at place = ap (entry_end b) place ∙ ap (entry_start b) (sym (add-one i))

-- with no entry left the block is whole
pub all_written : (out whole : List ℕ) (entries : List Entry) (i : ℕ) → length entries ≤ i → out ++ flat_map entry_bytes (drop i entries) ≡ whole → out ≡ whole
all_written out whole entries i le so_far =
    sym (append-nil out) ∙ ap (λ (es : List Entry). out ++ flat_map entry_bytes es) (sym (drop_of_length-le entries le)) ∙ so_far

-- a block without entries is zeros
pub empty_block : (entries : List Entry) → entries ≡ [] → block_bytes entries ≡ zeros 20
unfolding little zeros padded
empty_block entries e = ap block_bytes e
