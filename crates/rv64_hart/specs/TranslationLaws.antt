-- A translation keeps the offset in the page.
use Rattle.std.specs.Prelude.{◌≡◌, ℕ, zero, suc, ◌+◌, ◌*◌, ◌%◌, ◌^◌, ◌<◌, ◌==◌, Bool, true, false, if◌then◌else◌}
use Rattle.std.proofs.Common.{refl, arith}
use Rattle.ras_bits.specs.Fields.{field}
use Rattle.sv39_walk.specs.declared.request.Request.{Request}
use Rattle.sv39_walk.specs.declared.entry.EntryMeaning.TheVariants.{PageFault, NextTable, Translated}
use Rattle.sv39_walk.specs.Entry.{page_bytes, page_number, is_malformed, is_pointer, has_leaf_bits, denies}
use Rattle.sv39_walk.specs.Walking.{Walking, Done, Fault, Need, leaf_address, next_table, is_canonical, page_fault, meaning_of, by_meaning, walk, walk_from}

-- whatever the entries are, it ends at this offset in a page, if at an address
abbrev pub EndsAtOffset : ℕ → Walking → Type 0
EndsAtOffset offset (Done address) = address % 4096 ≡ offset
EndsAtOffset offset (Fault code) = Unit {0}
EndsAtOffset offset (Need address go_on) = (entry : ℕ) → EndsAtOffset offset (go_on entry)

-- a page of any level begins at a multiple of 4096
leaf_keeps_offset : (level va entry : ℕ) → level < 3 → leaf_address level va entry % 4096 ≡ va % 4096
leaf_keeps_offset zero va entry low = at 0 (page_number entry)
  where
    at : (level p : ℕ) → (p * 4096 + va % 4096) % 2 ^ 56 % 4096 ≡ va % 4096
    at level p = omega arith
leaf_keeps_offset (suc zero) va entry low = at (page_number entry)
  where
    at : (p : ℕ) → (p * 4096 + va % 2 ^ 21) % 2 ^ 56 % 4096 ≡ va % 4096
    at p = omega arith
leaf_keeps_offset (suc (suc zero)) va entry low = at (page_number entry)
  where
    at : (p : ℕ) → (p * 4096 + va % 2 ^ 30) % 2 ^ 56 % 4096 ≡ va % 4096
    at p = omega arith
leaf_keeps_offset (suc (suc (suc level))) va entry low = absurd (omega arith)

meaning_keeps_offset : (offset code : ℕ) (below : ℕ → Walking) (table address : ℕ) (malformed pointer leaf denied : Bool)
    → ((table : ℕ) → EndsAtOffset offset (below table)) → address % 4096 ≡ offset
    → EndsAtOffset offset (by_meaning (Fault code) below Done (if malformed then PageFault else if pointer then (if leaf then PageFault else NextTable table) else if denied then PageFault else Translated address))
meaning_keeps_offset offset code below table address true pointer leaf denied next at = tt
meaning_keeps_offset offset code below table address false true true denied next at = tt
meaning_keeps_offset offset code below table address false true false denied next at = next table
meaning_keeps_offset offset code below table address false false leaf true next at = tt
meaning_keeps_offset offset code below table address false false leaf false next at = at

table_keeps_offset : (request : Request) (level table : ℕ) → level < 3 → EndsAtOffset (request.va % 4096) (walk_from request level table)
unfolding walk_from meaning_of
table_keeps_offset request zero table low =
    λ entry. meaning_keeps_offset (request.va % 4096) (page_fault request.kind) (λ below. Fault (page_fault request.kind)) (next_table entry) (leaf_address 0 request.va entry)
    (is_malformed entry) (is_pointer entry) (has_leaf_bits entry) (denies request 0 entry) (λ below. tt) (leaf_keeps_offset 0 request.va entry (omega arith))
table_keeps_offset request (suc level) table low =
    λ entry. meaning_keeps_offset (request.va % 4096) (page_fault request.kind) (walk_from request level) (next_table entry) (leaf_address (suc level) request.va entry)
    (is_malformed entry) (is_pointer entry) (has_leaf_bits entry) (denies request (suc level) entry)
    (λ below. table_keeps_offset request level below (omega arith)) (leaf_keeps_offset (suc level) request.va entry low)

started_keeps_offset : (offset address code : ℕ) (bare canonical : Bool) (from : Walking) → address % 4096 ≡ offset → EndsAtOffset offset from
    → EndsAtOffset offset (if bare then Done address else if canonical then from else Fault code)
started_keeps_offset offset address code true canonical from at next = at
started_keeps_offset offset address code false true from at next = next
started_keeps_offset offset address code false false from at next = tt

-- a walk keeps the low 12 bits of its address
pub walk_keeps_offset : (satp : ℕ) (request : Request) → EndsAtOffset (request.va % 4096) (walk satp request)
unfolding walk
walk_keeps_offset satp request =
    started_keeps_offset (request.va % 4096) request.va (page_fault request.kind) (field satp 60 4 == 0) (is_canonical request.va)
    (walk_from request 2 (field satp 0 44 * page_bytes)) refl (table_keeps_offset request 2 (field satp 0 44 * page_bytes) (omega arith))
