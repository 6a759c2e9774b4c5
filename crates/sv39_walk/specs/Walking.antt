-- The translation of an access by Sv39, as a computation that asks for the entries it needs (privileged manual, "Virtual Address
-- Translation Process"; "Addressing and Memory Protection" of Sv39, satp and scause).
use Rattle.std.specs.Prelude.{ℕ, zero, suc, List, [], ◌∷◌, ◌+◌, ◌-◌, ◌*◌, ◌/◌, ◌%◌, ◌^◌, ◌<◌, ◌==◌, Bool, ◌||◌, if◌then◌else◌}
use Rattle.ras_bits.specs.Fields.{field}
use Rattle.ras_bits.specs.declared.terms.Access.{Access}
use Rattle.ras_bits.specs.declared.terms.Access.TheVariants.{Fetch, Load, Store}
use Rattle.sv39_walk.specs.declared.request.Request.{Request}
use Rattle.sv39_walk.specs.declared.entry.EntryMeaning.{EntryMeaning}
use Rattle.sv39_walk.specs.declared.entry.EntryMeaning.TheVariants.{PageFault, NextTable, Translated}
use Rattle.sv39_walk.specs.declared.step.WalkStep.{WalkStep}
use Rattle.sv39_walk.specs.declared.step.WalkStep.TheVariants as step
use Rattle.sv39_walk.specs.Entry.{page_number, page_bytes, is_malformed, is_pointer, has_leaf_bits, denies}

-- a walk: ended with an address or with the code of a page fault, or in need of the entry at an address
pub data Walking : Type 0 where
  Done : (address : ℕ) → Walking
  Fault : (cause : ℕ) → Walking
  Need : (address : ℕ) → (ℕ → Walking) → Walking

-- the code of the page fault of an access
abbrev pub page_fault : Access → ℕ
page_fault Fetch = 12
page_fault Load = 13
page_fault Store = 15

-- the address of the entry for va in the table of this level: 8 bytes an entry, by nine bits of va
abbrev pub entry_address : ℕ → ℕ → ℕ → ℕ
entry_address table level va = (table + 8 * field va (12 + 9 * level) 9) % 2 ^ 56

-- the address that a leaf of this level gives va, whose low 12 + 9 * level bits stay
abbrev pub leaf_address : ℕ → ℕ → ℕ → ℕ
leaf_address level va entry = (page_number entry * page_bytes + va % 2 ^ (12 + 9 * level)) % 2 ^ 56

-- bits 63:39 are all equal to bit 38
abbrev pub is_canonical : ℕ → Bool
is_canonical va = (va / 2 ^ 38 == 0) || (va / 2 ^ 38 == 2 ^ 26 - 1)

-- the address of the table that a pointer points to
abbrev pub next_table : ℕ → ℕ
next_table entry = page_number entry * page_bytes

-- what an entry of this level means to an access: the next table, the translated address, or a page fault
unfoldable pub meaning_of : Request → ℕ → ℕ → EntryMeaning
meaning_of request level entry =
    if is_malformed entry then PageFault
    else if is_pointer entry then (if has_leaf_bits entry then PageFault else NextTable (next_table entry))
    else if denies request level entry then PageFault
    else Translated (leaf_address level request.va entry)

-- one of three, by its meaning
abbrev pub by_meaning : {A : Type 0} → A → (ℕ → A) → (ℕ → A) → EntryMeaning → A
by_meaning fault below done PageFault = fault
by_meaning fault below done (NextTable table) = below table
by_meaning fault below done (Translated address) = done address

-- the walk from the table of this level on; a pointer at level 0 is a page fault
unfoldable pub walk_from : Request → ℕ → ℕ → Walking
walk_from request zero table =
    Need (entry_address table 0 request.va)
    (λ entry. by_meaning (Fault (page_fault request.kind)) (λ below. Fault (page_fault request.kind)) Done (meaning_of request 0 entry))
walk_from request (suc level) table =
    Need (entry_address table (suc level) request.va)
    (λ entry. by_meaning (Fault (page_fault request.kind)) (walk_from request level) Done (meaning_of request (suc level) entry))

-- the whole walk: satp has the mode in bits 63:60, 0 for Bare, and the page number of the first table in bits 43:0
unfoldable pub walk : ℕ → Request → Walking
walk satp request =
    if field satp 60 4 == 0 then Done request.va
    else if is_canonical request.va then walk_from request 2 (field satp 0 44 * page_bytes)
    else Fault (page_fault request.kind)

-- what is left of a walk after an entry
abbrev pub after_entry : Walking → ℕ → Walking
after_entry (Done address) entry = Done address
after_entry (Fault cause) entry = Fault cause
after_entry (Need address go_on) entry = go_on entry

-- what is left of it after a list of entries
abbrev pub after_entries : Walking → List ℕ → Walking
after_entries walking [] = walking
after_entries walking (entry ∷ entries) = after_entries (after_entry walking entry) entries

-- what it wants next
abbrev pub next_of : Walking → WalkStep
next_of (Done address) = step.Done address
next_of (Fault cause) = step.Fault cause
next_of (Need address go_on) = step.Need address

-- it is in need of an entry
abbrev pub IsNeed : Walking → Type 0
IsNeed (Done address) = ⊥
IsNeed (Fault cause) = ⊥
IsNeed (Need address go_on) = Unit {0}

-- where this step wants an entry, the walk is in need of one
abbrev pub AsksInNeed : WalkStep → Walking → Type 0
AsksInNeed (step.Need address) walking = IsNeed walking
AsksInNeed (step.Done address) walking = Unit {0}
AsksInNeed (step.Fault cause) walking = Unit {0}

-- it needs at most this many entries, whatever they are
abbrev pub NeedsAtMost : ℕ → Walking → Type 0
NeedsAtMost most (Done address) = Unit {0}
NeedsAtMost most (Fault cause) = Unit {0}
NeedsAtMost most (Need address go_on) = (0 < most) × ((entry : ℕ) → NeedsAtMost (most - 1) (go_on entry))

-- how many entries it needs where each points to a table, the longest way
abbrev pub needs : Walking → ℕ
needs (Done address) = 0
needs (Fault cause) = 0
needs (Need address go_on) = suc (needs (go_on 1))
