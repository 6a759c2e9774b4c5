-- How many entries a walk asks for.
use Rattle.std.specs.Prelude.{ℕ, zero, suc, ◌-◌, ◌*◌, ◌<◌, ◌==◌, Bool, true, false, if◌then◌else◌}
use Rattle.std.proofs.Common.{arith}
use Rattle.ras_bits.specs.Fields.{field}
use Rattle.sv39_walk.specs.declared.request.Request.{Request}
use Rattle.sv39_walk.specs.declared.entry.EntryMeaning.{EntryMeaning}
use Rattle.sv39_walk.specs.declared.entry.EntryMeaning.TheVariants.{PageFault, NextTable, Translated}
use Rattle.sv39_walk.specs.Entry.{page_bytes}
use Rattle.sv39_walk.specs.Walking.{Walking, Done, Fault, page_fault, is_canonical, walk, walk_from, meaning_of, by_meaning, NeedsAtMost}

-- what is right of a fault, of each walk from a table on and of each end is right of them by any meaning
pub each_meaning : (IsRight : Walking → Type 0) (cause : ℕ) (below : ℕ → Walking) (meaning : EntryMeaning)
    → IsRight (Fault cause) → ((table : ℕ) → IsRight (below table)) → ((address : ℕ) → IsRight (Done address))
    → IsRight (by_meaning (Fault cause) below Done meaning)
each_meaning IsRight cause below PageFault faults next ends = faults
each_meaning IsRight cause below (NextTable table) faults next ends = next table
each_meaning IsRight cause below (Translated address) faults next ends = ends address

most_from : (request : Request) (level table most : ℕ) → level < most → NeedsAtMost most (walk_from request level table)
unfolding walk_from
most_from request zero table most h = (
  h,
  λ entry. each_meaning (NeedsAtMost (most - 1)) (page_fault request.kind) (λ below. Fault (page_fault request.kind)) (meaning_of request 0 entry)
      tt (λ below. tt) (λ address. tt),
)
most_from request (suc level) table most h = (
  omega arith,
  λ entry. each_meaning (NeedsAtMost (most - 1)) (page_fault request.kind) (walk_from request level) (meaning_of request (suc level) entry)
      tt (λ below. most_from request level below (most - 1) (omega arith)) (λ address. tt),
)

most_started : (bare canonical : Bool) (address cause : ℕ) (from : Walking) → NeedsAtMost 3 from
    → NeedsAtMost 3 (if bare then Done address else if canonical then from else Fault cause)
most_started true canonical address cause from h = tt
most_started false true address cause from h = h
most_started false false address cause from h = tt

-- a walk asks for at most three entries
pub at_most_three : (satp : ℕ) (request : Request) → NeedsAtMost 3 (walk satp request)
unfolding walk
at_most_three satp request =
    most_started (field satp 60 4 == 0) (is_canonical request.va) request.va (page_fault request.kind) (walk_from request 2 (field satp 0 44 * page_bytes))
    (most_from request 2 (field satp 0 44 * page_bytes) 3 (omega arith))
