-- Where a walk stands between two entries.
use Rattle.std.specs.Prelude.{ℕ, zero, suc, ◌^◌, ◌<◌, Bool, true, ◌&&◌, nat_lt}
use Rattle.sv39_walk.specs.declared.request.Request.{Request}
use Rattle.sv39_walk.specs.declared.entry.EntryMeaning.{EntryMeaning}
use Rattle.sv39_walk.specs.declared.entry.EntryMeaning.TheVariants.{PageFault, NextTable, Translated}
use Rattle.sv39_walk.specs.declared.progress.Progress.{Progress}
use Rattle.sv39_walk.specs.declared.progress.Progress.TheVariants as progress
use Rattle.sv39_walk.specs.Walking.{Walking, Done, Fault, walk_from, by_meaning, page_fault}

-- a walk between two entries: its access and its progress
pub record Standing : Type 0 where
  pub request : Request
  pub progress : Progress

-- what is left of an access that has come so far
abbrev pub left_from : Request → Progress → Walking
left_from request (progress.Table level table) = walk_from request level table
left_from request (progress.Done address) = Done address
left_from request progress.Fault = Fault (page_fault request.kind)

-- a level and a table that there can be
abbrev pub is_progress : Progress → Bool
is_progress (progress.Table level table) = nat_lt level 3 && nat_lt table (2 ^ 56)
is_progress (progress.Done address) = true
is_progress progress.Fault = true

-- a next table is at an address that there can be
abbrev pub HasTableAddress : EntryMeaning → Type 0
HasTableAddress PageFault = Unit {0}
HasTableAddress (NextTable table) = table < 2 ^ 56
HasTableAddress (Translated address) = Unit {0}

-- what is left of an access after an entry of this level
abbrev pub left_after : Request → ℕ → EntryMeaning → Walking
left_after request zero meaning =
    by_meaning (Fault (page_fault request.kind)) (λ below. Fault (page_fault request.kind)) Done meaning
left_after request (suc level) meaning = by_meaning (Fault (page_fault request.kind)) (walk_from request level) Done meaning

-- what is left of a walk
abbrev pub left_of : Standing → Walking
left_of standing = left_from standing.request standing.progress
