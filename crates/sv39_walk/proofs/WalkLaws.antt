-- A walk by its entries, and how many it needs.
use Rattle.std.proofs.Common.{◌≡◌, ℕ, zero, suc, ◌+◌, ◌*◌, ◌≤◌, ◌<◌, ◌==◌, Bool, true, false, if◌then◌else◌, List, [], ◌∷◌, ◌++◌, refl, ap, ◌∙◌, sym, arith, subst}
use Rattle.ras_bits.specs.Fields.{field}
use Rattle.sv39_walk.specs.declared.request.Request.{Request}
use Rattle.sv39_walk.specs.declared.entry.EntryMeaning.{EntryMeaning}
use Rattle.sv39_walk.specs.declared.entry.EntryMeaning.TheVariants.{PageFault, NextTable, Translated}
use Rattle.sv39_walk.specs.declared.step.WalkStep.{WalkStep}
use Rattle.sv39_walk.specs.declared.step.WalkStep.TheVariants as step
use Rattle.sv39_walk.specs.Entry.{page_bytes, is_malformed, is_invalid, is_writable_only, has_reserved_bits, is_pointer, has_leaf_bits}
use Rattle.sv39_walk.specs.Walking.{Walking, Done, Fault, Need, IsNeed, page_fault, entry_address, is_canonical, next_table, walk, walk_from, meaning_of, by_meaning, after_entry, after_entries, next_of, needs}
use Rattle.sv39_walk.specs.Progress.{Standing, left_of, left_after}
use Rattle.sv39_walk.specs.WalkingLaws.{each_meaning}
use Rattle.sv39_walk.specs.Steps.{step_from, walk_step, StandsAfter}

-- an end stays
pub after_done : (address : ℕ) (entries : List ℕ) → after_entries (Done address) entries ≡ Done address
after_done address [] = refl
after_done address (entry ∷ entries) = after_done address entries

pub after_fault : (cause : ℕ) (entries : List ℕ) → after_entries (Fault cause) entries ≡ Fault cause
after_fault cause [] = refl
after_fault cause (entry ∷ entries) = after_fault cause entries

pub after_entries-append : (walking : Walking) (entries : List ℕ) (entry : ℕ)
    → after_entries walking (entries ++ entry ∷ []) ≡ after_entry (after_entries walking entries) entry
after_entries-append walking [] entry = refl
after_entries-append walking (e ∷ entries) entry = after_entries-append (after_entry walking e) entries entry

-- the three ways of an entry
by_meaning_step : (cause : ℕ) (below : ℕ → Walking) (below_step : ℕ → WalkStep) (entries : List ℕ) (meaning : EntryMeaning)
    → ((table : ℕ) → next_of (after_entries (below table) entries) ≡ below_step table)
    → next_of (after_entries (by_meaning (Fault cause) below Done meaning) entries) ≡ by_meaning (step.Fault cause) below_step step.Done meaning
by_meaning_step cause below below_step entries PageFault h = ap next_of (after_fault cause entries)
by_meaning_step cause below below_step entries (NextTable table) h = h table
by_meaning_step cause below below_step entries (Translated address) h = ap next_of (after_done address entries)

from_step : (request : Request) (level table : ℕ) (entries : List ℕ)
    → next_of (after_entries (walk_from request level table) entries) ≡ step_from request level table entries
unfolding walk_from step_from
from_step request zero table [] = refl
from_step request zero table (entry ∷ entries) =
    by_meaning_step (page_fault request.kind) (λ below. Fault (page_fault request.kind)) (λ below. step.Fault (page_fault request.kind)) entries (meaning_of request 0 entry)
    (λ below. ap next_of (after_fault (page_fault request.kind) entries))
from_step request (suc level) table [] = refl
from_step request (suc level) table (entry ∷ entries) =
    by_meaning_step (page_fault request.kind) (walk_from request level) (λ below. step_from request level below entries) entries (meaning_of request (suc level) entry)
    (λ below. from_step request level below entries)

started : (bare canonical : Bool) (address cause : ℕ) (from : Walking) (entries : List ℕ) (from' : WalkStep)
    → next_of (after_entries from entries) ≡ from'
    → next_of (after_entries (if bare then Done address else if canonical then from else Fault cause) entries)
    ≡ (if bare then step.Done address else if canonical then from' else step.Fault cause)
started true canonical address cause from entries from' h = ap next_of (after_done address entries)
started false true address cause from entries from' h = h
started false false address cause from entries from' h = ap next_of (after_fault cause entries)

-- the walk that keeps how far it is wants what the walk begun again wants
pub walk_by_entries : (satp : ℕ) (request : Request) (entries : List ℕ)
    → next_of (after_entries (walk satp request) entries) ≡ walk_step satp request entries
unfolding walk walk_step
walk_by_entries satp request entries =
    started (field satp 60 4 == 0) (is_canonical request.va) request.va (page_fault request.kind) (walk_from request 2 (field satp 0 44 * page_bytes)) entries _
    (from_step request 2 (field satp 0 44 * page_bytes) entries)

-- how many entries are needed
pub needs_from : (request : Request) (level table : ℕ) → needs (walk_from request level table) ≡ level + 1
unfolding walk_from meaning_of is_malformed is_invalid is_writable_only has_reserved_bits is_pointer has_leaf_bits
needs_from request zero table = refl
needs_from request (suc level) table = ap suc (needs_from request level (next_table 1)) ∙ omega arith

pub needs_left_after : (request : Request) (level : ℕ) (meaning : EntryMeaning) → needs (left_after request level meaning) ≤ level
needs_left_after request zero meaning =
    each_meaning (λ walking. needs walking ≤ 0) (page_fault request.kind) (λ below. Fault (page_fault request.kind)) meaning (omega arith)
    (λ below. omega arith) (λ address. omega arith)
needs_left_after request (suc level) meaning =
    each_meaning (λ walking. needs walking ≤ suc level) (page_fault request.kind) (walk_from request level) meaning (omega arith)
    (λ below. let e : needs (walk_from request level below) ≡ level + 1 = needs_from request level below in omega arith) (λ address. omega arith)

pub after_given : (satp : ℕ) (request : Request) (entries : List ℕ) (old new : Standing) (entry : ℕ)
    → left_of new ≡ after_entry (left_of old) entry → StandsAfter satp request entries old → StandsAfter satp request (entries ++ entry ∷ []) new
after_given satp request entries old new entry h stands = record {
  left = h ∙ ap (λ walking. after_entry walking entry) stands.left ∙ sym (after_entries-append (walk satp request) entries entry);
}

pub next_given : (satp : ℕ) (request : Request) (entries : List ℕ) (standing : Standing) (answer : WalkStep)
    → answer ≡ next_of (left_of standing) → StandsAfter satp request entries standing → answer ≡ walk_step satp request entries
next_given satp request entries standing answer h stands = h ∙ ap next_of stands.left ∙ walk_by_entries satp request entries

-- what is reached by an entry is nearer to the end
pub needs_progress : (request : Request) (level table : ℕ) (meaning : EntryMeaning) (left : Walking)
    → left ≡ left_after request level meaning → needs left < needs (walk_from request level table)
needs_progress request level table meaning left h =
    let few : needs left ≤ level = subst (λ walking. needs walking ≤ level) (sym h) (needs_left_after request level meaning) in
    let many : needs (walk_from request level table) ≡ level + 1 = needs_from request level table in
    omega arith

pub left_after_is : (request : Request) (level table entry : ℕ)
    → after_entry (walk_from request level table) entry ≡ left_after request level (meaning_of request level entry)
unfolding walk_from
left_after_is request zero table entry = refl
left_after_is request (suc level) table entry = refl

pub next_from : (request : Request) (level table address : ℕ) → address ≡ entry_address table level request.va
    → step.Need address ≡ next_of (walk_from request level table)
unfolding walk_from
next_from request zero table address h = ap step.Need h
next_from request (suc level) table address h = ap step.Need h

-- where an entry is wanted, the walk is in need of one
pub is_need : (walking : Walking) (address : ℕ) → step.Need address ≡ next_of walking → IsNeed walking
is_need (Done a) address e = cc
is_need (Fault c) address e = cc
is_need (Need a go_on) address e = tt

pub need_given : (walking : Walking) (request : Request) (level table : ℕ) → walking ≡ walk_from request level table → IsNeed walking
need_given walking request level table e =
    is_need walking (entry_address table level request.va) (next_from request level table (entry_address table level request.va) refl ∙ ap next_of (sym e))
