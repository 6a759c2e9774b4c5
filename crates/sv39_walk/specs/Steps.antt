-- The walk as a function of the entries given so far, begun again from the root: what it wants after them (privileged manual,
-- "Virtual Address Translation Process").
use Rattle.std.specs.Prelude.{◌≡◌, ℕ, zero, suc, List, [], ◌∷◌, ◌*◌, ◌==◌, if◌then◌else◌}
use Rattle.ras_bits.specs.Fields.{field}
use Rattle.sv39_walk.specs.declared.request.Request.{Request}
use Rattle.sv39_walk.specs.declared.step.WalkStep.{WalkStep}
use Rattle.sv39_walk.specs.declared.step.WalkStep.TheVariants.{Need, Done, Fault}
use Rattle.sv39_walk.specs.Entry.{page_bytes}
use Rattle.sv39_walk.specs.Walking.{page_fault, entry_address, is_canonical, meaning_of, by_meaning, walk, after_entries}
use Rattle.sv39_walk.specs.Progress.{Standing, left_of}

-- from the table of this level on
unfoldable pub step_from : Request → ℕ → ℕ → List ℕ → WalkStep
step_from request zero table [] = Need (entry_address table 0 request.va)
step_from request zero table (entry ∷ entries) =
    by_meaning (Fault (page_fault request.kind)) (λ below. Fault (page_fault request.kind)) Done (meaning_of request 0 entry)
step_from request (suc level) table [] = Need (entry_address table (suc level) request.va)
step_from request (suc level) table (entry ∷ entries) =
    by_meaning (Fault (page_fault request.kind)) (λ below. step_from request level below entries) Done (meaning_of request (suc level) entry)

-- what the walk of an access wants after these entries
unfoldable pub walk_step : ℕ → Request → List ℕ → WalkStep
walk_step satp request entries =
    if field satp 60 4 == 0 then Done request.va
    else if is_canonical request.va then step_from request 2 (field satp 0 44 * page_bytes) entries
    else Fault (page_fault request.kind)

-- a walk that was given these entries
pub record StandsAfter (satp : ℕ) (request : Request) (entries : List ℕ) (standing : Standing) : Type 0 where
  pub left : left_of standing ≡ after_entries (walk satp request) entries
