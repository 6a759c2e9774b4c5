-- How a call of the program keeps to its plan.
use Rattle.std.specs.Prelude.{◌≡◌, ◌≢◌, ℕ, ◌≤◌, List, [], ◌∷◌, ◌++◌, take, ◌⊎◌}
use Rattle.ras_host.specs.Causes.{Rose}
use Rattle.ras_host.specs.Told.{Bytes, Outside, Performs, HostCall, calls_of, HostAction, Read, Create, MissCreate, Out, Err}
use Rattle.ras_cli.specs.declared.status.Exit.TheVariants.{Usage, Refused, HostFailed, NoMemory, Silent}
use Rattle.ras_cli.specs.Status.{code_of}
use Rattle.ras_cli.specs.Plan.{Planned}

-- the action failed: it did a part of what it was to do
abbrev pub IsFailed : HostAction → List HostAction → Type 0
IsFailed (Read name limit) done = done ≡ Read name limit ∷ []
IsFailed (Create name bytes) done = (done ≡ MissCreate name ∷ []) ⊎ ((n : ℕ) × (done ≡ Create name (take n bytes) ∷ []))
IsFailed (MissCreate name) done = done ≡ MissCreate name ∷ []
IsFailed (Out bytes) done = (n : ℕ) × (done ≡ Out (take n bytes) ∷ [])
IsFailed (Err bytes) done = (n : ℕ) × (done ≡ Err (take n bytes) ∷ [])

-- the actions were done up to one, and that failed
abbrev pub IsCut : List HostAction → List HostAction → Type 0
IsCut [] done = ⊥
IsCut (action ∷ actions) done = IsFailed action done ⊎ ((rest : List HostAction) × (done ≡ action ∷ rest) × IsCut actions rest)

-- they were done up to one, and nothing else was done
abbrev pub Cuts : Outside → Outside → List HostAction → Type 0
Cuts before after actions = (done : List HostAction) × IsCut actions done × Performs before after done

-- the action reads a file
abbrev pub IsRead : HostAction → Type 0
IsRead (Read name limit) = Unit {0}
IsRead _ = ⊥

-- all of the actions do
abbrev pub AreReads : List HostAction → Type 0
AreReads [] = Unit {0}
AreReads (action ∷ actions) = IsRead action × AreReads actions

-- the first of the actions and nothing else were done, all of them reads
pub record IsStopped (actions done : List HostAction) : Type 0 where
  pub rest : List HostAction
  pub front : actions ≡ done ++ rest
  pub reads : AreReads done

-- What was done, by the status. It is the plan's, and the whole plan was done, unless a call of the host failed or memory
-- wanted. Where a call failed the plan was done up to it; with want of memory its first reads were made, or nothing, and
-- nothing was written.
pub record Follows (before after : Outside) (plan : Planned) (code : ℕ) : Type 0 where
  pub status : code ≢ code_of HostFailed → code ≢ code_of NoMemory → code ≡ plan.code
  pub whole : code ≢ code_of HostFailed → code ≢ code_of NoMemory → Performs before after plan.actions
  pub cut : code ≡ code_of HostFailed → Cuts before after plan.actions
  pub stopped : code ≡ code_of NoMemory → (after ≡ before) ⊎ ((done : List HostAction) × IsStopped plan.actions done × Performs before after done)

-- the calls of some actions are the first of the plan's
pub record IsFront (plan : Planned) (done : List HostAction) : Type 0 where
  pub rest : List HostCall
  pub front : calls_of plan.actions ≡ calls_of done ++ rest

-- the calls that were made are the first of the plan's; maybe none was
abbrev pub MakesFront : Outside → Outside → Planned → Type 0
MakesFront before after plan = (after ≡ before) ⊎ ((done : List HostAction) × IsFront plan done × Performs before after done)

-- nothing but reads was done
abbrev pub OnlyReads : Outside → Outside → Type 0
OnlyReads before after = (after ≡ before) ⊎ ((done : List HostAction) × AreReads done × Performs before after done)

-- reads were made, and then bytes were written to standard error, by one call
abbrev pub WritesLine : Outside → Outside → Type 0
WritesLine before after = (reads : List HostAction) × (line : Bytes) × AreReads reads × Performs before after (reads ++ Err line ∷ [])

-- How a run ends over any host that counts its faults, before and now: where a file is refused one line was written, with
-- want of memory nothing, and where a call of the host failed a fault was counted.
pub record RunEnds (before after : Outside) (faults now code : ℕ) : Type 0 where
  pub range : code ≤ code_of Silent
  pub words : code ≢ code_of Usage
  pub refused : code ≡ code_of Refused → WritesLine before after
  pub unwritten : code ≡ code_of NoMemory → OnlyReads before after
  pub later : faults ≤ now
  pub cause : code ≡ code_of HostFailed → Rose faults now
