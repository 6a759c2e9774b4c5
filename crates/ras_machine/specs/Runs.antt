-- Runs of a machine whose states are S.
use Rattle.std.specs.Prelude.{ℕ, zero, suc, Option, Some, None}
use Rattle.ras_machine.specs.declared.ending.Ending.{Ending}

-- the state after a step, and the ending that the step brings, where it brings one
pub record Move (S : Type 0) : Type 0 where
  pub after : S
  pub ending : Option Ending

-- how a run ends, and the state that it leaves
pub record RunResult (S : Type 0) : Type 0 where
  pub after : S
  pub ending : Ending

-- a run that ends here, or goes on
abbrev pub ended_or : {S : Type 0} → Option Ending → S → RunResult S → RunResult S
ended_or None s more = more
ended_or (Some ending) s more = record { after = s; ending = ending }

-- a machine that has ended stays as it is; else what it becomes
abbrev pub unless_ended : {M : Type 0} → Option Ending → M → M → M
unless_ended (Some ending) m next = m
unless_ended None m next = next

-- so many times the same
unfoldable pub iterated : {X : Type 0} → ℕ → (X → X) → X → X
iterated zero f x = x
iterated (suc n) f x = iterated n f (f x)
