-- Steps in which nothing but a hart acts.
use Rattle.std.specs.Prelude.{◌≡◌, ◌≢◌, ℕ, ◌<◌, ◌-◌, ◌+◌, ◌^◌, ◌==◌, List, [], None, if◌then◌else◌}
use Rattle.poison_mem.specs.RecordId.{bank_number}
use Rattle.poison_mem.specs.declared.record_id.RecordId.{RecordId}
use Rattle.reri_bank.specs.Banks.{first_critical}
use Rattle.reri_bank.specs.BanksState.{BanksState}
use Rattle.reri_bank.specs.StateAt.{state_at}
use Rattle.scrubber.specs.Patrol.{due_at}
use Rattle.scrubber.specs.PatrolState.{PatrolState}
use Rattle.fault_script.specs.declared.lines.ScriptLine.{ScriptLine}
use Rattle.fault_script.specs.Steps.{at_step}
use Rattle.ras_firmware.specs.Firmware.{SetNow, firmware_after, drain_calls}
use Rattle.ras_machine.specs.declared.state.MachineState.{MachineState}

-- no injection is staged, and no record keeps a critical error
pub record AreCalm (b : BanksState) : Type 0 where
  pub staged : (id : RecordId) → bank_number id < 2 → (state_at b id).staged ≡ None
  pub kept : first_critical b ≡ None

-- in step n the budget isn't spent, the script has no line, no patrol is due, and the drain does nothing
pub record IsUndisturbed (budget : ℕ) (lines : List ScriptLine) (poll : ℕ) (patrol : PatrolState) (n : ℕ) : Type 0 where
  pub more : n ≢ budget
  pub silent : at_step n lines ≡ []
  pub unpatrolled : due_at patrol n ≡ None
  pub undrained : drain_calls n poll ≡ []

-- a machine whose events get this step's number from now on
abbrev pub step_begun : {B : Type 0} → MachineState B → MachineState B
step_begun s = record s { firmware = firmware_after s.firmware (SetNow s.steps) }

-- the first step from n on in which so few steps of an interval are left, where so many are left in step n; where none ever are, the
-- last number of a step
abbrev pub first_with_few : (n left few : ℕ) → ℕ
first_with_few n left few = if left == 0 then 2 ^ 64 - 1 else n + (left - few)
