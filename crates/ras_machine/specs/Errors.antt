-- What the error side keeps: which critical errors its records show, and what is staged.
use Rattle.std.specs.Prelude.{◌≡◌, ℕ, zero, suc, ◌<◌, true, List, Option, Some, None}
use Rattle.poison_mem.specs.declared.event.Event.{Event}
use Rattle.poison_mem.specs.declared.record_id.RecordId.{RecordId}
use Rattle.poison_mem.specs.declared.record_id.RecordId.TheVariants.{Hart}
use Rattle.poison_mem.specs.RecordId.{bank_number}
use Rattle.reri_bank.specs.StateAt.{state_at, HaveKinds}
use Rattle.reri_bank.specs.declared.state.Staged.{Staged}
use Rattle.reri_inject.specs.Critical.{critical_event}
use Rattle.reri_inject.specs.Due.{staged_in}
use Rattle.ras_firmware.specs.declared.firmware.Firmware.{Firmware}
use Rattle.fault_script.specs.declared.lines.ScriptLine.{ScriptLine}
use Rattle.ras_machine.specs.Due.{inject_lines}

-- The banks are of their kinds and stamp events with this step, the hart's record logs always, a critical event that a record keeps is
-- as P says, W says what is staged for the records that take injections, and nothing is in the boot error region.
pub record ErrorsAre (P : RecordId → Event → Type 0) (W : RecordId → Option Staged) (step : ℕ) (f : Firmware) : Type 0 where
  pub kinds : HaveKinds f.banks
  pub stamps : f.banks.step ≡ step
  pub logging : (state_at f.banks Hart).control.logging ≡ true
  pub critically : (id : RecordId) (e : Event) → critical_event (state_at f.banks id).kept ≡ Some e → P id e
  pub staged : (id : RecordId) → bank_number id < 2 → (state_at f.banks id).staged ≡ W id
  pub region : f.memory.region ≡ None

-- what is staged for a record when step n begins
abbrev pub waiting : List ScriptLine → RecordId → ℕ → Option Staged
waiting lines id zero = None
waiting lines id (suc n) = staged_in n (inject_lines lines id (suc n))

-- when step n begins: no critical event is shown, and what waits is what the lines before say
abbrev pub IsQuiet : List ScriptLine → ℕ → Firmware → Type 0
IsQuiet lines n f = ErrorsAre (λ id e. ⊥) (λ id. waiting lines id n) f.banks.step f
