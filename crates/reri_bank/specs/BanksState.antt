-- The three banks.
use Rattle.std.specs.Prelude.{ℕ}
use Rattle.reri_bank.specs.declared.state.RecState.{RecState}
use Rattle.reri_bank.specs.BankState.{BankOf}

-- the three banks, of records of some kind, and the step that is put into events
pub record BanksOf (R : Type 0) : Type 0 where
  pub memory : BankOf R
  pub caches : BankOf R
  pub hart : BankOf R
  pub step : ℕ

-- the banks as the code keeps them, by live registers
abbrev pub BanksState : Type 0
BanksState = BanksOf RecState
