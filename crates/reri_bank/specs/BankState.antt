-- A bank of records.
use Rattle.std.specs.Prelude.{ℕ}
use Rattle.reri_bank.specs.declared.bank.BankKind.{BankKind}
use Rattle.reri_bank.specs.declared.bank.BankKind.TheVariants.{Memory, Caches, Hart}
use Rattle.reri_bank.specs.declared.state.RecState.{RecState}
use Rattle.reri_bank.specs.State.{IsRecordHeld}

-- the number of a bank of each kind
abbrev pub kind_number : BankKind → ℕ
kind_number Memory = 0
kind_number Caches = 1
kind_number Hart = 2

-- a bank of records of some kind: the hart's bank has no second record, and there it stays empty
pub record BankOf (R : Type 0) : Type 0 where
  pub kind : BankKind
  pub first : R
  pub second : R

-- a bank as the code keeps it, by live registers
abbrev pub BankState : Type 0
BankState = BankOf RecState

-- what holds of each record of a bank
pub record AreHeld (b : BankState) : Type 0 where
  pub first : IsRecordHeld (kind_number b.kind) 0 b.first
  pub second : IsRecordHeld (kind_number b.kind) 1 b.second
