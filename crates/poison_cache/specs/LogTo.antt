-- Where a cache logs.
use Rattle.std.specs.Prelude.{ℕ}

-- a bank, and a record of it
pub record LogTo : Type 0 where
  pub bank : ℕ
  pub rec : ℕ
