-- The state of a patrol.
use Rattle.std.specs.Prelude.{ℕ}

-- every so many steps a word is scrubbed, out of this many, and this one is next
pub record PatrolState : Type 0 where
  pub every : ℕ
  pub words : ℕ
  pub next : ℕ
