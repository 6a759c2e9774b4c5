-- What the calls on lines of a level keep.
use Rattle.std.specs.Prelude.{ℕ}
use Rattle.poison_mem.specs.declared.line.Line.{Line}
use Rattle.poison_mem.specs.Level.{Level}

-- a relation of a state to the one after calls on lines
pub record IsKeptBelow {S : Type 0} (level : Level S) (R : S → S → Type 0) : Type 0 where
  pub stays : (s : S) → R s s
  pub joins : (r s t : S) → R r s → R s t → R r t
  pub get : (s : S) (l : ℕ) → R s (level.get s l).after
  pub put : (s : S) (l : ℕ) (cells : Line) → R s (level.put s l cells).after
