-- *Within* and *twice*, out of the one law of a level.
use Rattle.std.specs.Prelude.{ℕ, ◌+◌, ◌*◌}
use Rattle.poison_mem.specs.declared.cell.Cell.{Cell}
use Rattle.poison_mem.specs.declared.cell.Cell.TheVariants.{Good, Poison}
use Rattle.poison_mem.specs.Flips.{Shows}
use Rattle.poison_mem.specs.Line.{cell}
use Rattle.poison_mem.specs.Level.{Level, KeepsLines, ShowsOrPoison, PoisonedTwice, Within, Twice}

shows_word : (value flips : ℕ) (c : Cell) → Shows value flips c → ShowsOrPoison value c
shows_word value flips (Good v) it = it.0
shows_word value flips Poison it = tt

shows_twice : (value flips : ℕ) (c : Cell) → Shows value flips c → PoisonedTwice flips c
shows_twice value flips (Good v) it = tt
shows_twice value flips Poison it = it

pub within : {S : Type 0} (level : Level S) (valid : S → Type 0) (stands : S → ℕ → (ℕ → ℕ) → (ℕ → ℕ) → Type 0) → KeepsLines level valid stands → Within level valid stands
within level valid stands keeps = record {
  get_shows = λ s l f q ok in_range it i fits. shows_word (f (8 * l + i)) (q (8 * l + i)) (cell (level.get s l).cells i) (keeps.get_shows s l f q ok in_range it i fits);
  peek_shows = λ s l f q ok in_range it i fits. shows_word (f (8 * l + i)) (q (8 * l + i)) (cell (level.peek s l) i) (keeps.peek_shows s l f q ok in_range it i fits);
  get_keeps = keeps.get_keeps;
  put_keeps = keeps.put_keeps;
  put_stands = keeps.put_stands;
}

pub twice : {S : Type 0} (level : Level S) (valid : S → Type 0) (stands : S → ℕ → (ℕ → ℕ) → (ℕ → ℕ) → Type 0) → KeepsLines level valid stands → Twice level valid stands
twice level valid stands keeps = record {
  get_poisons = λ s l f q ok in_range it i fits. shows_twice (f (8 * l + i)) (q (8 * l + i)) (cell (level.get s l).cells i) (keeps.get_shows s l f q ok in_range it i fits);
  peek_poisons = λ s l f q ok in_range it i fits. shows_twice (f (8 * l + i)) (q (8 * l + i)) (cell (level.peek s l) i) (keeps.peek_shows s l f q ok in_range it i fits);
}
