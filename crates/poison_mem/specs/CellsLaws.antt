-- Laws of counted flips.
use Rattle.std.proofs.Common.{ℕ, ◌≡◌, ◌≢◌, ◌≤◌, ◌+◌, refl, arith, true, false}
use Rattle.std.specs.Prelude.{◌==◌}
use Rattle.std.proofs.lemmas.Bool.Decides.{nat_tests}
use Rattle.poison_mem.specs.declared.cell.CellState.{CellState}
use Rattle.poison_mem.specs.Cells.{is_third, raised_at}

-- a third flip is of a word that counts two
pub third_counts_two : (state : CellState) → is_third state ≡ true → state.count ≡ 2
third_counts_two state third = grind (arith, nat_tests)

pub raised-up : (q : ℕ → ℕ) (w k : ℕ) → q k ≤ raised_at q w k
raised-up q w k = grind (arith, nat_tests)

-- the word itself after a flip, and every other word
pub raised_at-same : (q : ℕ → ℕ) (w : ℕ) → raised_at q w w ≡ q w + 1
raised_at-same q w = let here : (w == w) ≡ true = grind (arith, nat_tests) in rw here refl

pub raised_at-other : (q : ℕ → ℕ) (w k : ℕ) → k ≢ w → raised_at q w k ≡ q k
raised_at-other q w k other = let elsewhere : (k == w) ≡ false = grind (arith, nat_tests) in rw elsewhere refl
