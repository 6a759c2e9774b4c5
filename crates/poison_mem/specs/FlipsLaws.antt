-- Laws of what a cell shows.
use Rattle.std.proofs.Common.{ℕ, ◌^◌, ◌%◌, ◌≤◌, ◌≡◌, ◌≢◌, refl, ap, arith, Bool, true, false}
use Rattle.std.specs.Prelude.{◌==◌, if◌then◌else◌}
use Rattle.std.proofs.lemmas.Bool.Decides.{nat_tests}
use Rattle.poison_mem.specs.declared.cell.Cell.{Cell}
use Rattle.poison_mem.specs.declared.cell.Cell.TheVariants.{Good, Poison}
use Rattle.poison_mem.specs.Merge.{blended, merged_value, merged_cell}
use Rattle.poison_mem.specs.Flips.{Shows, stored_at, renewed_at}

-- a cell that shows a word shows the stored word after a store
pub merged-shows : (value flips v mask : ℕ) (c : Cell) → Shows value flips c → Shows (merged_value value v mask) (if mask == 255 then 0 else flips) (merged_cell c v mask)
merged-shows value flips v mask (Good old) it = (ap (λ n. merged_value n v mask) it.0, omega arith)
merged-shows value flips v mask Poison it = by_mask (mask == 255)
  where
    by_mask : (whole : Bool) → Shows ((if whole then v else blended value v mask) % 2 ^ 64) (if whole then 0 else flips) (if whole then Good (v % 2 ^ 64) else Poison)
    by_mask true = (refl, omega arith)
    by_mask false = it

-- more flips may have come
pub shows-more : (value other flips more : ℕ) (c : Cell) → other ≡ value → flips ≤ more → Shows value flips c → Shows other more c
shows-more value other flips more (Good v) same up it = (let e = it.0 in omega arith, it.1)
shows-more value other flips more Poison same up it = omega arith

-- the word itself after a store, and every other word
pub stored_at-same : (f : ℕ → ℕ) (w v mask : ℕ) → stored_at f w v mask w ≡ merged_value (f w) v mask
stored_at-same f w v mask = let here : (w == w) ≡ true = grind (arith, nat_tests) in rw here refl

pub stored_at-other : (f : ℕ → ℕ) (w v mask k : ℕ) → k ≢ w → stored_at f w v mask k ≡ f k
stored_at-other f w v mask k other = let elsewhere : (k == w) ≡ false = grind (arith, nat_tests) in rw elsewhere refl

pub renewed_at-other : (q : ℕ → ℕ) (w mask k : ℕ) → k ≢ w → renewed_at q w mask k ≡ q k
renewed_at-other q w mask k other = let elsewhere : (k == w) ≡ false = grind (arith, nat_tests) in rw elsewhere refl
