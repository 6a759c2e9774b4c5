-- Laws of the cells of a line.
use Rattle.std.proofs.Common.{ℕ, zero, suc, ◌≡◌, ◌<◌, ◌+◌, ◌*◌, ◌/◌, ◌%◌, ◌≤◌, ◌≢◌, ◌∙◌, ◌⊎◌, inl, inr, refl, subst, eqb, cond, arith, true, false}
use Rattle.std.proofs.lemmas.Bool.Decides.{eqb_tells, nat_tests}
use Rattle.std.specs.Prelude.{◌==◌, if◌then◌else◌}
use Rattle.poison_mem.specs.declared.cell.Cell.{Cell}
use Rattle.poison_mem.specs.declared.line.Line.{Line}
use Rattle.poison_mem.specs.Line.{cell, with_cell, line_by}
use Rattle.poison_mem.specs.Merge.{merged_value, merged_cell}
use Rattle.poison_mem.specs.Flips.{Shows, stored_at, renewed_at}
use Rattle.poison_mem.specs.FlipsLaws.{merged-shows, shows-more, stored_at-other, renewed_at-other}
use Rattle.poison_mem.specs.Level.{LineShows}

-- a fact of each number below eight
pub eight_cases : (P : ℕ → Type 0) → P 0 → P 1 → P 2 → P 3 → P 4 → P 5 → P 6 → P 7 → (i : ℕ) → i < 8 → P i
eight_cases P p0 p1 p2 p3 p4 p5 p6 p7 zero fits = p0
eight_cases P p0 p1 p2 p3 p4 p5 p6 p7 (suc zero) fits = p1
eight_cases P p0 p1 p2 p3 p4 p5 p6 p7 (suc (suc zero)) fits = p2
eight_cases P p0 p1 p2 p3 p4 p5 p6 p7 (suc (suc (suc zero))) fits = p3
eight_cases P p0 p1 p2 p3 p4 p5 p6 p7 (suc (suc (suc (suc zero)))) fits = p4
eight_cases P p0 p1 p2 p3 p4 p5 p6 p7 (suc (suc (suc (suc (suc zero))))) fits = p5
eight_cases P p0 p1 p2 p3 p4 p5 p6 p7 (suc (suc (suc (suc (suc (suc zero)))))) fits = p6
eight_cases P p0 p1 p2 p3 p4 p5 p6 p7 (suc (suc (suc (suc (suc (suc (suc zero))))))) fits = p7
eight_cases P p0 p1 p2 p3 p4 p5 p6 p7 (suc (suc (suc (suc (suc (suc (suc (suc i)))))))) fits = absurd (omega arith)

-- a cell of a line that was made by a function
pub cell-line_by : (f : ℕ → Cell) (i : ℕ) → i < 8 → cell (line_by f) i ≡ f i
cell-line_by f i fits = eight_cases (λ i. cell (line_by f) i ≡ f i) refl refl refl refl refl refl refl refl i fits

-- a cell of a line after one was set
pub cell-with_cell : (line : Line) (n i : ℕ) (c : Cell) → n < 8 → i < 8 → cell (with_cell line n c) i ≡ cond (eqb i n) c (cell line i)
cell-with_cell line n i c n_fits i_fits = eight_cases (λ n. (i : ℕ) → i < 8 → cell (with_cell line n c) i ≡ cond (eqb i n) c (cell line i))
    (λ i. eight_cases (λ i. cell (with_cell line 0 c) i ≡ cond (eqb i 0) c (cell line i)) refl refl refl refl refl refl refl refl i)
    (λ i. eight_cases (λ i. cell (with_cell line 1 c) i ≡ cond (eqb i 1) c (cell line i)) refl refl refl refl refl refl refl refl i)
    (λ i. eight_cases (λ i. cell (with_cell line 2 c) i ≡ cond (eqb i 2) c (cell line i)) refl refl refl refl refl refl refl refl i)
    (λ i. eight_cases (λ i. cell (with_cell line 3 c) i ≡ cond (eqb i 3) c (cell line i)) refl refl refl refl refl refl refl refl i)
    (λ i. eight_cases (λ i. cell (with_cell line 4 c) i ≡ cond (eqb i 4) c (cell line i)) refl refl refl refl refl refl refl refl i)
    (λ i. eight_cases (λ i. cell (with_cell line 5 c) i ≡ cond (eqb i 5) c (cell line i)) refl refl refl refl refl refl refl refl i)
    (λ i. eight_cases (λ i. cell (with_cell line 6 c) i ≡ cond (eqb i 6) c (cell line i)) refl refl refl refl refl refl refl refl i)
    (λ i. eight_cases (λ i. cell (with_cell line 7 c) i ≡ cond (eqb i 7) c (cell line i)) refl refl refl refl refl refl refl refl i)
    n n_fits i i_fits

-- the first n + 1 cells are known where the first n are and the next one is set
pub one_more_cell : (line : Line) (f : ℕ → Cell) (n : ℕ) → n < 8 → ((i : ℕ) → i < n → cell line i ≡ f i)
    → (i : ℕ) → i < n + 1 → cell (with_cell line n (f n)) i ≡ f i
one_more_cell line f n fits before i below =
    let i_fits : i < 8 = omega arith in
    cell-with_cell line n i (f n) fits i_fits ∙ by_place (eqb_tells i n)
  where
    by_place : ((eqb i n ≡ true) × (i ≡ n)) ⊎ ((eqb i n ≡ false) × (i ≢ n)) → cond (eqb i n) (f n) (cell line i) ≡ f i
    by_place (inl (test, same)) = rw (test, same) refl
    by_place (inr (test, other)) = rw test (before i (omega arith))

-- the same line for functions that agree on it, and under more flips
pub line-same : (f g q r : ℕ → ℕ) (l : ℕ) (cells : Line) → ((i : ℕ) → i < 8 → g (8 * l + i) ≡ f (8 * l + i)) → ((i : ℕ) → i < 8 → q (8 * l + i) ≤ r (8 * l + i))
    → LineShows f q l cells → LineShows g r l cells
line-same f g q r l cells same up it i below = shows-more (f (8 * l + i)) (g (8 * l + i)) (q (8 * l + i)) (r (8 * l + i)) (cell cells i) (same i below) (up i below) (it i below)

-- a line after a store of the bytes of a mask shows the words with these bytes
pub stored-line : (f q : ℕ → ℕ) (w v mask : ℕ) (cells : Line) → LineShows f q (w / 8) cells
    → LineShows (stored_at f w v mask) (renewed_at q w mask) (w / 8) (with_cell cells (w % 8) (merged_cell (cell cells (w % 8)) v mask))
stored-line f q w v mask cells it i below =
    let small : w % 8 < 8 = omega arith in
    rw (cell-with_cell cells (w % 8) i (merged_cell (cell cells (w % 8)) v mask) small below) (by_place (eqb_tells i (w % 8)))
  where
    by_place : ((eqb i (w % 8) ≡ true) × (i ≡ w % 8)) ⊎ ((eqb i (w % 8) ≡ false) × (i ≢ w % 8))
        → Shows (stored_at f w v mask (8 * (w / 8) + i)) (renewed_at q w mask (8 * (w / 8) + i)) (cond (eqb i (w % 8)) (merged_cell (cell cells (w % 8)) v mask) (cell cells i))
    by_place (inl (test, same)) =
        let here : (8 * (w / 8) + i == w) ≡ true = (let e : 8 * (w / 8) + i ≡ w = omega arith in grind (arith, nat_tests)) in
        rw (test, here) (subst (λ j. Shows (merged_value (f (8 * (w / 8) + i)) v mask) (if mask == 255 then 0 else q (8 * (w / 8) + i)) (merged_cell (cell cells j) v mask)) same
        (merged-shows (f (8 * (w / 8) + i)) (q (8 * (w / 8) + i)) v mask (cell cells i) (it i below)))
    by_place (inr (test, other)) =
        let elsewhere : (8 * (w / 8) + i == w) ≡ false = (let e : 8 * (w / 8) + i ≢ w = λ same. other (omega arith) in grind (arith, nat_tests)) in
        rw (test, elsewhere) (it i below)

-- the words of another line stay
pub stored-other : (f : ℕ → ℕ) (w v mask l i : ℕ) → i < 8 → l ≢ w / 8 → stored_at f w v mask (8 * l + i) ≡ f (8 * l + i)
stored-other f w v mask l i below other = stored_at-other f w v mask (8 * l + i) (λ same. other (omega arith))

pub renewed-other : (q : ℕ → ℕ) (w mask l i : ℕ) → i < 8 → l ≢ w / 8 → renewed_at q w mask (8 * l + i) ≡ q (8 * l + i)
renewed-other q w mask l i below other = renewed_at-other q w mask (8 * l + i) (λ same. other (omega arith))
