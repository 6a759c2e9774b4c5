-- The ranks of the ways of a set: 0 for the most recently used, and so on up.
use Rattle.std.specs.Prelude.{ℕ, ◌+◌, ◌%◌, ◌≡◌, ◌<◌, ◌≤◌, ◌⊎◌, ◌==◌, nat_lt, if◌then◌else◌, List, length, slice_index, zero, suc}

-- the way of a rank, among the first n
abbrev pub way_of : (ℕ → ℕ) → ℕ → ℕ → ℕ
way_of rank zero r = 0
way_of rank (suc n) r = if rank n == r then n else way_of rank n r

-- n ways have the ranks 0 to n - 1, each once
pub record AreRanks (n : ℕ) (rank : ℕ → ℕ) : Type 0 where
  pub below : (w : ℕ) → w < n → rank w < n
  pub once : (v w : ℕ) → v < n → w < n → rank v ≡ rank w → v ≡ w
  pub each : (r : ℕ) → r < n → (way_of rank n r < n) × (rank (way_of rank n r) ≡ r)

-- a rank after the way of rank `hit` became the most recent: that way has 0, and those that were before it move behind it
abbrev pub renewed : ℕ → ℕ → ℕ
renewed hit r = if r == hit then 0 else if nat_lt r hit then r + 1 else r

-- the ranks after the way of rank `hit` became the most recent of the ways from `first` on
pub record IsPromoted (old new : List ℕ) (first ways hit : ℕ) : Type 0 where
  pub inside : (i : ℕ) → first ≤ i → i < first + ways → slice_index new i ≡ renewed hit (slice_index old i)
  pub elsewhere : (i : ℕ) → (i < first) ⊎ (first + ways ≤ i) → slice_index new i ≡ slice_index old i

-- the ranks of all ways where none was used yet
pub record AreNewRanks (all ways : ℕ) (ranks : List ℕ) : Type 0 where
  pub count : length ranks ≡ all
  pub each : (i : ℕ) → i < all → slice_index ranks i ≡ i % ways
