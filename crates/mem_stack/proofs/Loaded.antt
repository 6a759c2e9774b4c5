-- The words of a stack after one was loaded.
use Rattle.std.proofs.Common.{ℕ, ◌<◌, ◌≡◌, ◌≢◌, ◌⊎◌, inl, inr, List, length, slice_index, slice_set}
use Rattle.std.proofs.lemmas.Bool.{cases_eq}
use Rattle.std.proofs.lemmas.List.{get_or-set_other, get_or-set_same, length-set}

-- each word is below a bound, where all were and the one that was set is
pub set_below : (words : List ℕ) (w v most : ℕ) → v < most → ((k : ℕ) → k < length words → slice_index words k < most)
    → (k : ℕ) → k < length (slice_set words w v) → slice_index (slice_set words w v) k < most
set_below words w v most small all k inside = by_word (cases_eq k w)
  where
    there : k < length words
    there = rw (length-set words w v) at inside

    by_word : (k ≡ w) ⊎ (k ≢ w) → slice_index (slice_set words w v) k < most
    by_word (inl same) = rw (same, get_or-set_same words w v 0 (rw same at there)) small
    by_word (inr other) = rw (get_or-set_other words w k v 0 other) (all k there)
