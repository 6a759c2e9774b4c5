-- Flat arrays as the words that they hold.
use Rattle.std.proofs.Common.{ℕ, zero, suc, ◌/◌, ◌%◌, ◌==◌, ◌≡◌, ◌≤◌, ◌<◌, refl, ap, Bool, true, false, List, [], ◌∷◌, length, replicate, slice_set, slice_index_or, arith}
use Rattle.poison_mem.specs.declared.cell.CellState.{CellState}
use Rattle.ecc_memory.specs.Memory.{cell_at}
use Rattle.ecc_memory.specs.Words.{word_note, word_by, words_by}

-- a mark and a count are read back from their note
pub mark_back : (mark : Bool) (count : ℕ) → count ≤ 3 → (word_note mark count / 4 % 2 == 1) ≡ mark
mark_back true count few = grind arith
mark_back false count few = grind arith

pub count_back : (mark : Bool) (count : ℕ) → count ≤ 3 → word_note mark count % 4 ≡ count
count_back true count few = omega arith
count_back false count few = omega arith

pub word_back : (word : CellState) → word.count ≤ 3 → word_by word.value word.check (word_note word.mark word.count) ≡ word
word_back word few = rw (mark_back word.mark word.count few, count_back word.mark word.count few) refl

pub words_length : (values checks notes : List ℕ) → length checks ≡ length values → length notes ≡ length values
    → length (words_by values checks notes) ≡ length values
words_length [] checks notes by_checks by_notes = refl
words_length (value ∷ values) [] notes by_checks by_notes = absurd (omega arith)
words_length (value ∷ values) (check ∷ checks) [] by_checks by_notes = absurd (omega arith)
words_length (value ∷ values) (check ∷ checks) (note ∷ notes) by_checks by_notes =
    ap suc (words_length values checks notes (omega arith) (omega arith))

-- a word by what is read of each array
pub words_get : (values checks notes : List ℕ) (w value check note : ℕ) → w < length values → length checks ≡ length values → length notes ≡ length values
    → value ≡ slice_index_or values w value → check ≡ slice_index_or checks w check → note ≡ slice_index_or notes w note
    → word_by value check note ≡ cell_at (words_by values checks notes) w
words_get [] checks notes w x y z inside by_checks by_notes is_x is_y is_z = absurd (omega arith)
words_get (value ∷ values) [] notes w x y z inside by_checks by_notes is_x is_y is_z = absurd (omega arith)
words_get (value ∷ values) (check ∷ checks) [] w x y z inside by_checks by_notes is_x is_y is_z = absurd (omega arith)
words_get (value ∷ values) (check ∷ checks) (note ∷ notes) zero x y z inside by_checks by_notes is_x is_y is_z = rw (is_x, is_y, is_z) refl
words_get (value ∷ values) (check ∷ checks) (note ∷ notes) (suc w) x y z inside by_checks by_notes is_x is_y is_z =
    words_get values checks notes w x y z (omega arith) (omega arith) (omega arith) is_x is_y is_z

pub words_set : (values checks notes : List ℕ) (w value check note : ℕ) → length checks ≡ length values → length notes ≡ length values
    → words_by (slice_set values w value) (slice_set checks w check) (slice_set notes w note) ≡ slice_set (words_by values checks notes) w (word_by value check note)
words_set [] checks notes w x y z by_checks by_notes = refl
words_set (value ∷ values) [] notes w x y z by_checks by_notes = absurd (omega arith)
words_set (value ∷ values) (check ∷ checks) [] w x y z by_checks by_notes = absurd (omega arith)
words_set (value ∷ values) (check ∷ checks) (note ∷ notes) zero x y z by_checks by_notes = refl
words_set (value ∷ values) (check ∷ checks) (note ∷ notes) (suc w) x y z by_checks by_notes =
    ap (λ rest. word_by value check note ∷ rest) (words_set values checks notes w x y z (omega arith) (omega arith))

pub words_same : (n value check note : ℕ) → words_by (replicate n value) (replicate n check) (replicate n note) ≡ replicate n (word_by value check note)
words_same zero value check note = refl
words_same (suc n) value check note = ap (λ rest. word_by value check note ∷ rest) (words_same n value check note)
