-- The words of the memory by flat arrays.
use Rattle.std.specs.Prelude.{ℕ, ◌+◌, ◌*◌, ◌/◌, ◌%◌, ◌==◌, Bool, List, [], ◌∷◌}
use Rattle.std.specs.Int.{from_bool}
use Rattle.poison_mem.specs.declared.cell.CellState.{CellState}

-- the note of a word: its count below, its mark above
abbrev pub word_note : Bool → ℕ → ℕ
word_note mark count = count + 4 * from_bool mark

-- a word by its data bits, its check bits and its note
abbrev pub word_by : ℕ → ℕ → ℕ → CellState
word_by value check note = record { value = value; check = check; mark = note / 4 % 2 == 1; count = note % 4 }

-- the words, each by what the arrays hold of it
abbrev pub words_by : List ℕ → List ℕ → List ℕ → List CellState
words_by [] checks notes = []
words_by (value ∷ values) [] notes = []
words_by (value ∷ values) (check ∷ checks) [] = []
words_by (value ∷ values) (check ∷ checks) (note ∷ notes) = word_by value check note ∷ words_by values checks notes
