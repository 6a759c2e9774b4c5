-- Bytes cut into lines, and lines into words.
use Rattle.std.specs.Prelude.{ℕ, ◌-◌, Bool, not, ◌||◌, ◌==◌, if◌then◌else◌, List, [], ◌∷◌, length, take, filter, slice_index}
use Rattle.std.specs.List.{onto_first}

-- what stands between the separators; nothing after the last one is no part
abbrev pub parts : (ℕ → Bool) → List ℕ → List (List ℕ)
parts p [] = []
parts p (b ∷ bs) = if p b then [] ∷ parts p bs else onto_first b (parts p bs)

-- a line feed
abbrev pub is_line_feed : ℕ → Bool
is_line_feed b = b == 10

-- a space or a tab
abbrev pub is_blank : ℕ → Bool
is_blank b = b == 32 || b == 9

-- a word is not empty
abbrev pub is_word : List ℕ → Bool
is_word word = not (length word == 0)

-- the lines of a text, between its line feeds
abbrev pub lines_of : List ℕ → List (List ℕ)
lines_of text = parts is_line_feed text

-- the words of a line, between its blanks
abbrev pub words_of : List ℕ → List (List ℕ)
words_of line = filter is_word (parts is_blank line)

-- the line without a carriage return at its end
abbrev pub without_return : List ℕ → List ℕ
without_return line = if slice_index line (length line - 1) == 13 then take (length line - 1) line else line
