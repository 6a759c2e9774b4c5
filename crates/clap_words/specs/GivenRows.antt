-- What was given, among the rows of clap.
use Rattle.std.specs.Prelude.{Bool, true, false, not, ◌&&◌, cond, List, [], ◌∷◌, Option, Some, None}
use Rattle.std.specs.List.{list_any}
use Rattle.clap.specs.Walk.{Row, Text}
use Rattle.clap.specs.declared.parser.matches.ValueSource.{ValueSource}
use Rattle.clap.specs.declared.parser.matches.ValueSource.TheVariants.{DefaultValue, CommandLine}
use Rattle.clap_words.specs.Reading.{Given}

-- the words gave it
abbrev pub is_from_words : Option ValueSource → Bool
is_from_words None = false
is_from_words (Some DefaultValue) = false
is_from_words (Some CommandLine) = true

-- a row from the words by its name with its value, before those that follow
abbrev pub given_row : Row → List Text → Given → Given
given_row r [] given = given
given_row r (v ∷ vs) given = (r.id, v) ∷ given

-- the rows that the words gave, each by its name with its value
abbrev pub given_in : List Row → Given
given_in [] = []
given_in (r ∷ rows) = cond (is_from_words r.source) (given_row r r.values (given_in rows)) (given_in rows)

-- there are some
abbrev pub has_values : List Text → Bool
has_values [] = false
has_values (v ∷ vs) = true

-- each row that the words gave has a value, and stands before those of defaults
abbrev pub are_given : List Row → Bool
are_given [] = true
are_given (r ∷ rows) = cond (is_from_words r.source) (has_values r.values && are_given rows)
    (not (list_any (λ s. is_from_words s.source) rows))
