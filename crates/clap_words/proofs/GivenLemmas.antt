-- What the getters of clap read of rows that words gave.
use Rattle.std.proofs.Common.{◌≡◌, List, [], ◌∷◌, Option, Some, None, Bool, true, false, cond, refl, ap, sym, ◌∙◌, option_map, find}
use Rattle.std.specs.Prelude.{option_and_then, ◌||◌, ◌&&◌, not, slice_get}
use Rattle.std.specs.List.{list_any}
use Rattle.std.specs.Str.{bytes_eq}
use Rattle.clap.specs.Facts.{Entry}
use Rattle.clap.specs.Walk.{Row, Text, first_of, row_of, rows_of}
use Rattle.clap.specs.Matches.{matched_of}
use Rattle.clap.specs.declared.parser.matches.Found.{Found}
use Rattle.clap.specs.declared.parser.matches.MatchedArg.{MatchedArg}
use Rattle.clap.specs.declared.parser.matches.ValueSource.{ValueSource}
use Rattle.clap.proofs.WalkLemmas.{find_row}
use Rattle.clap_words.specs.Reading.{WordText, Given, has, value_of}
use Rattle.clap_words.specs.GivenRows.{is_from_words, given_row, given_in, has_values, are_given}
use Rattle.clap_words.proofs.Small.{or_false}

-- where the first value of an id came from
abbrev pub source_of : Text → List Row → Option ValueSource
source_of id rows = option_and_then (λ (r : Row). r.source) (find (λ r. bytes_eq r.id id) rows)

pub source_rows : (f : Found) (id : Text) → option_and_then (λ (a : MatchedArg). a.source) (matched_of f id) ≡ source_of id (rows_of f)
source_rows f id = go (find (λ e. bytes_eq e.0.now id) f.entries.items) ∙ ap (option_and_then (λ (r : Row). r.source)) (sym (find_row f.entries.items id))
  where
    go : (o : Option Entry) → option_and_then (λ (a : MatchedArg). a.source) (option_map (λ e. e.1) o) ≡ option_and_then (λ (r : Row). r.source) (option_map row_of o)
    go None = refl
    go (Some e) = refl

-- among rows of which no word gave one
none_given : (rows : List Row) → list_any (λ (s : Row). is_from_words s.source) rows ≡ false → given_in rows ≡ []
none_given [] h = refl
none_given (r ∷ rows) h = let k = or_false (is_from_words r.source) _ h in rw k.0 (none_given rows k.1)

none_from : (id : Text) (rows : List Row) → list_any (λ (s : Row). is_from_words s.source) rows ≡ false → is_from_words (source_of id rows) ≡ false
none_from id [] h = refl
none_from id (r ∷ rows) h = let k = or_false (is_from_words r.source) _ h in go (bytes_eq r.id id) k.0 (none_from id rows k.1)
  where
    go : (b : Bool) → is_from_words r.source ≡ false → is_from_words (source_of id rows) ≡ false
        → is_from_words (option_and_then (λ (r : Row). r.source) (cond b (Some r) (find (λ r. bytes_eq r.id id) rows))) ≡ false
    go true e onward = e
    go false e onward = onward

not_true : (b : Bool) → not b ≡ true → b ≡ false
not_true true h = cc
not_true false h = refl

-- a name was given exactly where its row is from the words
pub from_words_is : (id : WordText) (rows : List Row) → are_given rows ≡ true → is_from_words (source_of id rows) ≡ has id (given_in rows)
from_words_is id [] h = refl
from_words_is id (r ∷ rows) h = go (is_from_words r.source) refl r.values h (from_words_is id rows)
  where
    found : (b : Bool) → is_from_words r.source ≡ true → is_from_words (source_of id rows) ≡ has id (given_in rows)
        → is_from_words (option_and_then (λ (r : Row). r.source) (cond b (Some r) (find (λ r. bytes_eq r.id id) rows))) ≡ (b || has id (given_in rows))
    found true e onward = e
    found false e onward = onward

    go : (b : Bool) → is_from_words r.source ≡ b → (vs : List WordText) → cond b (has_values vs && are_given rows) (not (list_any (λ s. is_from_words s.source) rows)) ≡ true
        → (are_given rows ≡ true → is_from_words (source_of id rows) ≡ has id (given_in rows))
        → is_from_words (source_of id (r ∷ rows)) ≡ has id (cond b (given_row r vs (given_in rows)) (given_in rows))
    go true e [] h onward = cc
    go true e (v ∷ vs) h onward = found (bytes_eq r.id id) e (onward h)
    go false e vs h onward =
        let none = not_true _ h in
        let all : list_any (λ (s : Row). is_from_words s.source) (r ∷ rows) ≡ false = rw e none in
        none_from id (r ∷ rows) all ∙ ap (has id) (sym (none_given rows none))

-- and then its first value is the one that was given
pub value_is : (id : WordText) (rows : List Row) → are_given rows ≡ true → has id (given_in rows) ≡ true → first_of id rows ≡ value_of id (given_in rows)
value_is id [] h is = cc
value_is id (r ∷ rows) h is = go (is_from_words r.source) r.values refl h is (value_is id rows)
  where
    found : (b : Bool) (v : WordText) (vs : List WordText) → r.values ≡ v ∷ vs → (b || has id (given_in rows)) ≡ true → (has id (given_in rows) ≡ true → first_of id rows ≡ value_of id (given_in rows))
        → option_and_then (λ (r : Row). slice_get r.values 0) (cond b (Some r) (find (λ r. bytes_eq r.id id) rows))
        ≡ option_map (λ g. g.1) (cond b (Some (r.id, v)) (find (λ g. bytes_eq g.0 id) (given_in rows)))
    found true v vs e is onward = ap (λ l. slice_get l 0) e
    found false v vs e is onward = onward is

    go : (b : Bool) (vs : List WordText) → r.values ≡ vs → cond b (has_values vs && are_given rows) (not (list_any (λ s. is_from_words s.source) rows)) ≡ true
        → has id (cond b (given_row r vs (given_in rows)) (given_in rows)) ≡ true
        → (are_given rows ≡ true → has id (given_in rows) ≡ true → first_of id rows ≡ value_of id (given_in rows))
        → first_of id (r ∷ rows) ≡ value_of id (cond b (given_row r vs (given_in rows)) (given_in rows))
    go true [] e h is onward = cc
    go true (v ∷ vs) e h is onward = found (bytes_eq r.id id) v vs e is (onward h)
    go false vs e h is onward =
        let none : given_in rows ≡ [] = none_given rows (not_true _ h) in
        let bad : false ≡ true = sym (ap (has id) none) ∙ is in cc

-- what was not given has no value
pub value_absent : (id : WordText) (given : Given) → has id given ≡ false → value_of id given ≡ None
value_absent id [] h = refl
value_absent id (g ∷ gs) h = let k = or_false (bytes_eq g.0 id) (has id gs) h in rw k.0 (value_absent id gs k.1)
