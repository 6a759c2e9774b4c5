-- How the words after a command are read, for any table of options and plain words (the usual syntax of long options).
use Rattle.std.specs.Prelude.{ℕ, ◌==◌, ◌&&◌, not, nat_eq, Bool, true, false, cond, if◌then◌else◌, List, [], ◌∷◌, map, Option, Some, None, option_map, option_and_then, is_some, find, codes}
use Rattle.std.specs.Str.{bytes_eq}
use Rattle.std.specs.List.{list_any, before_first, after_first}
use Rattle.clap_words.specs.declared.table.Kind.{Kind}
use Rattle.clap_words.specs.declared.table.Kind.TheVariants.{Flag, Text, Number}

-- the bytes of a word
abbrev pub WordText : Type 0
WordText = List ℕ

-- an option of a command, by its whole name
pub record Opt : Type 0 where
  pub name : WordText
  pub kind : Kind

-- an option of this kind has a value
abbrev pub takes_value : Kind → Bool
takes_value Flag = false
takes_value Text = true
takes_value (Number limit) = true

-- the option that has this whole name
abbrev pub option_at : List Opt → WordText → Option Opt
option_at options name = find (λ o. bytes_eq o.name name) options

-- ---- what a word is by its form

-- what follows a start, where the word begins with it and is longer
abbrev pub longer_than : WordText → WordText → Option WordText
longer_than [] [] = None
longer_than [] (x ∷ word) = Some (x ∷ word)
longer_than (a ∷ start) [] = None
longer_than (a ∷ start) (x ∷ word) = cond (nat_eq x a) (longer_than start word) None

-- `--`
abbrev pub is_dashes : WordText → Bool
is_dashes word = bytes_eq word (codes "--")

-- the word begins with `-` and is longer
abbrev pub is_dashed : WordText → Bool
is_dashed word = is_some (longer_than (codes "-") word)

-- `=`
abbrev pub is_equals_sign : ℕ → Bool
is_equals_sign x = x == 61

-- the name, and the value after the first `=` if there is one
abbrev pub name_and_value : WordText → WordText × Option WordText
name_and_value text = (before_first is_equals_sign text, if list_any is_equals_sign text then Some (after_first is_equals_sign text) else None)

-- what a word that begins with `--` and is longer says: an option's name, and maybe its value
abbrev pub option_in : WordText → Option (WordText × Option WordText)
option_in word = option_map name_and_value (longer_than (codes "--") word)

-- ---- what the words say, in order

-- an option's value under its name, or a plain word under none
abbrev pub Item : Type 0
Item = Option WordText × WordText

-- one item before those that follow
abbrev pub before : Item → Option (List Item) → Option (List Item)
before item = option_map (λ items. item ∷ items)

-- an option with a value: it stands in the word, or is the next word.
-- `rest` is what the words behind say, where an option waits for its value or none does
abbrev pub value_says : (Option WordText → Option (List Item)) → WordText → Option WordText → Option (List Item)
value_says rest name (Some value) = before (Some name, value) (rest None)
value_says rest name None = rest (Some name)

-- an option without a value counts as `true`; a value for it is refused
abbrev pub flag_says : (Option WordText → Option (List Item)) → WordText → Option WordText → Option (List Item)
flag_says rest name (Some value) = None
flag_says rest name None = before (Some name, codes "true") (rest None)

-- a name that no option has is refused
abbrev pub option_says : (Option WordText → Option (List Item)) → Option Opt → Option WordText → Option (List Item)
option_says rest None value = None
option_says rest (Some o) value = cond (takes_value o.kind) (value_says rest o.name value) (flag_says rest o.name value)

-- a word that names an option, or a plain word; another one that begins with `-` and is longer is refused
abbrev pub word_says : List Opt → (Option WordText → Option (List Item)) → WordText → Option (WordText × Option WordText) → Option (List Item)
word_says options rest word (Some p) = option_says rest (option_at options p.0) p.1
word_says options rest word None = cond (is_dashed word) None (before (None, word) (rest None))

-- a plain word
abbrev pub plain_item : WordText → Item
plain_item word = (None, word)

-- what the words say, where an option waits for its value or none does; none where a word is refused.
-- After `--` each word is plain. No value begins with `-` and is longer
abbrev pub words_say : List Opt → List WordText → Option WordText → Option (List Item)
words_say options [] None = Some []
words_say options [] (Some name) = None
words_say options (word ∷ words) None = cond (is_dashes word) (Some (map plain_item words)) (word_says options (words_say options words) word (option_in word))
words_say options (word ∷ words) (Some name) = cond (is_dashed word) None (before (Some name, word) (words_say options words None))

-- ---- what is given by it

-- the options and plain words that were given, each by its name with its value
abbrev pub Given : Type 0
Given = List (WordText × WordText)

-- something was given under the name
abbrev pub has : WordText → Given → Bool
has name given = list_any (λ g. bytes_eq g.0 name) given

-- the value that was given under a name
abbrev pub value_of : WordText → Given → Option WordText
value_of name given = option_map (λ g. g.1) (find (λ g. bytes_eq g.0 name) given)

-- the value is empty
abbrev pub is_empty : WordText → Bool
is_empty [] = true
is_empty (x ∷ xs) = false

-- one thing that is given before those that follow
abbrev pub give : WordText → WordText → Option Given → Option Given
give name value = option_map (λ given. (name, value) ∷ given)

-- one item by its name: a plain word has the first of the names that are left
abbrev pub item_labelled : (List WordText → Option Given) → List WordText → Option WordText → WordText → Option Given
item_labelled rest plains (Some name) value = give name value (rest plains)
item_labelled rest [] None word = None
item_labelled rest (name ∷ plains) None word = give name word (rest plains)

-- the items by their names; none where a plain word is missing or surplus
abbrev pub labelled : List Item → List WordText → Option Given
labelled [] [] = Some []
labelled [] (name ∷ plains) = None
labelled (item ∷ items) plains = item_labelled (labelled items) plains item.0 item.1

-- nothing is given twice, and no value is empty
abbrev pub is_sound : Given → Bool
is_sound [] = true
is_sound (g ∷ given) = not (has g.0 given) && (not (is_empty g.1) && is_sound given)

-- what was given, where it is sound
abbrev pub sound : Given → Option Given
sound given = cond (is_sound given) (Some given) None

-- what the words give, by a table of options and the names of the plain words; none where they are refused
abbrev pub given_by : List Opt → List WordText → List WordText → Option Given
given_by options plains words = option_and_then sound (option_and_then (λ items. labelled items plains) (words_say options words None))
