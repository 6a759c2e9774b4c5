-- A table and words, as the program holds them.
use Rattle.std.specs.Prelude.{Bool, true, ◌&&◌, ◌+◌, not, nat_lt, List, [], ◌∷◌, ◌++◌, length, map, Option, string_bytes, String}
use Rattle.std.specs.Borrow.{Bor}
use Rattle.clap.specs.Lexer.{usize_max}
use Rattle.std.specs.List.{list_any}
use Rattle.std.specs.Str.{bytes_eq}
use Rattle.std.specs.declared.alloc.Global.{Global}
use Rattle.clap_words.specs.Reading.{WordText, Opt, Given, given_by}
use Rattle.clap_words.specs.declared.table.OptionRow.{OptionRow}
use Rattle.clap_words.specs.declared.table.Table.{Table}

-- the bytes of each word
abbrev pub texts_of : List (String Global) → List WordText
texts_of words = map (λ word. string_bytes word) words

-- the option of a row
abbrev pub opt_of : OptionRow → Opt
opt_of row = record { name = row.name.now; kind = row.kind }

-- the options of rows
abbrev pub opts_of : List OptionRow → List Opt
opts_of rows = map opt_of rows

-- names as they are held
abbrev pub names_of : List (Bor WordText) → List WordText
names_of names = map (λ n. n.now) names

-- the options of a table
abbrev pub options_of : Table → List Opt
options_of table = opts_of table.options.now

-- the names of its plain words
abbrev pub plain_of : Table → List WordText
plain_of table = names_of table.plain.now

-- what words give by a table; none where they are refused
abbrev pub table_gives : Table → List WordText → Option Given
table_gives table words = given_by (options_of table) (plain_of table) words

-- no name stands twice
abbrev pub are_distinct : List WordText → Bool
are_distinct [] = true
are_distinct (name ∷ names) = not (list_any (bytes_eq name) names) && are_distinct names

-- no two plain words and options of these have the same name
abbrev pub have_names : List Opt → List WordText → Bool
have_names options plains = are_distinct (plains ++ map (λ o. o.name) options)

-- names that differ, of plain words that can be counted
abbrev pub are_named : List Opt → List WordText → Bool
are_named options plains = have_names options plains && nat_lt (1 + length plains) usize_max

-- no two plain words and options of a table have the same name, and its plain words can be counted
abbrev pub is_table : Table → Bool
is_table table = are_named (options_of table) (plain_of table)
