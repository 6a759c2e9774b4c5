-- The command of a table, as clap reads it.
use Rattle.std.specs.Prelude.{ℕ, List, map, fold, cond, Some, true, codes}
use Rattle.clap.specs.Walk.{Rule}
use Rattle.clap.specs.Simple.{App, new_app, new_rule, with_rule}
use Rattle.clap.specs.declared.builder.action.ArgAction.TheVariants.{Set, SetTrue}
use Rattle.clap.specs.declared.builder.value_parser.ValueParser.TheVariants as vp
use Rattle.clap_words.specs.Reading.{WordText, Opt, takes_value}

-- what has a value, which is not empty
abbrev pub valued_rule : List ℕ → Rule
valued_rule name = record (new_rule name) { action = Some Set; parser = Some vp.NonEmptyString }

-- a plain word, which has to be there
abbrev pub plain_rule : List ℕ → Rule
plain_rule name = record (valued_rule name) { required = true }

-- an option with a value
abbrev pub option_rule : List ℕ → Rule
option_rule name = record (valued_rule name) { long = Some name }

-- an option without a value
abbrev pub flag_rule : List ℕ → Rule
flag_rule name = record (new_rule name) { long = Some name; action = Some SetTrue }

-- the option of a row
abbrev pub named_rule : Opt → Rule
named_rule o = cond (takes_value o.kind) (option_rule o.name) (flag_rule o.name)

-- a command without its words: no short options, no help option
abbrev pub empty_app : App
empty_app = record (new_app (codes "words")) { top = record (new_app (codes "words")).top { no_binary_name = true; disable_help_flag = true } }

-- a command with more arguments
abbrev pub with_rules : List Rule → App → App
with_rules rules app = fold with_rule app rules

-- some plain words, and some options
abbrev pub plain_rules : List WordText → List Rule
plain_rules names = map plain_rule names

abbrev pub named_rules : List Opt → List Rule
named_rules options = map named_rule options

-- the command of a table
abbrev pub table_app : List WordText → List Opt → App
table_app plains options = with_rules (named_rules options) (with_rules (plain_rules plains) empty_app)
