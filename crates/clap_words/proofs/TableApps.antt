-- The command of a table, as clap builds it.
use Rattle.std.proofs.Common.{◌<◌, ◌+◌, ◌≡◌, ℕ, List, [], ◌∷◌, ◌++◌, Bool, true, false, cond, refl, ap, sym, ◌∙◌, map, length, append-nil}
use Rattle.std.proofs.lemmas.List.{append_assoc}
use Rattle.std.specs.Prelude.{◌&&◌, not, count_by, is_some}
use Rattle.std.specs.List.{list_all, list_any}
use Rattle.clap.specs.Lexer.{usize_max}
use Rattle.clap.specs.Walk.{Rule, is_early_multiple}
use Rattle.clap.specs.Simple.{App, filled_from}
use Rattle.clap.specs.Faults.{is_simple_and_free}
use Rattle.clap_words.specs.Reading.{WordText, Opt, takes_value}
use Rattle.clap_words.specs.TableApp.{empty_app, flag_rule, named_rule, option_rule, plain_rule, table_app, with_rules}
use Rattle.clap_words.proofs.TableRules.{table_rules, each_rule, all_of, none_of, rules_filled}

-- the command with these rules
abbrev pub app_with : List Rule → App
app_with rules = record empty_app { top = record empty_app.top { rules = rules } }

-- rules are put behind those that a command has
rules_added : (before more : List Rule) → with_rules more (app_with before) ≡ app_with (before ++ more)
rules_added before [] = ap app_with (sym (append-nil before))
rules_added before (r ∷ more) = rules_added (before ++ r ∷ []) more ∙ ap app_with (append_assoc before (r ∷ []) more)

-- the rules of a table before clap fills them in
abbrev pub raw_rules : List WordText → List Opt → List Rule
raw_rules plains options = map plain_rule plains ++ map named_rule options

pub app_is : (plains : List WordText) (options : List Opt) → table_app plains options ≡ app_with (raw_rules plains options)
app_is plains options = ap (with_rules (map named_rule options)) (rules_added [] (map plain_rule plains)) ∙ rules_added (map plain_rule plains) (map named_rule options)

-- ---- it is simple

raw_simple : (plains : List WordText) (options : List Opt) → list_all (λ r. r.is_simple) (raw_rules plains options) ≡ true
raw_simple [] [] = refl
raw_simple [] (x ∷ options) = go (takes_value x.kind) (raw_simple [] options)
  where
    go : (b : Bool) → list_all (λ r. r.is_simple) (map named_rule options) ≡ true → list_all (λ r. r.is_simple) (cond b (option_rule x.name) (flag_rule x.name) ∷ map named_rule options) ≡ true
    go true onward = onward
    go false onward = onward
raw_simple (name ∷ plains) options = raw_simple plains options

-- what makes a command of these rules simple, before and after clap fills them in
abbrev is_plain_and_free : List Rule → List Rule → Bool
is_plain_and_free raw c = ((list_all (λ r. r.is_simple) raw && true)
    && ((list_all (λ r. r.is_simple) c && not (list_any (is_early_multiple (count_by (λ r. is_some r.index) c)) c)) && true))
    && (list_all (λ r. r.is_free) c && true)

table_passes : (plains : List WordText) (options : List Opt) → is_plain_and_free (raw_rules plains options) (table_rules plains options) ≡ true
table_passes plains options = rw (raw_simple plains options, simple, single _, free) refl
  where
    simple : list_all (λ r. r.is_simple) (table_rules plains options) ≡ true
    simple = all_of (λ r. r.is_simple) (table_rules plains options) (each_rule (λ r. r.is_simple ≡ true) (λ i name. refl) (λ name. refl) (λ name. refl) 1 plains options)

    single : (n : ℕ) → list_any (is_early_multiple n) (table_rules plains options) ≡ false
    single n = none_of (is_early_multiple n) (table_rules plains options) (each_rule (λ r. is_early_multiple n r ≡ false) (λ i name. refl) (λ name. refl) (λ name. refl) 1 plains options)

    free : list_all (λ r. r.is_free) (table_rules plains options) ≡ true
    free = all_of (λ r. r.is_free) (table_rules plains options) (each_rule (λ r. r.is_free ≡ true) (λ i name. refl) (λ name. refl) (λ name. refl) 1 plains options)

simple_shown : (rules : List Rule) → is_simple_and_free (app_with rules) ≡ is_plain_and_free rules (filled_from 1 rules)
simple_shown rules = refl

pub simple_and_free : (plains : List WordText) (options : List Opt) → 1 + length plains < usize_max → is_simple_and_free (app_with (raw_rules plains options)) ≡ true
simple_and_free plains options few =
    simple_shown (raw_rules plains options) ∙ ap (is_plain_and_free (raw_rules plains options)) (rules_filled 1 plains options few) ∙ table_passes plains options
