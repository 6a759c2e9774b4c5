-- The rules of a table, as clap builds them.
use Rattle.std.proofs.Common.{◌<◌, ◌+◌, length, arith, ◌≡◌, ℕ, List, [], ◌∷◌, ◌++◌, Bool, true, false, cond, refl, ap, ◌∙◌, map}
use Rattle.std.specs.List.{AllByRecursion, list_all, list_any}
use Rattle.clap.specs.Lexer.{usize_max}
use Rattle.clap.specs.Walk.{Rule}
use Rattle.clap.specs.Simple.{filled, filled_from}
use Rattle.clap_words.specs.Reading.{WordText, Opt, takes_value}
use Rattle.clap_words.specs.TableApp.{plain_rule, option_rule, flag_rule, named_rule}
use Rattle.clap_words.proofs.Small.{min_below}
use Rattle.clap_words.proofs.Rows.{rule_for, plain_at}

-- plain words by their positions, from i on
abbrev pub plains_at : ℕ → List WordText → List Rule
plains_at i [] = []
plains_at i (name ∷ names) = plain_at i name ∷ plains_at (i + 1) names

-- the rules of a table
abbrev pub table_rules : List WordText → List Opt → List Rule
table_rules plains options = plains_at 1 plains ++ map rule_for options

-- what holds of each row of a table holds of all
pub each_rule : (P : Rule → Type 0) → ((i : ℕ) (name : WordText) → P (plain_at i name)) → ((name : WordText) → P (filled (option_rule name))) → ((name : WordText) → P (filled (flag_rule name)))
    → (i : ℕ) (plains : List WordText) (options : List Opt) → AllByRecursion P (plains_at i plains ++ map rule_for options)
each_rule P p o f i (name ∷ plains) options = (p i name, each_rule P p o f (i + 1) plains options)
each_rule P p o f i [] [] = tt
each_rule P p o f i [] (x ∷ options) = (go (takes_value x.kind), each_rule P p o f i [] options)
  where
    go : (b : Bool) → P (filled (cond b (option_rule x.name) (flag_rule x.name)))
    go true = o x.name
    go false = f x.name

pub all_of : (test : Rule → Bool) (rules : List Rule) → AllByRecursion (λ r. test r ≡ true) rules → list_all test rules ≡ true
all_of test [] a = refl
all_of test (r ∷ rules) a = rw a.0 (all_of test rules a.1)

pub none_of : (test : Rule → Bool) (rules : List Rule) → AllByRecursion (λ r. test r ≡ false) rules → list_any test rules ≡ false
none_of test [] a = refl
none_of test (r ∷ rules) a = rw a.0 (none_of test rules a.1)

-- options have no position
options_filled : (i : ℕ) (options : List Opt) → filled_from i (map named_rule options) ≡ map rule_for options
options_filled i [] = refl
options_filled i (x ∷ options) = go (takes_value x.kind) (options_filled i options)
  where
    go : (b : Bool) → filled_from i (map named_rule options) ≡ map rule_for options
        → filled_from i (cond b (option_rule x.name) (flag_rule x.name) ∷ map named_rule options) ≡ filled (cond b (option_rule x.name) (flag_rule x.name)) ∷ map rule_for options
    go true onward = ap (λ l. filled (option_rule x.name) ∷ l) onward
    go false onward = ap (λ l. filled (flag_rule x.name) ∷ l) onward

-- clap fills in the rules of a table
pub rules_filled : (i : ℕ) (plains : List WordText) (options : List Opt) → i + length plains < usize_max
    → filled_from i (map plain_rule plains ++ map named_rule options) ≡ plains_at i plains ++ map rule_for options
rules_filled i [] options few = options_filled i options
rules_filled i (name ∷ plains) options few =
    ap (λ l. plain_at i name ∷ l) (ap (λ k. filled_from k (map plain_rule plains ++ map named_rule options)) (min_below i usize_max (omega arith)) ∙ rules_filled (i + 1) plains options (omega arith))
