-- The end of a parse: rows of defaults, and plain words that are missing.
use Rattle.std.proofs.Common.{◌+◌, ◌≡◌, ℕ, List, [], ◌∷◌, ◌++◌, Some, Bool, true, false, cond, refl, ap, sym, ◌∙◌, map, append-nil, find, fold}
use Rattle.std.proofs.lemmas.List.{append_assoc}
use Rattle.std.specs.Prelude.{◌||◌, ◌&&◌, not}
use Rattle.std.specs.Str.{bytes_eq}
use Rattle.std.specs.List.{AllByRecursion, list_any}
use Rattle.std.specs.Option.{option_map_or}
use Rattle.clap.specs.declared.error.kind.ErrorKind.TheVariants as kind
use Rattle.clap.specs.declared.parser.matches.ValueSource.TheVariants.{DefaultValue}
use Rattle.clap.specs.Facts.{explicit_source}
use Rattle.clap.specs.Walk.{Rule, Row, default_rows, has_row, more_values, reading_by, with_default}
use Rattle.clap.specs.Simple.{filled}
use Rattle.clap.specs.Faults.{defaults_fault, check_fault}
use Rattle.clap.specs.Takes.{is_given}
use Rattle.clap_words.specs.Reading.{WordText, Opt, Given, has, takes_value}
use Rattle.clap_words.specs.TableApp.{option_rule, flag_rule}
use Rattle.clap_words.specs.GivenRows.{is_from_words, given_in, are_given}
use Rattle.clap.specs.Kinds.{Kinds}
use Rattle.clap_words.proofs.Small.{or_false, or_true, same_cond, find_none as or_false_right}
use Rattle.clap_words.proofs.Rows.{rule_for, row_for, plain_at, at_new}
use Rattle.clap_words.proofs.Turns.{shape_on}
use Rattle.clap_words.proofs.TableRules.{plains_at, table_rules}

-- ---- defaults

-- rows of defaults
abbrev pub AreDefaults : List Row → Type 0
AreDefaults = AllByRecursion (λ r. r.source ≡ Some DefaultValue)

pub record AddsDefaults (rows after : List Row) : Type 0 where
  pub more : List Row
  pub is : after ≡ rows ++ more
  pub defaults : AreDefaults more

defaults_append : (xs ys : List Row) → AreDefaults xs → AreDefaults ys → AreDefaults (xs ++ ys)
defaults_append [] ys a b = b
defaults_append (x ∷ xs) ys a b = (a.0, defaults_append xs ys a.1 b)

adds_one : (rows : List Row) (r : Rule) → AddsDefaults rows (with_default rows r)
adds_one rows r = go (has_row r.id rows) refl
  where
    none : AddsDefaults rows rows
    none = record { more = []; is = sym (append-nil rows); defaults = tt }

    values : has_row r.id rows ≡ false → (vs : List WordText) → AddsDefaults rows (default_rows r.id (reading_by r) vs rows)
    values h [] = none
    values h (v ∷ vs) = record { more = _; is = at_new r.id (more_values DefaultValue (v ∷ vs)) _ rows h; defaults = (refl, tt) }

    go : (b : Bool) → has_row r.id rows ≡ b → AddsDefaults rows (cond b rows (default_rows r.id (reading_by r) r.defaults rows))
    go true h = none
    go false h = values h r.defaults

-- the rules add rows of defaults behind those that are there
pub adds_defaults : (rules : List Rule) (rows : List Row) → AddsDefaults rows (fold with_default rows rules)
adds_defaults [] rows = record { more = []; is = sym (append-nil rows); defaults = tt }
adds_defaults (r ∷ rules) rows =
    let a = adds_one rows r in
    let b = adds_defaults rules (with_default rows r) in
    record {
      more = a.more ++ b.more;
      is = b.is ∙ ap (λ rs. rs ++ b.more) a.is ∙ append_assoc rows a.more b.more;
      defaults = defaults_append a.more b.more a.defaults b.defaults;
    }

option_passes : (name : WordText) (b : Bool) (rows : List Row) (rules : List Rule) → ((rs : List Row) → defaults_fault rs rules ≡ [])
    → defaults_fault rows (filled (cond b (option_rule name) (flag_rule name)) ∷ rules) ≡ []
unfolding defaults_fault
option_passes name true rows rules onward = rw (or_true (has_row name rows)) (onward (with_default rows (filled (option_rule name))))
option_passes name false rows rules onward = rw (or_false_right (has_row name rows), same_cond {X = Kinds} (has_row name rows) []) (onward (with_default rows (filled (flag_rule name))))

-- no default has a fault
pub defaults_pass : (i : ℕ) (plains : List WordText) (options : List Opt) (rows : List Row) → defaults_fault rows (plains_at i plains ++ map rule_for options) ≡ []
unfolding defaults_fault
defaults_pass i (name ∷ plains) options rows = rw (or_true (has_row name rows)) (defaults_pass (i + 1) plains options (with_default rows (plain_at i name)))
defaults_pass i [] [] rows = refl
defaults_pass i [] (x ∷ options) rows = option_passes x.name (takes_value x.kind) rows (map rule_for options) (λ rs. defaults_pass i [] options rs)

-- ---- what counts as given

-- what was given counts as given for clap, whatever defaults follow
pub given_counts : (id : WordText) (given : Given) (more : List Row) → has id given ≡ true → is_given id (map row_for given ++ more) ≡ true
given_counts id [] more h = cc
given_counts id (g ∷ gs) more h = go (bytes_eq g.0 id) h (given_counts id gs more)
  where
    go : (b : Bool) → (b || has id gs) ≡ true → (has id gs ≡ true → is_given id (map row_for gs ++ more) ≡ true)
        → option_map_or (λ (r : Row). explicit_source r.source) (cond b (Some (row_for g)) (find (λ r. bytes_eq r.id id) (map row_for gs ++ more))) false ≡ true
    go true h onward = refl
    go false h onward = onward h

defaults_count_not : (id : WordText) (more : List Row) → AreDefaults more → is_given id more ≡ false
defaults_count_not id [] d = refl
defaults_count_not id (r ∷ rs) d = go (bytes_eq r.id id) (defaults_count_not id rs d.1)
  where
    go : (b : Bool) → is_given id rs ≡ false → option_map_or (λ (r : Row). explicit_source r.source) (cond b (Some r) (find (λ r. bytes_eq r.id id) rs)) false ≡ false
    go true onward = ap explicit_source d.0
    go false onward = onward

-- what was not given does not count
pub absent_counts_not : (id : WordText) (given : Given) (more : List Row) → has id given ≡ false → AreDefaults more → is_given id (map row_for given ++ more) ≡ false
absent_counts_not id [] more h d = defaults_count_not id more d
absent_counts_not id (g ∷ gs) more h d =
    let k = or_false (bytes_eq g.0 id) (has id gs) h in rw k.0 (absent_counts_not id gs more k.1 d)

-- ---- plain words that are missing

abbrev pub is_missing : List Row → Rule → Bool
is_missing rows r = r.required && not (is_given r.id rows)

missing_options : (options : List Opt) (rows : List Row) → list_any (is_missing rows) (map rule_for options) ≡ false
missing_options [] rows = refl
missing_options (x ∷ options) rows = go (takes_value x.kind) (missing_options options rows)
  where
    go : (b : Bool) → list_any (is_missing rows) (map rule_for options) ≡ false → list_any (is_missing rows) (filled (cond b (option_rule x.name) (flag_rule x.name)) ∷ map rule_for options) ≡ false
    go true onward = onward
    go false onward = onward

none_missing : (i : ℕ) (plains : List WordText) (options : List Opt) (rows : List Row) → AllByRecursion (λ n. is_given n rows ≡ true) plains
    → list_any (is_missing rows) (plains_at i plains ++ map rule_for options) ≡ false
none_missing i [] options rows a = missing_options options rows
none_missing i (n ∷ plains) options rows a = rw a.0 (none_missing (i + 1) plains options rows a.1)

one_missing : (i : ℕ) (done : List WordText) (name : WordText) (rest : List WordText) (rules : List Rule) (rows : List Row) → is_given name rows ≡ false
    → list_any (is_missing rows) (plains_at i (done ++ name ∷ rest) ++ rules) ≡ true
one_missing i [] name rest rules rows h = rw h refl
one_missing i (n ∷ done) name rest rules rows h = ap (λ b. is_missing rows (plain_at i n) || b) (one_missing (i + 1) done name rest rules rows h) ∙ or_true (is_missing rows (plain_at i n))

-- the check passes where each plain word was given
pub check_passes : (plains : List WordText) (options : List Opt) (rows : List Row) → AllByRecursion (λ n. is_given n rows ≡ true) plains → check_fault (shape_on (table_rules plains options)) rows false ≡ []
check_passes plains options rows a = rw (none_missing 1 plains options rows a) refl

-- and has a fault where one wasn't
pub check_fails : (done : List WordText) (name : WordText) (rest : List WordText) (options : List Opt) (rows : List Row) → is_given name rows ≡ false
    → check_fault (shape_on (table_rules (done ++ name ∷ rest) options)) rows false ≡ kind.MissingRequiredArgument ∷ []
check_fails done name rest options rows h = rw (one_missing 1 done name rest (map rule_for options) rows h) refl

-- ---- what was given, among the rows

none_from_words : (more : List Row) → AreDefaults more → list_any (λ (s : Row). is_from_words s.source) more ≡ false
none_from_words [] d = refl
none_from_words (r ∷ rs) d = rw (ap is_from_words d.0) (none_from_words rs d.1)

defaults_given : (more : List Row) → AreDefaults more → given_in more ≡ []
defaults_given [] d = refl
defaults_given (r ∷ rs) d = rw (ap is_from_words d.0) (defaults_given rs d.1)

defaults_are : (more : List Row) → AreDefaults more → are_given more ≡ true
defaults_are [] d = refl
defaults_are (r ∷ rs) d = rw (ap is_from_words d.0, none_from_words rs d.1) refl

pub rows_given : (given : Given) (more : List Row) → AreDefaults more → given_in (map row_for given ++ more) ≡ given
rows_given [] more d = defaults_given more d
rows_given (g ∷ gs) more d = ap (λ l. g ∷ l) (rows_given gs more d)

pub rows_are_given : (given : Given) (more : List Row) → AreDefaults more → are_given (map row_for given ++ more) ≡ true
rows_are_given [] more d = defaults_are more d
rows_are_given (g ∷ gs) more d = rows_are_given gs more d
