-- The rules of a table fit it.
use Rattle.std.proofs.Common.{◌<◌, ◌≤◌, ◌+◌, ◌++◌, length, arith, ◌≡◌, ℕ, List, [], ◌∷◌, Some, None, Bool, true, false, cond, refl, ap, sym, ◌∙◌, map, option_map, subst, ◌⊎◌, inl, inr, nat_eq}
use Rattle.std.proofs.lemmas.Bool.Decides.{nat_tests}
use Rattle.std.specs.Prelude.{◌||◌}
use Rattle.std.specs.Str.{bytes_eq}
use Rattle.std.specs.List.{AllByRecursion}
use Rattle.clap.specs.Lexer.{usize_max}
use Rattle.clap.specs.Walk.{Rule, arg_by_id, arg_by_long, arg_by_short, arg_by_index}
use Rattle.clap.specs.Simple.{filled}
use Rattle.clap_words.specs.Reading.{WordText, Opt, option_at, takes_value}
use Rattle.clap_words.specs.Table.{have_names}
use Rattle.clap_words.specs.TableApp.{option_rule, flag_rule}
use Rattle.clap_words.proofs.Small.{some_is, same_bytes, bytes_eq_sym}
use Rattle.clap_words.proofs.Rows.{rule_for, plain_at}
use Rattle.clap_words.proofs.Stands.{Fits, Apart}
use Rattle.clap_words.proofs.Names.{at_each, found_name, distinct_apart, distinct_before, options_apart}
use Rattle.clap_words.proofs.TableRules.{plains_at, table_rules}

-- ---- by a long name

long_options : (options : List Opt) (name : WordText) → arg_by_long (map rule_for options) name ≡ option_map rule_for (option_at options name)
long_options [] name = refl
long_options (x ∷ options) name = go (takes_value x.kind) refl (long_options options name)
  where
    Onward : Type 0
    Onward = arg_by_long (map rule_for options) name ≡ option_map rule_for (option_at options name)

    by_name : (b : Bool) (r : Rule) → rule_for x ≡ r → Onward → cond (b || false) (Some r) (arg_by_long (map rule_for options) name) ≡ option_map rule_for (cond b (Some x) (option_at options name))
    by_name true r e onward = ap Some (sym e)
    by_name false r e onward = onward

    go : (b : Bool) → takes_value x.kind ≡ b → Onward → arg_by_long (filled (cond b (option_rule x.name) (flag_rule x.name)) ∷ map rule_for options) name ≡ option_map rule_for (option_at (x ∷ options) name)
    go true e onward = by_name (bytes_eq x.name name) (filled (option_rule x.name)) (rw e refl) onward
    go false e onward = by_name (bytes_eq x.name name) (filled (flag_rule x.name)) (rw e refl) onward

long_rules : (i : ℕ) (plains : List WordText) (options : List Opt) (name : WordText) → arg_by_long (plains_at i plains ++ map rule_for options) name ≡ option_map rule_for (option_at options name)
long_rules i [] options name = long_options options name
long_rules i (n ∷ plains) options name = long_rules (i + 1) plains options name

short_options : (options : List Opt) (x : ℕ) → arg_by_short (map rule_for options) x ≡ None
short_options [] x = refl
short_options (o ∷ options) x = go (takes_value o.kind) (short_options options x)
  where
    go : (b : Bool) → arg_by_short (map rule_for options) x ≡ None → arg_by_short (filled (cond b (option_rule o.name) (flag_rule o.name)) ∷ map rule_for options) x ≡ None
    go true onward = onward
    go false onward = onward

short_rules : (i : ℕ) (plains : List WordText) (options : List Opt) (x : ℕ) → arg_by_short (plains_at i plains ++ map rule_for options) x ≡ None
short_rules i [] options x = short_options options x
short_rules i (n ∷ plains) options x = short_rules (i + 1) plains options x

-- ---- by an id

id_behind : (i : ℕ) (plains : List WordText) (rules : List Rule) (name : WordText) → Apart name plains → arg_by_id (plains_at i plains ++ rules) name ≡ arg_by_id rules name
id_behind i [] rules name a = refl
id_behind i (n ∷ plains) rules name a = rw (bytes_eq_sym n name ∙ a.0) (id_behind (i + 1) plains rules name a.1)

id_options : (options : List Opt) (name : WordText) (o : Opt) → option_at options name ≡ Some o → takes_value o.kind ≡ true → arg_by_id (map rule_for options) o.name ≡ Some (filled (option_rule o.name))
id_options [] name o e t = cc
id_options (x ∷ options) name o e t = go (takes_value x.kind) refl (bytes_eq x.name name) refl e (λ h. id_options options name o h t)
  where
    Onward : Type 0
    Onward = option_at options name ≡ Some o → arg_by_id (map rule_for options) o.name ≡ Some (filled (option_rule o.name))

    skip : (b : Bool) → bytes_eq x.name name ≡ false → option_at options name ≡ Some o → Onward → arg_by_id (filled (cond b (option_rule x.name) (flag_rule x.name)) ∷ map rule_for options) o.name ≡ Some (filled (option_rule o.name))
    skip true n h onward = let away : bytes_eq x.name o.name ≡ false = ap (bytes_eq x.name) (found_name options name o h) ∙ n in rw away (onward h)
    skip false n h onward = let away : bytes_eq x.name o.name ≡ false = ap (bytes_eq x.name) (found_name options name o h) ∙ n in rw away (onward h)

    met : (b : Bool) → takes_value x.kind ≡ b → x ≡ o → arg_by_id (filled (cond b (option_rule x.name) (flag_rule x.name)) ∷ map rule_for options) o.name ≡ Some (filled (option_rule o.name))
    met true k e =
        let P : Opt → Type 0 = λ y. arg_by_id (filled (option_rule x.name) ∷ map rule_for options) y.name ≡ Some (filled (option_rule y.name)) in
        subst P e (rw (same_bytes x.name) refl)
    met false k e = let bad : false ≡ true = sym k ∙ ap (λ (y : Opt). takes_value y.kind) e ∙ t in cc

    go : (b : Bool) → takes_value x.kind ≡ b → (a : Bool) → bytes_eq x.name name ≡ a → cond a (Some x) (option_at options name) ≡ Some o → Onward → arg_by_id (filled (cond b (option_rule x.name) (flag_rule x.name)) ∷ map rule_for options) o.name ≡ Some (filled (option_rule o.name))
    go b k true n h onward = met b k (some_is x o h)
    go b k false n h onward = skip b n h onward

-- ---- by a position

index_options : (options : List Opt) (i : ℕ) → arg_by_index (map rule_for options) i ≡ None
index_options [] i = refl
index_options (o ∷ options) i = go (takes_value o.kind) (index_options options i)
  where
    go : (b : Bool) → arg_by_index (map rule_for options) i ≡ None → arg_by_index (filled (cond b (option_rule o.name) (flag_rule o.name)) ∷ map rule_for options) i ≡ None
    go true onward = onward
    go false onward = onward

abbrev IsAnyPlain : List Rule → ℕ → Type 0
IsAnyPlain c i = (arg_by_index c i ≡ None) ⊎ ((name : WordText) × (arg_by_index c i ≡ Some (plain_at i name)))

index_rules : (k : ℕ) (plains : List WordText) (options : List Opt) (i : ℕ) → IsAnyPlain (plains_at k plains ++ map rule_for options) i
index_rules k [] options i = inl (index_options options i)
index_rules k (n ∷ plains) options i = go (nat_eq k i) refl (index_rules (k + 1) plains options i)
  where
    go : (b : Bool) → nat_eq k i ≡ b → IsAnyPlain (plains_at (k + 1) plains ++ map rule_for options) i
        → (cond b (Some (plain_at k n)) (arg_by_index (plains_at (k + 1) plains ++ map rule_for options) i) ≡ None)
        ⊎ ((name : WordText) × (cond b (Some (plain_at k n)) (arg_by_index (plains_at (k + 1) plains ++ map rule_for options) i) ≡ Some (plain_at i name)))
    go true e onward = let same : k ≡ i = grind (arith, nat_tests) in inr (n, ap (λ j. Some (plain_at j n)) same)
    go false e onward = onward

-- no plain word stands behind the last
over_rules : (k : ℕ) (plains : List WordText) (options : List Opt) (i : ℕ) → k + length plains ≤ i → arg_by_index (plains_at k plains ++ map rule_for options) i ≡ None
over_rules k [] options i h = index_options options i
over_rules k (n ∷ plains) options i h =
    let more : (k + 1) + length plains ≤ i = omega arith in
    let away : nat_eq k i ≡ false = other k i (omega arith) in
    rw away (over_rules (k + 1) plains options i more)
  where
    other : (k i : ℕ) → k < i → nat_eq k i ≡ false
    other k i h = grind (arith, nat_tests)

plain_index : (k : ℕ) (done : List WordText) (name : WordText) (rest : List WordText) (rules : List Rule) (i : ℕ) → i ≡ length done + k → arg_by_index (plains_at k (done ++ name ∷ rest) ++ rules) i ≡ Some (plain_at i name)
plain_index k [] name rest rules i h =
    let same : k ≡ i = omega arith in
    let test : nat_eq k i ≡ true = grind (arith, nat_tests) in
    rw test (ap (λ j. Some (plain_at j name)) same)
plain_index k (n ∷ done) name rest rules i h =
    let away : nat_eq k i ≡ false = other k i (omega arith) in
    rw away (plain_index (k + 1) done name rest rules i (omega arith))
  where
    other : (k i : ℕ) → k < i → nat_eq k i ≡ false
    other k i h = grind (arith, nat_tests)

plain_id : (k : ℕ) (done : List WordText) (name : WordText) (rest : List WordText) (rules : List Rule) (i : ℕ) → i ≡ length done + k → AllByRecursion (λ n. bytes_eq n name ≡ false) done
    → arg_by_id (plains_at k (done ++ name ∷ rest) ++ rules) name ≡ Some (plain_at i name)
plain_id k [] name rest rules i h a = let same : k ≡ i = omega arith in rw (same_bytes name) (ap (λ j. Some (plain_at j name)) same)
plain_id k (n ∷ done) name rest rules i h a = rw a.0 (plain_id (k + 1) done name rest rules i (omega arith) a.1)

-- the rules of a table whose names differ fit it
pub fits_table : (plains : List WordText) (options : List Opt) → have_names options plains ≡ true → length plains < usize_max → Fits options plains (table_rules plains options)
fits_table plains options h few = record {
  long = long_rules 1 plains options;
  id = λ name o e t. id_behind 1 plains (map rule_for options) o.name (apart name o e) ∙ id_options options name o e t;
  plain = λ done name rest e. record {
    index = at done name rest e (λ ps. arg_by_index (plains_at 1 ps ++ map rule_for options) (length done + 1) ≡ Some (plain_at (length done + 1) name)) (plain_index 1 done name rest (map rule_for options) (length done + 1) refl);
    id = at done name rest e (λ ps. arg_by_id (plains_at 1 ps ++ map rule_for options) name ≡ Some (plain_at (length done + 1) name))
        (plain_id 1 done name rest (map rule_for options) (length done + 1) refl (distinct_before done name rest (map (λ (o : Opt). o.name) options) (names done name rest e)));
  };
  index = index_rules 1 plains options;
  over = over_rules 1 plains options (length plains + 1) (omega arith);
  few = few;
  short = short_rules 1 plains options;
  apart = apart;
  distinct = λ done name rest e. distinct_apart done name rest (map (λ (o : Opt). o.name) options) (names done name rest e);
}
  where
    apart : (name : WordText) (o : Opt) → option_at options name ≡ Some o → Apart o.name plains
    apart = at_each (λ o. Apart o.name plains) options (options_apart plains options h)

    at : (done : List WordText) (name : WordText) (rest : List WordText) → plains ≡ done ++ name ∷ rest → (P : List WordText → Type 0) → P (done ++ name ∷ rest) → P plains
    at done name rest e P p = subst P (sym e) p

    names : (done : List WordText) (name : WordText) (rest : List WordText) → plains ≡ done ++ name ∷ rest → have_names options (done ++ name ∷ rest) ≡ true
    names done name rest e = let P : List WordText → Type 0 = λ ps. have_names options ps ≡ true in subst P e h
