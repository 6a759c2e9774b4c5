-- Words, read by clap and by their table.
use Rattle.std.proofs.Common.{◌<◌, ◌+◌, length, ℕ, append-nil, ◌++◌, ◌≡◌, List, [], ◌∷◌, Option, Some, None, Bool, true, false, refl, ap, sym, ◌∙◌, map, subst, arith, fold, nat_lt}
use Rattle.std.proofs.lemmas.Bool.Decides.{nat_tests}
use Rattle.clap.specs.declared.error.kind.ErrorKind.TheVariants as kind
use Rattle.std.specs.Prelude.{option_and_then}
use Rattle.std.specs.List.{AllByRecursion}
use Rattle.clap.specs.Lexer.{usize_max}
use Rattle.clap.specs.Walk.{Held, Row, Rule, Walk, walk, nothing_held, walk_from, settled, finished, with_default}
use Rattle.clap.specs.Simple.{filled_from, matches_of, built}
use Rattle.clap.specs.Faults.{is_simple_and_free, fault_of, settle_fault, walk_fault, defaults_fault, check_fault, entered_fault}
use Rattle.clap.specs.Takes.{is_given}
use Rattle.clap_words.specs.Reading.{WordText, Opt, Given, given_by, has}
use Rattle.clap_words.specs.Table.{have_names, are_named}
use Rattle.clap_words.proofs.Names.{and_parts}
use Rattle.clap_words.specs.GivenRows.{given_in, are_given}
use Rattle.clap_words.proofs.Small.{some_is, or_else_nil, cons_nil}
use Rattle.clap_words.proofs.Rows.{row_for}
use Rattle.clap_words.proofs.Turns.{shape_on}
use Rattle.clap_words.proofs.Stands.{Fits, IsSettled, IsAwaiting, HoldsGiven, Wanted, MachineStands, Reaches, rows_settled}
use Rattle.clap_words.proofs.Spelled.{IsSpelled}
use Rattle.clap_words.proofs.Doomed.{Passes}
use Rattle.clap_words.proofs.Refusals.{awaiting_bad, read_fails}
use Rattle.clap_words.proofs.Moves.{reaches}
use Rattle.clap_words.proofs.Machine.{State, given_at_end, machine_gives, words_read_on, start, machine_state}
use Rattle.clap_words.proofs.MachineReads.{machine_reads}
use Rattle.clap_words.proofs.TableRules.{table_rules, rules_filled}
use Rattle.clap_words.proofs.TableFits.{fits_table}
use Rattle.clap_words.proofs.TableApps.{app_with, raw_rules, simple_and_free}
use Rattle.clap_words.proofs.Ends.{adds_defaults, defaults_pass, given_counts, absent_counts_not, check_passes, check_fails, rows_given, rows_are_given}

-- ---- a parse by the rules as they are built

none_wanted : (names : List WordText) → AllByRecursion (λ n. has n [] ≡ false) names
none_wanted [] = tt
none_wanted (n ∷ names) = (refl, none_wanted names)

stands_at_start : (plains : List WordText) (c : List Rule) → MachineStands plains c (walk_from nothing_held) (start plains)
stands_at_start plains c = record {
  held = nothing_held;
  position = 1;
  is = refl;
  wanted = record { done = []; is = refl; position_is = refl; were = tt; are = none_wanted plains };
  holds = record { fault = refl; is = refl };
  alone = λ e. refl;
}

-- words that are read pass the walk
walk_passes : (options : List Opt) (plains : List WordText) (c : List Rule) (words : List WordText) (t : State) → Fits options plains c → words_read_on options (start plains) words ≡ Some t → Reaches plains c (walk_from nothing_held) words t
walk_passes options plains c words t f e = reaches options plains c words (walk_from nothing_held) (start plains) t f (stands_at_start plains c) e

state_is : (t : State) (given : Given) → t.awaiting ≡ None → t.wanted ≡ [] → t.given ≡ given → t ≡ machine_state given None [] t.trailing
state_is t given ea ew eg = rw (← ea, ← ew, ← eg) refl

-- the state at the end of a reading that gives something
record Ends (options : List Opt) (plains words : List WordText) (given : Given) : Type 0 where
  trailing : Bool
  read : words_read_on options (start plains) words ≡ Some (machine_state given None [] trailing)

ends_is : (options : List Opt) (plains words : List WordText) (given : Given) → machine_gives options plains words ≡ Some given → Ends options plains words given
ends_is options plains words given h = go (words_read_on options (start plains) words) refl h
  where
    at : (t : State) (awaiting : Option WordText) (wanted : List WordText) → t.awaiting ≡ awaiting → t.wanted ≡ wanted → words_read_on options (start plains) words ≡ Some t
        → given_at_end awaiting wanted t.given ≡ Some given → Ends options plains words given
    at t None [] ea ew e h = record { trailing = t.trailing; read = e ∙ ap Some (state_is t given ea ew (some_is t.given given h)) }
    at t None (x ∷ xs) ea ew e h = cc
    at t (Some name) wanted ea ew e h = cc

    go : (o : Option State) → words_read_on options (start plains) words ≡ o → option_and_then (λ s. given_at_end s.awaiting s.wanted s.given) o ≡ Some given → Ends options plains words given
    go None e h = cc
    go (Some t) e h = at t t.awaiting t.wanted refl refl e h

-- words that are read have no fault, and their rows are what was given, and defaults
record IsTaken (rules : List Rule) (words : List WordText) (given : Given) : Type 0 where
  fault : fault_of (app_with rules) words ≡ []
  rows : given_in (matches_of (app_with rules) words) ≡ given
  are : are_given (matches_of (app_with rules) words) ≡ true

all_count : (names : List WordText) (given : Given) (more : List Row) → AllByRecursion (λ n. has n given ≡ true) names → AllByRecursion (λ n. is_given n (map row_for given ++ more) ≡ true) names
all_count [] given more w = tt
all_count (n ∷ names) given more w = (given_counts n given more w.0, all_count names given more w.1)

read_taken : (options : List Opt) (plains : List WordText) (rules : List Rule) (words : List WordText) (given : Given) → Fits options plains (filled_from 1 rules) → filled_from 1 rules ≡ table_rules plains options
    → machine_gives options plains words ≡ Some given → IsTaken rules words given
read_taken options plains rules words given f built_is h =
    let c = filled_from 1 rules in
    let e = ends_is options plains words given h in
    let r = walk_passes options plains c words (machine_state given None [] e.trailing) f e.read in
    let st = r.stands in
    let held_is : (walk c [] nothing_held words).held ≡ st.held = ap (λ (w : Walk). w.held) st.is in
    let stopped : (walk c [] nothing_held words).stopped ≡ None = ap (λ (w : Walk). w.stopped) st.is in
    let rows : (settled c st.held).rows ≡ map row_for given = ap (λ (k : Held). k.rows) st.holds.is in
    let more = adds_defaults c (map row_for given) in
    let end : finished c (walk c [] nothing_held words).held ≡ map row_for given ++ more.more =
    ap (finished c) held_is ∙ ap (λ rs. fold with_default rs c) rows ∙ more.is in
    let D : List Rule → Type 0 = λ l. defaults_fault (map row_for given) l ≡ [] in
    let defaults : defaults_fault (map row_for given) c ≡ [] = subst D (sym built_is) (defaults_pass 1 plains options (map row_for given)) in
    let C : List Rule → Type 0 = λ l. check_fault (shape_on l) (map row_for given ++ more.more) false ≡ [] in
    let check : check_fault (shape_on c) (map row_for given ++ more.more) false ≡ [] =
    subst C (sym built_is) (check_passes plains options (map row_for given ++ more.more) (all_count plains given more.more (all_given st.position st.wanted))) in
    record {
      fault = rw (stopped, r.fault, held_is, st.holds.fault, rows, defaults, more.is) check;
      rows = ap given_in end ∙ rows_given given more.more more.defaults;
      are = ap are_given end ∙ rows_are_given given more.more more.defaults;
    }
  where
    all_given : (position : ℕ) → Wanted plains [] position given → AllByRecursion (λ n. has n given ≡ true) plains
    all_given position w =
        let P : List WordText → Type 0 = λ l. AllByRecursion (λ n. has n given ≡ true) l in
        subst P (sym (w.is ∙ append-nil w.done)) w.were

-- the parts of a whole parse that passes, where no subcommand was met
record PassesWhole (rules : List Rule) (words : List WordText) : Type 0 where
  passes : Passes (filled_from 1 rules) (walk_from nothing_held) words
  check : (walk (filled_from 1 rules) [] nothing_held words).stopped ≡ None
      → check_fault (shape_on (filled_from 1 rules)) (finished (filled_from 1 rules) (walk (filled_from 1 rules) [] nothing_held words).held) false ≡ []

passes_whole : (rules : List Rule) (words : List WordText) → fault_of (app_with rules) words ≡ [] → PassesWhole rules words
passes_whole rules words e =
    let c = filled_from 1 rules in
    let a = or_else_nil (walk_fault (shape_on c) [] (walk_from nothing_held) words) _ e in
    let b = or_else_nil (entered_fault (built (app_with rules)) (walk c [] nothing_held words).stopped) _ a.1 in
    let d = or_else_nil (settle_fault c false (walk c [] nothing_held words).held) _ b.1 in
    let k = or_else_nil (defaults_fault (settled c (walk c [] nothing_held words).held).rows c) _ d.1 in
    record { passes = record { fault = a.0; held = d.0 }; check = λ stop. rw stop at k.1 }

-- words that are not read have a fault
read_refused : (options : List Opt) (plains : List WordText) (rules : List Rule) (words : List WordText) → Fits options plains (filled_from 1 rules) → filled_from 1 rules ≡ table_rules plains options
    → AllByRecursion IsSpelled words → machine_gives options plains words ≡ None → fault_of (app_with rules) words ≡ [] → ⊥
read_refused options plains rules words f built_is sp h e = go (words_read_on options (start plains) words) refl h
  where
    p : PassesWhole rules words
    p = passes_whole rules words e

    missing : (t : State) (x : WordText) (xs : List WordText) → t.awaiting ≡ None → t.wanted ≡ x ∷ xs → (st : MachineStands plains (filled_from 1 rules) (walk (filled_from 1 rules) [] nothing_held words) t) → Wanted plains t.wanted st.position t.given → ⊥
    missing t x xs ea ew st w =
        let Q : List WordText → Type 0 = λ l. Wanted plains l st.position t.given in
        let left = subst Q ew w in
        let P : Option WordText → Type 0 = λ o. HoldsGiven plains (filled_from 1 rules) st.held t.given o in
        let settled_end : IsSettled (filled_from 1 rules) st.held t.given = subst P ea st.holds in
        let more = adds_defaults (filled_from 1 rules) (map row_for t.given) in
        let rows : finished (filled_from 1 rules) (walk (filled_from 1 rules) [] nothing_held words).held ≡ map row_for t.given ++ more.more =
        ap (λ (v : Walk). finished (filled_from 1 rules) v.held) st.is ∙ ap (λ rs. fold with_default rs (filled_from 1 rules)) (rows_settled (filled_from 1 rules) st.held t.given settled_end) ∙ more.is in
        let none = absent_counts_not x t.given more.more left.are.0 more.defaults in
        let C : List Rule → Type 0 = λ l. check_fault (shape_on l) (map row_for t.given ++ more.more) false ≡ kind.MissingRequiredArgument ∷ [] in
        let N : List WordText → Type 0 = λ l. check_fault (shape_on (table_rules l options)) (map row_for t.given ++ more.more) false ≡ kind.MissingRequiredArgument ∷ [] in
        let fails = subst C (sym built_is) (subst N (sym left.is) (check_fails left.done x xs options (map row_for t.given ++ more.more) none)) in
        cons_nil kind.MissingRequiredArgument [] (sym fails ∙ ap (λ rs. check_fault (shape_on (filled_from 1 rules)) rs false) (sym rows) ∙ p.check (ap (λ (v : Walk). v.stopped) st.is))

    at : (t : State) (awaiting : Option WordText) (wanted : List WordText) → t.awaiting ≡ awaiting → t.wanted ≡ wanted → MachineStands plains (filled_from 1 rules) (walk (filled_from 1 rules) [] nothing_held words) t
        → given_at_end awaiting wanted t.given ≡ None → ⊥
    at t None [] ea ew st h = cc
    at t None (x ∷ xs) ea ew st h = missing t x xs ea ew st st.wanted
    at t (Some name) wanted ea ew st h =
        let P : Option WordText → Type 0 = λ o. HoldsGiven plains (filled_from 1 rules) st.held t.given o in
        let waits : IsAwaiting plains (filled_from 1 rules) st.held t.given name = subst P ea st.holds in
        awaiting_bad plains (filled_from 1 rules) st.held t.given name waits (ap (λ (v : Walk). settle_fault (filled_from 1 rules) false v.held) (sym st.is) ∙ p.passes.held)

    go : (o : Option State) → words_read_on options (start plains) words ≡ o → option_and_then (λ s. given_at_end s.awaiting s.wanted s.given) o ≡ None → ⊥
    go None se h = read_fails options plains (filled_from 1 rules) words (walk_from nothing_held) (start plains) f sp (stands_at_start plains (filled_from 1 rules)) se p.passes
    go (Some t) se h = at t t.awaiting t.wanted refl refl (walk_passes options plains (filled_from 1 rules) words t f se).stands h

-- ---- a parse by a table

-- the rules of a table fit it as clap builds them
pub record IsBuilt (options : List Opt) (plains : List WordText) : Type 0 where
  pub is : filled_from 1 (raw_rules plains options) ≡ table_rules plains options
  pub fits : Fits options plains (filled_from 1 (raw_rules plains options))
  pub free : is_simple_and_free (app_with (raw_rules plains options)) ≡ true

pub table_built : (options : List Opt) (plains : List WordText) → are_named options plains ≡ true → IsBuilt options plains
table_built options plains h =
    let parts = and_parts (have_names options plains) (nat_lt (1 + length plains) usize_max) h in
    let few : 1 + length plains < usize_max = below (1 + length plains) usize_max parts.1 in
    let e = rules_filled 1 plains options few in
    let P : List Rule → Type 0 = λ c. Fits options plains c in
    record { is = e; fits = subst P (sym e) (fits_table plains options parts.0 (omega arith)); free = simple_and_free plains options few }
  where
    below : (n m : ℕ) → nat_lt n m ≡ true → n < m
    below n m e = grind (arith, nat_tests)

-- what a parse that succeeds shows
pub record IsParsed (options : List Opt) (plains words : List WordText) : Type 0 where
  pub read : given_by options plains words ≡ Some (given_in (matches_of (app_with (raw_rules plains options)) words))
  pub are : are_given (matches_of (app_with (raw_rules plains options)) words) ≡ true

pub parsed : (options : List Opt) (plains words : List WordText) → IsBuilt options plains → AllByRecursion IsSpelled words → fault_of (app_with (raw_rules plains options)) words ≡ [] → IsParsed options plains words
parsed options plains words b sp e = go (machine_gives options plains words) refl
  where
    go : (o : Option Given) → machine_gives options plains words ≡ o → IsParsed options plains words
    go None h = absurd (read_refused options plains (raw_rules plains options) words b.fits b.is sp h e)
    go (Some given) h =
        let t = read_taken options plains (raw_rules plains options) words given b.fits b.is h in
        record { read = sym (machine_reads options plains words) ∙ h ∙ ap Some (sym t.rows); are = t.are }

-- what a parse that is refused shows
pub refused_of : (options : List Opt) (plains words : List WordText) → IsBuilt options plains → ¬ (fault_of (app_with (raw_rules plains options)) words ≡ []) → given_by options plains words ≡ None
refused_of options plains words b bad = sym (machine_reads options plains words) ∙ go (machine_gives options plains words) refl
  where
    go : (o : Option Given) → machine_gives options plains words ≡ o → o ≡ None
    go None h = refl
    go (Some given) h = absurd (bad (read_taken options plains (raw_rules plains options) words given b.fits b.is h).fault)
