-- Names that differ, and lists of them.
use Rattle.std.proofs.Common.{◌≡◌, List, [], ◌∷◌, ◌++◌, Some, Bool, true, false, cond, refl, ap, sym, ◌∙◌, map, subst}
use Rattle.std.proofs.lemmas.Slice.Eq.{bytes_eq-Decides}
use Rattle.std.specs.Prelude.{not, ◌&&◌}
use Rattle.std.specs.List.{AllByRecursion, list_any}
use Rattle.std.specs.Str.{bytes_eq}
use Rattle.clap_words.specs.Reading.{WordText, Opt, option_at}
use Rattle.clap_words.specs.Table.{are_distinct, have_names}
use Rattle.clap_words.proofs.Small.{or_false, some_is, bytes_eq_sym}
use Rattle.clap_words.proofs.Stands.{Apart}

pub and_parts : (a b : Bool) → (a && b) ≡ true → (a ≡ true) × (b ≡ true)
and_parts true b h = (refl, h)
and_parts false b h = cc

not_false : (b : Bool) → not b ≡ true → b ≡ false
not_false true h = cc
not_false false h = refl

-- the same bytes are the same name
pub same_name : (a b : WordText) → bytes_eq a b ≡ true → a ≡ b
same_name a b h = (bytes_eq-Decides a b).0 h

-- what holds of each option of a table holds of the one that a name finds
pub at_each : (P : Opt → Type 0) (options : List Opt) → AllByRecursion P options → (name : WordText) (o : Opt) → option_at options name ≡ Some o → P o
at_each P [] all name o e = cc
at_each P (first ∷ options) all name o e = go (bytes_eq first.name name) e (at_each P options all.1 name o)
  where
    go : (b : Bool) → cond b (Some first) (option_at options name) ≡ Some o → (option_at options name ≡ Some o → P o) → P o
    go true h onward = subst P (some_is first o h) all.0
    go false h onward = onward h

-- the option that a name finds has this name
pub found_name : (options : List Opt) (name : WordText) (o : Opt) → option_at options name ≡ Some o → o.name ≡ name
found_name [] name o e = cc
found_name (first ∷ options) name o e = go (bytes_eq first.name name) refl e (found_name options name o)
  where
    go : (b : Bool) → bytes_eq first.name name ≡ b → cond b (Some first) (option_at options name) ≡ Some o → (option_at options name ≡ Some o → o.name ≡ name) → o.name ≡ name
    go true is h onward = ap (λ (x : Opt). x.name) (sym (some_is first o h)) ∙ same_name first.name name is
    go false is h onward = onward h

-- a name that none of some has is apart from the first and from the last of them
pub absent_apart : (name : WordText) (first last : List WordText) → list_any (bytes_eq name) (first ++ last) ≡ false → Apart name first
absent_apart name [] last h = tt
absent_apart name (n ∷ first) last h = let k = or_false (bytes_eq name n) (list_any (bytes_eq name) (first ++ last)) h in (k.0, absent_apart name first last k.1)

pub absent_behind : (name : WordText) (first last : List WordText) → list_any (bytes_eq name) (first ++ last) ≡ false → list_any (bytes_eq name) last ≡ false
absent_behind name [] last h = h
absent_behind name (n ∷ first) last h = absent_behind name first last (or_false (bytes_eq name n) (list_any (bytes_eq name) (first ++ last)) h).1

-- of distinct names each is apart from those behind it
pub distinct_apart : (done : List WordText) (name : WordText) (rest last : List WordText) → are_distinct ((done ++ name ∷ rest) ++ last) ≡ true → Apart name rest
distinct_apart [] name rest last h = absent_apart name rest last (not_false (list_any (bytes_eq name) (rest ++ last)) (and_parts (not (list_any (bytes_eq name) (rest ++ last))) (are_distinct (rest ++ last)) h).0)
distinct_apart (n ∷ done) name rest last h =
    distinct_apart done name rest last (and_parts (not (list_any (bytes_eq n) ((done ++ name ∷ rest) ++ last))) (are_distinct ((done ++ name ∷ rest) ++ last)) h).1

-- and so is each before it from it
pub distinct_before : (done : List WordText) (name : WordText) (rest last : List WordText) → are_distinct ((done ++ name ∷ rest) ++ last) ≡ true → AllByRecursion (λ n. bytes_eq n name ≡ false) done
distinct_before [] name rest last h = tt
distinct_before (n ∷ done) name rest last h =
    let k = and_parts (not (list_any (bytes_eq n) ((done ++ name ∷ rest) ++ last))) (are_distinct ((done ++ name ∷ rest) ++ last)) h in
    (at done (absent_apart n (done ++ name ∷ rest) last (not_false _ k.0)), distinct_before done name rest last k.1)
  where
    at : (first : List WordText) → Apart n (first ++ name ∷ rest) → bytes_eq n name ≡ false
    at [] a = a.0
    at (x ∷ first) a = at first a.1

-- the names of the options of a table are apart from its plain words
pub options_apart : (plains : List WordText) (options : List Opt) → have_names options plains ≡ true → AllByRecursion (λ o. Apart o.name plains) options
options_apart [] options h = all_tt options
  where
    all_tt : (options : List Opt) → AllByRecursion (λ o. Apart o.name []) options
    all_tt [] = tt
    all_tt (o ∷ options) = (tt, all_tt options)
options_apart (name ∷ plains) options h =
    let k = and_parts (not (list_any (bytes_eq name) (plains ++ map (λ o. o.name) options))) (have_names options plains) h in
    both options (absent_behind name plains (map (λ o. o.name) options) (not_false _ k.0)) (options_apart plains options k.1)
  where
    both : (options : List Opt) → list_any (bytes_eq name) (map (λ (o : Opt). o.name) options) ≡ false → AllByRecursion (λ o. Apart o.name plains) options → AllByRecursion (λ o. Apart o.name (name ∷ plains)) options
    both [] n a = tt
    both (o ∷ options) n a =
        let k = or_false (bytes_eq name o.name) (list_any (bytes_eq name) (map (λ (o : Opt). o.name) options)) n in
        ((bytes_eq_sym o.name name ∙ k.0, a.0), both options k.1 a.1)
