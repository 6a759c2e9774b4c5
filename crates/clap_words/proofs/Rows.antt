-- The rows of clap for what was given.
use Rattle.std.proofs.Common.{◌≡◌, ℕ, List, [], ◌∷◌, ◌++◌, Option, Some, None, Bool, true, false, cond, refl, ap, sym, ◌∙◌, map, ◌⊎◌, inl, inr, append-nil}
use Rattle.std.proofs.lemmas.List.{map-append}
use Rattle.std.proofs.lemmas.List.Folds.{list_any-append}
use Rattle.clap.specs.declared.error.kind.ErrorKind.TheVariants as kind
use Rattle.std.specs.Prelude.{codes, ◌||◌}
use Rattle.std.specs.Str.{bytes_eq}
use Rattle.clap.specs.Walk.{Rule, Row, has_row, at_row, with_values, without, used, more_values}
use Rattle.clap.specs.Simple.{filled, with_index}
use Rattle.clap.specs.Faults.{use_fault}
use Rattle.clap.specs.declared.parser.matches.ValueSource.TheVariants.{CommandLine}
use Rattle.clap.specs.declared.builder.value_parser.Reading.TheVariants as reading
use Rattle.clap_words.specs.TableApp.{plain_rule, option_rule, flag_rule, named_rule}
use Rattle.clap_words.specs.Reading.{WordText, Opt, Given, has, is_empty}
use Rattle.clap_words.proofs.Small.{or_false, not_empty, empty_is, some_is, same_bytes, or_true, cons_nil}
use Rattle.clap_words.proofs.Machine.{State, after_put, put}

-- the rule of an option
abbrev pub rule_for : Opt → Rule
rule_for o = filled (named_rule o)

-- the row of what was given
abbrev pub row_for : WordText × WordText → Row
row_for g = record { id = g.0; values = g.1 ∷ []; count = None; source = Some CommandLine; reading = reading.AsWritten }

pub has_row_is : (id : WordText) (given : Given) → has_row id (map row_for given) ≡ has id given
has_row_is id [] = refl
has_row_is id (g ∷ gs) = ap (λ b. bytes_eq g.0 id || b) (has_row_is id gs)

-- a change of a row that is not there adds a row
pub at_new : (id : WordText) (change : Row → List Row) (missing : List Row) (rows : List Row) → has_row id rows ≡ false → at_row id change missing rows ≡ rows ++ missing
at_new id change missing [] h = refl
at_new id change missing (r ∷ rs) h = let k = or_false (bytes_eq r.id id) (has_row id rs) h in rw k.0 (ap (λ l. r ∷ l) (at_new id change missing rs k.1))

pub used_new : (id : WordText) (v : WordText) (rows : List Row) → has_row id rows ≡ false
    → with_values id reading.AsWritten CommandLine (v ∷ []) (without id rows) ≡ rows ++ row_for (id, v) ∷ []
used_new id v rows h =
    let e : without id rows ≡ rows = at_new id (λ _. []) [] rows h ∙ append-nil rows in
    ap (with_values id reading.AsWritten CommandLine (v ∷ [])) e ∙ at_new id (more_values CommandLine (v ∷ [])) (row_for (id, v) ∷ []) rows h

-- the faults of a use, and the rows after it
pub option_twice : (id v : WordText) (rows : List Row) → has_row id rows ≡ true → use_fault false (filled (option_rule id)) (v ∷ []) rows ≡ kind.ArgumentConflict ∷ []
option_twice id v rows h = rw h refl

pub option_empty : (id v : WordText) (rows : List Row) → has_row id rows ≡ false → is_empty v ≡ true → use_fault false (filled (option_rule id)) (v ∷ []) rows ≡ kind.InvalidValue ∷ []
option_empty id v rows h e = rw (h, empty_is v e) refl

pub option_passes : (id v : WordText) (rows : List Row) → has_row id rows ≡ false → is_empty v ≡ false → use_fault false (filled (option_rule id)) (v ∷ []) rows ≡ []
option_passes id v rows h e = rw (h, not_empty v e) refl

pub flag_twice : (id : WordText) (rows : List Row) → has_row id rows ≡ true → use_fault false (filled (flag_rule id)) [] rows ≡ kind.ArgumentConflict ∷ []
flag_twice id rows h = rw h refl

pub flag_passes : (id : WordText) (rows : List Row) → has_row id rows ≡ false → use_fault false (filled (flag_rule id)) [] rows ≡ []
flag_passes id rows h = rw h refl

pub option_rows : (id v : WordText) (given : Given) → has id given ≡ false → used (filled (option_rule id)) (v ∷ []) (map row_for given) ≡ map row_for (given ++ (id, v) ∷ [])
option_rows id v given h = used_new id v (map row_for given) (has_row_is id given ∙ h) ∙ sym (map-append row_for given ((id, v) ∷ []))

pub flag_rows : (id : WordText) (given : Given) → has id given ≡ false → used (filled (flag_rule id)) [] (map row_for given) ≡ map row_for (given ++ (id, codes "true") ∷ [])
flag_rows id given h = used_new id (codes "true") (map row_for given) (has_row_is id given ∙ h) ∙ sym (map-append row_for given ((id, codes "true") ∷ []))

-- the rule of a plain word, by its position
abbrev pub plain_at : ℕ → WordText → Rule
plain_at position name = with_index position (filled (plain_rule name))

pub record Puts (id v : WordText) (given g : Given) : Type 0 where
  pub new : has id given ≡ false
  pub full : is_empty v ≡ false
  pub is : g ≡ given ++ (id, v) ∷ []

pub put_is : (id v : WordText) (given g : Given) → put id v given ≡ Some g → Puts id v given g
put_is id v given g h = go (has id given) refl (is_empty v) refl h
  where
    go : (a : Bool) → a ≡ has id given → (b : Bool) → b ≡ is_empty v → cond a None (cond b None (Some (given ++ (id, v) ∷ []))) ≡ Some g → Puts id v given g
    go true ea b eb h = cc
    go false ea true eb h = cc
    go false ea false eb h = record { new = sym ea; full = sym eb; is = cc }

pub record AfterPut (s u : State) (id v : WordText) (wanted : List WordText) (trailing : Bool) : Type 0 where
  pub g : Given
  pub puts : Puts id v s.given g
  pub is : u ≡ record { given = g; awaiting = None; wanted = wanted; trailing = trailing }

pub after_put_is : (s t u : State) (id v : WordText) → after_put t (put id v s.given) ≡ Some u → AfterPut s u id v t.wanted t.trailing
after_put_is s t u id v h = go (put id v s.given) refl h
  where
    go : (o : Option Given) → o ≡ put id v s.given → after_put t o ≡ Some u → AfterPut s u id v t.wanted t.trailing
    go None e h = cc
    go (Some g) e h = record { g = g; puts = put_is id v s.given g (sym e); is = sym (some_is _ u h) }

pub has_put : (id v name : WordText) (given g : Given) → Puts id v given g → has name given ≡ true → has name g ≡ true
has_put id v name given g p h = ap (has name) p.is ∙ list_any-append (λ e. bytes_eq e.0 name) given ((id, v) ∷ []) ∙ rw h refl

pub has_new : (id v : WordText) (given g : Given) → Puts id v given g → has id g ≡ true
has_new id v given g p = ap (has id) p.is ∙ list_any-append (λ e. bytes_eq e.0 id) given ((id, v) ∷ []) ∙ rw (same_bytes id) (or_true (has id given))

pub record PutFails (id v : WordText) (given : Given) : Type 0 where
  pub why : (has id given ≡ true) ⊎ ((has id given ≡ false) × (is_empty v ≡ true))

pub put_fails : (id v : WordText) (given : Given) → put id v given ≡ None → PutFails id v given
put_fails id v given h = go (has id given) refl (is_empty v) refl h
  where
    go : (a : Bool) → a ≡ has id given → (b : Bool) → b ≡ is_empty v → cond a None (cond b None (Some (given ++ (id, v) ∷ []))) ≡ None → PutFails id v given
    go true ea b eb h = record { why = inl (sym ea) }
    go false ea true eb h = record { why = inr (sym ea, sym eb) }
    go false ea false eb h = cc

pub after_none : (t : State) (o : Option Given) → after_put t o ≡ None → o ≡ None
after_none t None h = refl
after_none t (Some g) h = cc

pub option_bad : (id v : WordText) (given : Given) → PutFails id v given → use_fault false (filled (option_rule id)) (v ∷ []) (map row_for given) ≡ [] → ⊥
option_bad id v given p e = go p.why
  where
    go : (has id given ≡ true) ⊎ ((has id given ≡ false) × (is_empty v ≡ true)) → ⊥
    go (inl h) = cons_nil kind.ArgumentConflict [] (sym (option_twice id v (map row_for given) (has_row_is id given ∙ h)) ∙ e)
    go (inr h) = cons_nil kind.InvalidValue [] (sym (option_empty id v (map row_for given) (has_row_is id given ∙ h.0) h.1) ∙ e)

pub plain_use_bad : (position : ℕ) (name v : WordText) (given : Given) → PutFails name v given → use_fault false (plain_at position name) (v ∷ []) (map row_for given) ≡ [] → ⊥
plain_use_bad position name v given p e = go p.why
  where
    go : (has name given ≡ true) ⊎ ((has name given ≡ false) × (is_empty v ≡ true)) → ⊥
    go (inl h) = cons_nil kind.ArgumentConflict [] (rw (has_row_is name given ∙ h) at e)
    go (inr h) = cons_nil kind.InvalidValue [] (rw (has_row_is name given ∙ h.0, empty_is v h.1) at e)

pub flag_bad : (id : WordText) (given : Given) → PutFails id (codes "true") given → use_fault false (filled (flag_rule id)) [] (map row_for given) ≡ [] → ⊥
flag_bad id given p e = go p.why
  where
    go : (has id given ≡ true) ⊎ ((has id given ≡ false) × (is_empty (codes "true") ≡ true)) → ⊥
    go (inl h) = cons_nil kind.ArgumentConflict [] (sym (flag_twice id (map row_for given) (has_row_is id given ∙ h)) ∙ e)
    go (inr h) = let bad : false ≡ true = h.1 in cc
