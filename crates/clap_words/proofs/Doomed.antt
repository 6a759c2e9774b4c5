-- A fault that clap holds comes out, whatever words follow.
use Rattle.std.proofs.Common.{◌≡◌, ℕ, List, [], ◌∷◌, Option, Some, None, Bool, true, false, cond, refl, ap, option_map, subst, ◌⊎◌, inl, inr, fold}
use Rattle.clap.specs.declared.error.kind.ErrorKind.TheVariants as kind
use Rattle.std.specs.Str.{bytes_eq, chars}
use Rattle.std.specs.List.{AllByRecursion}
use Rattle.clap.specs.Lexer.{long_of, short_of}
use Rattle.clap.specs.Walk.{Rule, Held, Walk, Waiting, idle, arg_by_long, arg_by_index, walked, word_met, value, trailing as trailing_step, is_pending}
use Rattle.clap.specs.Simple.{filled}
use Rattle.clap.specs.Faults.{settle_fault, turn_fault, long_fault, step_fault, walk_fault, bundle_fault, flags_fault}
use Rattle.clap_words.specs.TableApp.{option_rule, flag_rule}
use Rattle.clap_words.specs.Reading.{takes_value, WordText, Opt, Given, option_at}
use Rattle.clap_words.proofs.Small.{and_false, or_else_nil, none_some, cons_nil}
use Rattle.clap_words.proofs.Rows.{rule_for, plain_at}
use Rattle.clap_words.proofs.Turns.{shape_on, no_subcommand, walk_in, fault_long, met_plain, walked_is, turn_parts}
use Rattle.clap_words.proofs.Stands.{Fits, IsSettled}
use Rattle.clap_words.proofs.Spelled.{IsSpelled}

-- a word that settles what is held brings out its fault
pub long_bad : (options : List Opt) (plains : List WordText) (c : List Rule) (h : Held) (p : WordText × Option WordText) → Fits options plains c → ¬ (settle_fault c false h ≡ []) → long_fault c false (arg_by_long c p.0) p.1 h ≡ [] → ⊥
long_bad options plains c h p f bad e = go (option_at options p.0) (rw (f.long p.0) at e)
  where
    by_value : (o : Opt) (b : Bool) (v : Option WordText) → long_fault c false (Some (filled (cond b (option_rule o.name) (flag_rule o.name)))) v h ≡ [] → ⊥
    by_value o true (Some v) e = bad (or_else_nil _ _ e).0
    by_value o true None e = bad e
    by_value o false (Some v) e = cc
    by_value o false None e = bad (or_else_nil _ _ e).0

    go : (o : Option Opt) → long_fault c false (option_map rule_for o) p.1 h ≡ [] → ⊥
    go None e = cc
    go (Some o) e = by_value o (takes_value o.kind) p.1 e

pub short_bad : (options : List Opt) (plains : List WordText) (c : List Rule) (h : Held) (word flags : WordText) → Fits options plains c → h.skip ≡ 0 → IsSpelled word → short_of word ≡ Some flags → bundle_fault c false flags h ≡ [] → ⊥
unfolding flags_fault chars
short_bad options plains c h word [] f z s n e = let k = s [] n in none_some k.0 k.1
short_bad options plains c h word (x ∷ xs) f z s n e = let k = s (x ∷ xs) n in cons_nil kind.UnknownArgument [] (rw (z, k.1, f.short k.0) at e)

pub plain_bad : (options : List Opt) (plains : List WordText) (c : List Rule) (h : Held) (position : ℕ) → Fits options plains c → ¬ (settle_fault c false h ≡ []) → step_fault (shape_on c) position h value ≡ [] → ⊥
plain_bad options plains c h position f bad e = go (f.index position)
  where
    go : (arg_by_index c position ≡ None) ⊎ ((name : WordText) × (arg_by_index c position ≡ Some (plain_at position name))) → ⊥
    go (inl i) = let k = rw i at e in cc
    go (inr i) = bad (rw (i.1, and_false (is_pending (plain_at position i.0) h.pending)) at e)

-- a word at such a walk has a fault, or is `--`
pub doomed_turn : (options : List Opt) (plains : List WordText) (c : List Rule) (h : Held) (position : ℕ) (word : WordText) → Fits options plains c → ¬ (settle_fault c false h ≡ []) → h.skip ≡ 0 → IsSpelled word → bytes_eq word (45 ∷ 45 ∷ []) ≡ false
    → turn_fault (shape_on c) [] (walk_in h idle position false) word ≡ [] → ⊥
doomed_turn options plains c h position word f bad z s d e = go (long_of word) refl
  where
    other : (o : Option WordText) → short_of word ≡ o → long_of word ≡ None → ⊥
    other (Some flags) n l = short_bad options plains c h word flags f z s n (rw (d, l, n) at (turn_parts c h idle position false word e).0)
    other None n l = plain_bad options plains c h position f bad (rw (met_plain c h idle position word d l n) at (turn_parts c h idle position false word e).1)

    go : (l : Option (WordText × Option WordText)) → long_of word ≡ l → ⊥
    go (Some p) l = long_bad options plains c h p f bad (rw (fault_long c h idle position word p d l) at (turn_parts c h idle position false word e).0)
    go None l = other (short_of word) refl l

pub doomed_turns : (options : List Opt) (plains : List WordText) (c : List Rule) (word : WordText) (words : List WordText) (h : Held) (waiting : Waiting) (position : ℕ) (trailing : Bool) → Fits options plains c → IsSpelled word
    → ¬ (settle_fault c false h ≡ []) → h.skip ≡ 0 → (trailing ≡ true) ⊎ (waiting ≡ idle)
    → ((p : ℕ) → walk_fault (shape_on c) [] (walk_in h waiting p true) words ≡ [] → settle_fault c false (fold (walked c []) (walk_in h waiting p true) words).held ≡ [] → ⊥)
    → walk_fault (shape_on c) [] (walk_in h waiting position trailing) (word ∷ words) ≡ [] → settle_fault c false (fold (walked c []) (walk_in h waiting position trailing) (word ∷ words)).held ≡ [] → ⊥
unfolding walk_fault
doomed_turns options plains c word words h waiting position true f sp bad z ready onward e g =
    let parts = or_else_nil (turn_fault (shape_on c) [] (walk_in h waiting position true) word) (walk_fault (shape_on c) [] (walked c [] (walk_in h waiting position true) word) words) e in
    plain_bad options plains c h position f bad (turn_parts c h waiting position true word parts.0).1
doomed_turns options plains c word words h waiting position false f sp bad z (inl t) onward e g = cc
doomed_turns options plains c word words h waiting position false f sp bad z (inr i) onward e g =
    go (bytes_eq word (45 ∷ 45 ∷ [])) refl
  where
    go : (b : Bool) → bytes_eq word (45 ∷ 45 ∷ []) ≡ b → ⊥
    go false d = doomed_turn options plains c h position word f bad z sp d (rw i at (or_else_nil (turn_fault (shape_on c) [] (walk_in h waiting position false) word) (walk_fault (shape_on c) [] (walked c [] (walk_in h waiting position false) word) words) e).0)
    go true d =
        let met : word_met c [] false waiting position word h ≡ (h, trailing_step position) = rw (no_subcommand waiting word, d) refl in
        let moved = walked_is c h waiting position false word (h, trailing_step position) met in
        let parts = or_else_nil (turn_fault (shape_on c) [] (walk_in h waiting position false) word) (walk_fault (shape_on c) [] (walked c [] (walk_in h waiting position false) word) words) e in
        let P : Walk → Type 0 = λ v. settle_fault c false (fold (walked c []) v words).held ≡ [] in
        onward position (rw moved at parts.1) (subst P moved g)

-- from such a walk on there is a fault
pub doomed : (options : List Opt) (plains : List WordText) (c : List Rule) (words : List WordText) (h : Held) (waiting : Waiting) (position : ℕ) (trailing : Bool) → Fits options plains c → AllByRecursion IsSpelled words
    → ¬ (settle_fault c false h ≡ []) → h.skip ≡ 0 → (trailing ≡ true) ⊎ (waiting ≡ idle)
    → walk_fault (shape_on c) [] (walk_in h waiting position trailing) words ≡ [] → settle_fault c false (fold (walked c []) (walk_in h waiting position trailing) words).held ≡ [] → ⊥
doomed options plains c [] h waiting position trailing f sp bad z ready e g = bad g
doomed options plains c (word ∷ words) h waiting position trailing f sp bad z ready e g =
    doomed_turns options plains c word words h waiting position trailing f sp.0 bad z ready (λ p. doomed options plains c words h waiting p true f sp.1 bad z (inl refl)) e g

-- the rest of the words passes, and so does what is held in the end
pub record Passes (c : List Rule) (w : Walk) (words : List WordText) : Type 0 where
  pub fault : walk_fault (shape_on c) [] w words ≡ []
  pub held : settle_fault c false (fold (walked c []) w words).held ≡ []

pub record PassesTurn (c : List Rule) (w : Walk) (word : WordText) (words : List WordText) : Type 0 where
  pub turn : turn_fault (shape_on c) [] w word ≡ []
  pub rest : Passes c (walked c [] w word) words

pub passes_turn : (c : List Rule) (w : Walk) (word : WordText) (words : List WordText) → Passes c w (word ∷ words) → PassesTurn c w word words
unfolding walk_fault
passes_turn c w word words p =
    let parts = or_else_nil (turn_fault (shape_on c) [] w word) (walk_fault (shape_on c) [] (walked c [] w word) words) p.fault in
    record { turn = parts.0; rest = record { fault = parts.1; held = p.held } }

pub doomed_at : (options : List Opt) (plains : List WordText) (c : List Rule) (words : List WordText) (w : Walk) (h : Held) (waiting : Waiting) (position : ℕ) (trailing : Bool) → Fits options plains c → AllByRecursion IsSpelled words
    → ¬ (settle_fault c false h ≡ []) → h.skip ≡ 0 → (trailing ≡ true) ⊎ (waiting ≡ idle) → w ≡ walk_in h waiting position trailing → Passes c w words → ⊥
doomed_at options plains c words w h waiting position trailing f sp bad z ready is p =
    let P : Walk → Type 0 = λ v. Passes c v words in let q = subst P is p in
    doomed options plains c words h waiting position trailing f sp bad z ready q.fault q.held

pub settled_skip : (c : List Rule) (h : Held) (given : Given) → IsSettled c h given → h.skip ≡ 0
settled_skip c h given s = ap (λ (k : Held). k.skip) s.is
