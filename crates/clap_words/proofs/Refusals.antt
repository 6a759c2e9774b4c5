-- Words that are not read have a fault.
use Rattle.std.proofs.Common.{append-nil, length, ◌+◌, ◌≡◌, ℕ, List, [], ◌∷◌, Option, Some, None, Bool, true, false, cond, refl, ap, sym, ◌∙◌, map, subst, inl, inr}
use Rattle.clap.specs.declared.error.kind.ErrorKind.TheVariants as kind
use Rattle.std.specs.Prelude.{codes, option_and_then}
use Rattle.std.specs.Str.{bytes_eq}
use Rattle.std.specs.List.{AllByRecursion}
use Rattle.clap.specs.Lexer.{long_of}
use Rattle.clap.specs.Walk.{arg_by_index, Rule, Held, Walk, idle, option, arg_by_long, walked, settled, word_met, plain_word, value, trailing as trailing_step}
use Rattle.clap.specs.Simple.{filled}
use Rattle.clap.specs.Faults.{settle_fault, long_fault}
use Rattle.clap_words.specs.TableApp.{option_rule, flag_rule}
use Rattle.clap_words.specs.Reading.{takes_value, WordText, Opt, Given, option_at, is_dashed, option_in}
use Rattle.clap_words.proofs.Small.{cons_nil}
use Rattle.clap_words.proofs.Rows.{row_for, put_fails, after_none, option_bad, plain_use_bad, flag_bad}
use Rattle.clap_words.proofs.Turns.{waiting_for, quiet, walk_in, fault_long, met_plain, walked_is, plain_value, after_plain, turn_parts}
use Rattle.clap_words.proofs.Stands.{Fits, position_below, IsPlainAt, IsSettled, IsAwaiting, HoldsGiven, Wanted, MachineStands, rows_settled}
use Rattle.clap_words.proofs.Spelled.{IsSpelled}
use Rattle.clap_words.proofs.Forms.{long_is, undashed, dashed}
use Rattle.clap_words.proofs.Doomed.{long_bad, short_bad, Passes, PassesTurn, passes_turn, doomed_at, settled_skip}
use Rattle.clap_words.proofs.Moves.{moves}
use Rattle.clap_words.proofs.Machine.{State, after_put, by_form, flagged, named_option, plain_on, put, words_read_on, machine_state, step, untrailed, valued}

-- a plain word that is refused
pub plain_fails : (options : List Opt) (plains : List WordText) (c : List Rule) (h : Held) (given : Given) (wanted : List WordText) (position : ℕ) (trailing : Bool) (word : WordText) (words : List WordText) → Fits options plains c
    → AllByRecursion IsSpelled words → Wanted plains wanted position given → IsSettled c h given
    → plain_on (machine_state given None wanted trailing) word wanted ≡ None
    → word_met c [] trailing idle position word h ≡ (h, value) → PassesTurn c (walk_in h idle position trailing) word words → ⊥
plain_fails options plains c h given [] position trailing word words f sp k s e met p =
    let step = rw met at (turn_parts c h idle position trailing word p.turn).1 in
    let is : position ≡ length plains + 1 = k.position_is ∙ ap (λ l. length l + 1) (sym (k.is ∙ append-nil k.done)) in
    let over : arg_by_index c position ≡ None = ap (arg_by_index c) is ∙ f.over in
    let stray = rw over at step in cons_nil kind.UnknownArgument [] stray
plain_fails options plains c h given (name ∷ rest) position trailing word words f sp k s e met p =
    let P : ℕ → Type 0 = λ i. IsPlainAt c i name in
    let at : IsPlainAt c position name = subst P (sym k.position_is) (f.plain k.done name rest k.is) in
    let fails = put_fails name word given (after_none (machine_state given None rest trailing) (put name word given) e) in
    let moved = walked_is c h idle position trailing word (h, value) met ∙ after_plain c h position name trailing word (position_below plains position name rest given k f.few) at.index in
    let held = ap (λ (k : Held). record k { pending = Some (name, word ∷ []) }) s.is in
    let H : Held → Type 0 = λ k. ¬ (settle_fault c false k ≡ []) in
    let bad : ¬ (settle_fault c false (record (settled c h) { pending = Some (name, word ∷ []) }) ≡ []) =
    subst H (sym held) (λ x. plain_use_bad position name word given fails (rw at.id at x)) in
    doomed_at options plains c words _ (record (settled c h) { pending = Some (name, word ∷ []) }) idle (position + 1) trailing f sp bad (settled_skip c h given s) (inr refl) moved p.rest

-- an option that is refused
pub named_fails : (options : List Opt) (plains : List WordText) (c : List Rule) (h : Held) (given : Given) (wanted : List WordText) (word rest : WordText) (v : Option WordText) (o : Option Opt) → Fits options plains c → IsSettled c h given
    → option_at options rest ≡ o → named_option (machine_state given None wanted false) o v ≡ None → long_fault c false (arg_by_long c rest) v h ≡ [] → ⊥
named_fails options plains c h given wanted word rest v None f s oe e p = cons_nil kind.UnknownArgument [] (rw (f.long rest, oe) at p)
named_fails options plains c h given wanted word rest v (Some o) f s oe e p = go (takes_value o.kind) v e (rw (f.long rest, oe) at p)
  where
    go : (b : Bool) (v : Option WordText) → cond b (valued (machine_state given None wanted false) o.name v) (flagged (machine_state given None wanted false) o.name v) ≡ None
        → long_fault c false (Some (filled (cond b (option_rule o.name) (flag_rule o.name)))) v h ≡ [] → ⊥
    go true (Some x) e p = option_bad o.name x given (put_fails o.name x given (after_none (machine_state given None wanted false) (put o.name x given) e)) (rw (s.fault, rows_settled c h given s) at p)
    go true None e p = cc
    go false (Some x) e p = cons_nil kind.TooManyValues [] p
    go false None e p = flag_bad o.name given (put_fails o.name (codes "true") given (after_none (machine_state given None wanted false) (put o.name (codes "true") given) e)) (rw (s.fault, rows_settled c h given s) at p)

-- a word that is no value of the option that waits
pub dashed_fails : (options : List Opt) (plains : List WordText) (c : List Rule) (h : Held) (name word : WordText) (position : ℕ) (words : List WordText) → Fits options plains c → IsSpelled word → AllByRecursion IsSpelled words → ¬ (settle_fault c false h ≡ []) → h.skip ≡ 0
    → is_dashed word ≡ true → PassesTurn c (walk_in h (option name) position false) word words → ⊥
dashed_fails options plains c h name word position words f sw sp bad z e p = go (bytes_eq word (45 ∷ 45 ∷ [])) refl
  where
    short : bytes_eq word (45 ∷ 45 ∷ []) ≡ false → long_of word ≡ None → ⊥
    short d l = let s = dashed word e d l in
        short_bad options plains c h word s.0 f z sw s.1 (rw (d, l, s.1) at (turn_parts c h (option name) position false word p.turn).0)

    long : (l : Option (WordText × Option WordText)) → long_of word ≡ l → bytes_eq word (45 ∷ 45 ∷ []) ≡ false → ⊥
    long (Some q) l d = long_bad options plains c h q f bad (rw (fault_long c h (option name) position word q d l) at (turn_parts c h (option name) position false word p.turn).0)
    long None l d = short d l

    go : (b : Bool) → bytes_eq word (45 ∷ 45 ∷ []) ≡ b → ⊥
    go false d = long (long_of word) refl d
    go true d =
        let met : word_met c [] false (option name) position word h ≡ (h, trailing_step position) = rw d refl in
        doomed_at options plains c words _ h (option name) position true f sp bad z (inl refl) (walked_is c h (option name) position false word (h, trailing_step position) met) p.rest

pub awaiting_bad : (plains : List WordText) (c : List Rule) (h : Held) (given : Given) (name : WordText) → IsAwaiting plains c h given name → settle_fault c false h ≡ [] → ⊥
awaiting_bad plains c h given name s e = let k = rw (s.is, s.known) at e in cons_nil kind.InvalidValue [] k

pub untrailed_fails : (options : List Opt) (plains : List WordText) (c : List Rule) (h : Held) (given : Given) (awaiting : Option WordText) (wanted : List WordText) (position : ℕ) (word : WordText) (words : List WordText) → Fits options plains c → IsSpelled word → AllByRecursion IsSpelled words → Wanted plains wanted position given → HoldsGiven plains c h given awaiting
    → untrailed options (machine_state given awaiting wanted false) word awaiting ≡ None
    → PassesTurn c (walk_in h (waiting_for awaiting) position false) word words → ⊥
untrailed_fails options plains c h given None wanted position word words f sw sp k s e p = go (bytes_eq word (45 ∷ 45 ∷ [])) refl e
  where
    short : (b : Bool) → is_dashed word ≡ b → cond b None (plain_on (machine_state given None wanted false) word wanted) ≡ None → bytes_eq word (45 ∷ 45 ∷ []) ≡ false → long_of word ≡ None → ⊥
    short false b e d l = plain_fails options plains c h given wanted position false word words f sp k s e (met_plain c h idle position word d l (undashed word b).2) p
    short true b e d l = let n = dashed word b d l in
        short_bad options plains c h word n.0 f (settled_skip c h given s) sw n.1 (rw (d, l, n.1) at (turn_parts c h idle position false word p.turn).0)

    long : (l : Option (WordText × Option WordText)) → long_of word ≡ l → by_form options (machine_state given None wanted false) word l ≡ None → bytes_eq word (45 ∷ 45 ∷ []) ≡ false → ⊥
    long (Some q) l e d = named_fails options plains c h given wanted word q.0 q.1 (option_at options q.0) f s refl e (rw (fault_long c h idle position word q d l) at (turn_parts c h idle position false word p.turn).0)
    long None l e d = short (is_dashed word) refl e d l

    go : (b : Bool) → bytes_eq word (45 ∷ 45 ∷ []) ≡ b → cond b (Some (machine_state given None wanted true)) (by_form options (machine_state given None wanted false) word (option_in word)) ≡ None → ⊥
    go true d e = cc
    go false d e = long (option_in word) (long_is word) e d
untrailed_fails options plains c h given (Some name) wanted position word words f sw sp k s e p = go (is_dashed word) refl e
  where
    skip : h.skip ≡ 0
    skip = ap (λ (k : Held). k.skip) s.is

    go : (b : Bool) → is_dashed word ≡ b → cond b None (after_put (machine_state given (Some name) wanted false) (put name word given)) ≡ None → ⊥
    go true d e = dashed_fails options plains c h name word position words f sw sp (awaiting_bad plains c h given name s) (ap (λ (k : Held). k.skip) s.is) d p
    go false d e =
        let x = undashed word d in
        let none = put_fails name word given (after_none (machine_state given (Some name) wanted false) (put name word given) e) in
        let met = met_plain c h (option name) position word x.0 x.1 x.2 ∙ ap (plain_word c (option name) word) s.is ∙ plain_value c (map row_for given) name word s.known in
        doomed_at options plains c words _ (record (quiet (map row_for given)) { pending = Some (name, word ∷ []) }) idle position false f sp (λ q. option_bad name word given none (rw s.known at q)) refl (inr refl)
        (walked_is c h (option name) position false word _ met) p.rest

pub step_fails : (options : List Opt) (plains : List WordText) (c : List Rule) (w : Walk) (s : State) (word : WordText) (words : List WordText) → Fits options plains c → IsSpelled word → AllByRecursion IsSpelled words → MachineStands plains c w s
    → step options s word ≡ None → PassesTurn c w word words → ⊥
step_fails options plains c w s word words f sw sp st e p =
    let P : Walk → Type 0 = λ v. PassesTurn c v word words in
    at st.held s.given s.awaiting s.wanted st.position s.trailing st.wanted st.holds st.alone e (subst P st.is p)
  where
    at : (h : Held) (given : Given) (awaiting : Option WordText) (wanted : List WordText) (position : ℕ) (trailing : Bool) → Wanted plains wanted position given → HoldsGiven plains c h given awaiting → (trailing ≡ true → awaiting ≡ None)
        → step options (machine_state given awaiting wanted trailing) word ≡ None → PassesTurn c (walk_in h (waiting_for awaiting) position trailing) word words → ⊥
    at h given awaiting wanted position false k hs alone e p = untrailed_fails options plains c h given awaiting wanted position word words f sw sp k hs e p
    at h given None wanted position true k hs alone e p = plain_fails options plains c h given wanted position true word words f sp k hs e refl p
    at h given (Some name) wanted position true k hs alone e p = let bad = alone refl in cc

pub read_fails_at : (options : List Opt) (plains : List WordText) (c : List Rule) (word : WordText) (words : List WordText) (w : Walk) (s : State) → Fits options plains c → IsSpelled word → AllByRecursion IsSpelled words → MachineStands plains c w s
    → ((v : Walk) (u : State) → MachineStands plains c v u → words_read_on options u words ≡ None → Passes c v words → ⊥)
    → (o : Option State) → step options s word ≡ o → option_and_then (λ v. words_read_on options v words) o ≡ None → PassesTurn c w word words → ⊥
read_fails_at options plains c word words w s f sw sp st onward None se e p = step_fails options plains c w s word words f sw sp st se p
read_fails_at options plains c word words w s f sw sp st onward (Some u) se e p = onward (walked c [] w word) u (moves options plains c w s u word f st se).stands e p.rest

-- words of which one is refused do not pass
pub read_fails : (options : List Opt) (plains : List WordText) (c : List Rule) (words : List WordText) (w : Walk) (s : State) → Fits options plains c → AllByRecursion IsSpelled words → MachineStands plains c w s → words_read_on options s words ≡ None → Passes c w words → ⊥
read_fails options plains c [] w s f sp st e p = cc
read_fails options plains c (word ∷ words) w s f sp st e p =
    read_fails_at options plains c word words w s f sp.0 sp.1 st (λ v u st' e' p'. read_fails options plains c words v u f sp.1 st' e' p') (step options s word) refl e (passes_turn c w word words p)
