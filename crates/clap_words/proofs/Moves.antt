-- Words that are read pass the walk of clap.
use Rattle.std.proofs.Common.{◌≡◌, ℕ, ◌+◌, List, [], ◌∷◌, Option, Some, None, Bool, true, false, cond, refl, ap, sym, ◌∙◌, map, option_map, subst}
use Rattle.std.specs.Prelude.{codes, option_and_then}
use Rattle.std.specs.Str.{bytes_eq}
use Rattle.clap.specs.Lexer.{long_of, short_of}
use Rattle.clap.specs.Walk.{Rule, Held, Walk, idle, option, arg_by_id, arg_by_long, walked, settled, reacted, word_met, plain_word, value, trailing as trailing_step}
use Rattle.clap.specs.Simple.{filled}
use Rattle.clap.specs.Faults.{word_fault, walk_fault}
use Rattle.clap_words.specs.TableApp.{option_rule, flag_rule}
use Rattle.clap_words.specs.Reading.{takes_value, WordText, Opt, Given, option_at, is_dashed, option_in}
use Rattle.clap_words.proofs.Forms.{long_is, undashed}
use Rattle.clap_words.proofs.Small.{some_is}
use Rattle.clap_words.proofs.Rows.{rule_for, row_for, has_row_is, option_rows, flag_rows, Puts, after_put_is}
use Rattle.clap_words.proofs.Turns.{waiting_for, quiet, shape_on, walk_in, met_long, fault_long, met_plain, fault_plain, walked_is, turn_is, valued_held, long_valued, fault_valued, long_waits, fault_waits, long_flag, fault_flag, plain_value, pending_fault, pending_rows, after_plain, plain_fault, plain_pending, plain_rows}
use Rattle.clap_words.proofs.Stands.{Fits, position_below, Apart, IsPlainAt, plain_put, IsSettled, IsAwaiting, HoldsGiven, Wanted, MachineStands, Moves, Reaches, rows_settled, reacted_quiet, quiet_settled, wanted_put}
use Rattle.clap_words.proofs.Machine.{State, after_put, by_form, flagged, named_option, plain_on, put, words_read_on, machine_state, step, untrailed, valued}

pub moves_valued : (plains : List WordText) (c : List Rule) (h : Held) (given g : Given) (wanted : List WordText) (position : ℕ) (name v word rest : WordText) → Apart name plains → Wanted plains wanted position given → IsSettled c h given → Puts name v given g
    → bytes_eq word (45 ∷ 45 ∷ []) ≡ false → long_of word ≡ Some (rest, Some v) → arg_by_long c rest ≡ Some (filled (option_rule name))
    → Moves plains c (walk_in h idle position false) word (machine_state g None wanted false)
moves_valued plains c h given g wanted position name v word rest apart k s p d l a =
    let met = met_long c h idle position word (rest, Some v) d l ∙ long_valued c h idle name v word rest a in
    let none = fault_long c h idle position word (rest, Some v) d l ∙ fault_valued c h name v rest (map row_for given) a s.fault (rows_settled c h given s) (has_row_is name given ∙ p.new) p.full in
    record {
      fault = turn_is c h idle position false word _ [] met none;
      stands = record {
        held = valued_held c name v h;
        position = position;
        is = walked_is c h idle position false word _ met;
        wanted = wanted_put plains position name v wanted given g apart k p;
        holds = quiet_settled c _ g (reacted_quiet c (filled (option_rule name)) (v ∷ []) h (map row_for given) s.is ∙ ap quiet (option_rows name v given p.new ∙ ap (map row_for) (sym p.is)));
        alone = λ e. refl;
      };
    }

pub moves_flag : (plains : List WordText) (c : List Rule) (h : Held) (given g : Given) (wanted : List WordText) (position : ℕ) (name word rest : WordText) → Apart name plains → Wanted plains wanted position given → IsSettled c h given → Puts name (codes "true") given g
    → bytes_eq word (45 ∷ 45 ∷ []) ≡ false → long_of word ≡ Some (rest, None) → arg_by_long c rest ≡ Some (filled (flag_rule name))
    → Moves plains c (walk_in h idle position false) word (machine_state g None wanted false)
moves_flag plains c h given g wanted position name word rest apart k s p d l a =
    let met = met_long c h idle position word (rest, None) d l ∙ long_flag c h idle name word rest a in
    let none = fault_long c h idle position word (rest, None) d l ∙ fault_flag c h name rest (map row_for given) a s.fault (rows_settled c h given s) (has_row_is name given ∙ p.new) in
    record {
      fault = turn_is c h idle position false word _ [] met none;
      stands = record {
        held = reacted c (filled (flag_rule name)) [] h;
        position = position;
        is = walked_is c h idle position false word _ met;
        wanted = wanted_put plains position name (codes "true") wanted given g apart k p;
        holds = quiet_settled c _ g (reacted_quiet c (filled (flag_rule name)) [] h (map row_for given) s.is ∙ ap quiet (flag_rows name given p.new ∙ ap (map row_for) (sym p.is)));
        alone = λ e. refl;
      };
    }

pub moves_waits : (plains : List WordText) (c : List Rule) (h : Held) (given : Given) (wanted : List WordText) (position : ℕ) (name word rest : WordText) → Apart name plains → Wanted plains wanted position given → IsSettled c h given
    → bytes_eq word (45 ∷ 45 ∷ []) ≡ false → long_of word ≡ Some (rest, None) → arg_by_long c rest ≡ Some (filled (option_rule name)) → arg_by_id c name ≡ Some (filled (option_rule name))
    → Moves plains c (walk_in h idle position false) word (machine_state given (Some name) wanted false)
moves_waits plains c h given wanted position name word rest apart k s d l a known =
    let met = met_long c h idle position word (rest, None) d l ∙ long_waits c h idle name word rest a in
    let none = fault_long c h idle position word (rest, None) d l ∙ fault_waits c h name rest a s.fault in
    record {
      fault = turn_is c h idle position false word _ [] met none;
      stands = record {
        held = record (settled c h) { pending = Some (name, []) };
        position = position;
        is = walked_is c h idle position false word _ met;
        wanted = k;
        holds = record { is = ap (λ (k : Held). record k { pending = Some (name, []) }) s.is; known = known; apart = apart };
        alone = λ e. cc;
      };
    }

pub moves_value : (plains : List WordText) (c : List Rule) (h : Held) (given g : Given) (wanted : List WordText) (position : ℕ) (name word : WordText) → Wanted plains wanted position given → IsAwaiting plains c h given name → Puts name word given g
    → bytes_eq word (45 ∷ 45 ∷ []) ≡ false → long_of word ≡ None → short_of word ≡ None
    → Moves plains c (walk_in h (option name) position false) word (machine_state g None wanted false)
moves_value plains c h given g wanted position name word k s p d l n =
    let met = met_plain c h (option name) position word d l n ∙ ap (plain_word c (option name) word) s.is ∙ plain_value c (map row_for given) name word s.known in
    let none = fault_plain c h (option name) word d l n in
    record {
      fault = turn_is c h (option name) position false word _ [] met none;
      stands = record {
        held = record (quiet (map row_for given)) { pending = Some (name, word ∷ []) };
        position = position;
        is = walked_is c h (option name) position false word _ met;
        wanted = wanted_put plains position name word wanted given g s.apart k p;
        holds = record {
          fault = pending_fault c (map row_for given) name word s.known (has_row_is name given ∙ p.new) p.full;
          is = pending_rows c given name word s.known p.new ∙ ap (λ l. quiet (map row_for l)) (sym p.is);
        };
        alone = λ e. refl;
      };
    }

pub moves_plain_word : (options : List Opt) (plains : List WordText) (c : List Rule) (h : Held) (given g : Given) (name : WordText) (rest : List WordText) (position : ℕ) (trailing : Bool) (word : WordText) → Fits options plains c
    → Wanted plains (name ∷ rest) position given → IsSettled c h given → Puts name word given g
    → word_met c [] trailing idle position word h ≡ (h, value) → word_fault (shape_on c) [] trailing idle word h ≡ []
    → Moves plains c (walk_in h idle position trailing) word (machine_state g None rest trailing)
moves_plain_word options plains c h given g name rest position trailing word f k s p met none =
    let P : ℕ → Type 0 = λ i. IsPlainAt c i name in
    let at : IsPlainAt c position name = subst P (sym k.position_is) (f.plain k.done name rest k.is) in
    record {
      fault = turn_is c h idle position trailing word _ [] met none ∙ plain_fault c h position name at.index s.fault;
      stands = record {
        held = record (settled c h) { pending = Some (name, word ∷ []) };
        position = position + 1;
        is = walked_is c h idle position trailing word _ met ∙ after_plain c h position name trailing word (position_below plains position name rest given k f.few) at.index;
        wanted = plain_put plains position name word rest given g (f.distinct k.done name rest k.is) k p;
        holds = let e = ap (λ (k : Held). record k { pending = Some (name, word ∷ []) }) s.is in
            let Q : Held → Type 0 = λ k. IsSettled c k g in subst Q (sym e) (record {
              fault = plain_pending c (map row_for given) position name word at.id (has_row_is name given ∙ p.new) p.full;
              is = plain_rows c given position name word at.id p.new ∙ ap (λ l. quiet (map row_for l)) (sym p.is);
            });
        alone = λ e. refl;
      };
    }

-- the word `--`
pub moves_dashes : (plains : List WordText) (c : List Rule) (h : Held) (given : Given) (wanted : List WordText) (position : ℕ) (word : WordText) → Wanted plains wanted position given → IsSettled c h given → bytes_eq word (45 ∷ 45 ∷ []) ≡ true
    → Moves plains c (walk_in h idle position false) word (machine_state given None wanted true)
moves_dashes plains c h given wanted position word k s d =
    let met : word_met c [] false idle position word h ≡ (h, trailing_step position) = rw d refl in
    let none : word_fault (shape_on c) [] false idle word h ≡ [] = rw d refl in
    record {
      fault = turn_is c h idle position false word _ [] met none;
      stands = record { held = h; position = position; is = walked_is c h idle position false word _ met; wanted = k; holds = s; alone = λ e. refl };
    }

-- a plain word, by what is wanted
pub moves_plain : (options : List Opt) (plains : List WordText) (c : List Rule) (h : Held) (given : Given) (wanted : List WordText) (position : ℕ) (trailing : Bool) (word : WordText) (u : State) → Fits options plains c → Wanted plains wanted position given → IsSettled c h given
    → plain_on (machine_state given None wanted trailing) word wanted ≡ Some u
    → word_met c [] trailing idle position word h ≡ (h, value) → word_fault (shape_on c) [] trailing idle word h ≡ []
    → Moves plains c (walk_in h idle position trailing) word u
moves_plain options plains c h given [] position trailing word u f k s e met none = cc
moves_plain options plains c h given (name ∷ rest) position trailing word u f k s e met none =
    let a = after_put_is (machine_state given None (name ∷ rest) trailing) (machine_state given None rest trailing) u name word e in
    let P : State → Type 0 = λ v. Moves plains c (walk_in h idle position trailing) word v in
    subst P (sym a.is) (moves_plain_word options plains c h given a.g name rest position trailing word f k s a.puts met none)

-- the forms of a word
pub moves_named : (options : List Opt) (plains : List WordText) (c : List Rule) (h : Held) (given : Given) (wanted : List WordText) (position : ℕ) (word rest : WordText) (v : Option WordText) (u : State) (o : Option Opt) → Fits options plains c → Wanted plains wanted position given → IsSettled c h given
    → bytes_eq word (45 ∷ 45 ∷ []) ≡ false → long_of word ≡ Some (rest, v) → option_at options rest ≡ o
    → named_option (machine_state given None wanted false) o v ≡ Some u
    → Moves plains c (walk_in h idle position false) word u
moves_named options plains c h given wanted position word rest v u None f k s d l oe e = cc
moves_named options plains c h given wanted position word rest v u (Some o) f k s d l oe e = go (takes_value o.kind) refl v l e
  where
    rule : (b : Bool) → b ≡ (takes_value o.kind) → arg_by_long c rest ≡ Some (filled (cond b (option_rule o.name) (flag_rule o.name)))
    rule b eb = f.long rest ∙ ap (option_map rule_for) oe ∙ ap (λ t. Some (filled (cond t (option_rule o.name) (flag_rule o.name)))) (sym eb)

    go : (b : Bool) → b ≡ (takes_value o.kind) → (v : Option WordText) → long_of word ≡ Some (rest, v)
        → cond b (valued (machine_state given None wanted false) o.name v) (flagged (machine_state given None wanted false) o.name v) ≡ Some u
        → Moves plains c (walk_in h idle position false) word u
    go true eb (Some x) l e =
        let a = after_put_is (machine_state given None wanted false) (machine_state given None wanted false) u o.name x e in
        let P : State → Type 0 = λ t. Moves plains c (walk_in h idle position false) word t in
        subst P (sym a.is) (moves_valued plains c h given a.g wanted position o.name x word rest (f.apart rest o oe) k s a.puts d l (rule true eb))
    go true eb None l e =
        let P : State → Type 0 = λ t. Moves plains c (walk_in h idle position false) word t in
        subst P (some_is _ u e) (moves_waits plains c h given wanted position o.name word rest (f.apart rest o oe) k s d l (rule true eb) (f.id rest o oe (sym eb)))
    go false eb (Some x) l e = cc
    go false eb None l e =
        let a = after_put_is (machine_state given None wanted false) (machine_state given None wanted false) u o.name (codes "true") e in
        let P : State → Type 0 = λ t. Moves plains c (walk_in h idle position false) word t in
        subst P (sym a.is) (moves_flag plains c h given a.g wanted position o.name word rest (f.apart rest o oe) k s a.puts d l (rule false eb))

pub moves_form : (options : List Opt) (plains : List WordText) (c : List Rule) (h : Held) (given : Given) (wanted : List WordText) (position : ℕ) (word : WordText) (u : State) (l : Option (WordText × Option WordText)) → Fits options plains c → Wanted plains wanted position given → IsSettled c h given
    → bytes_eq word (45 ∷ 45 ∷ []) ≡ false → long_of word ≡ l → by_form options (machine_state given None wanted false) word l ≡ Some u
    → Moves plains c (walk_in h idle position false) word u
moves_form options plains c h given wanted position word u (Some p) f k s d l e = moves_named options plains c h given wanted position word p.0 p.1 u (option_at options p.0) f k s d l refl e
moves_form options plains c h given wanted position word u None f k s d l e = go (is_dashed word) refl e
  where
    go : (b : Bool) → is_dashed word ≡ b → cond b None (plain_on (machine_state given None wanted false) word wanted) ≡ Some u
        → Moves plains c (walk_in h idle position false) word u
    go true b e = cc
    go false b e = let n = (undashed word b).2 in
        moves_plain options plains c h given wanted position false word u f k s e (met_plain c h idle position word d l n) (fault_plain c h idle word d l n)

pub moves_untrailed : (options : List Opt) (plains : List WordText) (c : List Rule) (h : Held) (given : Given) (awaiting : Option WordText) (wanted : List WordText) (position : ℕ) (word : WordText) (u : State) → Fits options plains c → Wanted plains wanted position given → HoldsGiven plains c h given awaiting
    → untrailed options (machine_state given awaiting wanted false) word awaiting ≡ Some u
    → Moves plains c (walk_in h (waiting_for awaiting) position false) word u
moves_untrailed options plains c h given None wanted position word u f k s e = go (bytes_eq word (45 ∷ 45 ∷ [])) refl e
  where
    go : (b : Bool) → bytes_eq word (45 ∷ 45 ∷ []) ≡ b → cond b (Some (machine_state given None wanted true)) (by_form options (machine_state given None wanted false) word (option_in word)) ≡ Some u
        → Moves plains c (walk_in h idle position false) word u
    go true d e = let P : State → Type 0 = λ t. Moves plains c (walk_in h idle position false) word t in subst P (some_is _ u e) (moves_dashes plains c h given wanted position word k s d)
    go false d e = moves_form options plains c h given wanted position word u (option_in word) f k s d (long_is word) e
moves_untrailed options plains c h given (Some name) wanted position word u f k s e = go (is_dashed word) refl e
  where
    go : (b : Bool) → is_dashed word ≡ b → cond b None (after_put (machine_state given (Some name) wanted false) (put name word given)) ≡ Some u
        → Moves plains c (walk_in h (option name) position false) word u
    go true d e = cc
    go false d e =
        let x = undashed word d in
        let a = after_put_is (machine_state given (Some name) wanted false) (machine_state given (Some name) wanted false) u name word e in
        let P : State → Type 0 = λ t. Moves plains c (walk_in h (option name) position false) word t in
        subst P (sym a.is) (moves_value plains c h given a.g wanted position name word k s a.puts x.0 x.1 x.2)

pub moves_at : (options : List Opt) (plains : List WordText) (c : List Rule) (h : Held) (given : Given) (awaiting : Option WordText) (wanted : List WordText) (position : ℕ) (trailing : Bool) (word : WordText) (u : State) → Fits options plains c → Wanted plains wanted position given
    → HoldsGiven plains c h given awaiting → (trailing ≡ true → awaiting ≡ None) → step options (machine_state given awaiting wanted trailing) word ≡ Some u
    → Moves plains c (walk_in h (waiting_for awaiting) position trailing) word u
moves_at options plains c h given awaiting wanted position false word u f k s alone e = moves_untrailed options plains c h given awaiting wanted position word u f k s e
moves_at options plains c h given None wanted position true word u f k s alone e = moves_plain options plains c h given wanted position true word u f k s e refl refl
moves_at options plains c h given (Some name) wanted position true word u f k s alone e = let bad = alone refl in cc

-- a word that `step` takes passes, and the walk stands for the next state
pub moves : (options : List Opt) (plains : List WordText) (c : List Rule) (w : Walk) (s u : State) (word : WordText) → Fits options plains c → MachineStands plains c w s → step options s word ≡ Some u → Moves plains c w word u
moves options plains c w s u word f st e =
    let P : Walk → Type 0 = λ v. Moves plains c v word u in
    subst P (sym st.is) (moves_at options plains c st.held s.given s.awaiting s.wanted st.position s.trailing word u f st.wanted st.holds st.alone e)

pub reach_step : (options : List Opt) (plains : List WordText) (c : List Rule) (word : WordText) (words : List WordText) (w : Walk) (s t : State) → Fits options plains c → MachineStands plains c w s
    → ((v : Walk) (u : State) → MachineStands plains c v u → words_read_on options u words ≡ Some t → Reaches plains c v words t)
    → (o : Option State) → step options s word ≡ o → option_and_then (λ v. words_read_on options v words) o ≡ Some t → Reaches plains c w (word ∷ words) t
unfolding walk_fault
reach_step options plains c word words w s t f st onward None se e = cc
reach_step options plains c word words w s t f st onward (Some u) se e =
    let m = moves options plains c w s u word f st se in
    let r = onward (walked c [] w word) u m.stands e in
    record { fault = rw (m.fault, r.fault) refl; stands = r.stands }

-- words that are read pass
pub reaches : (options : List Opt) (plains : List WordText) (c : List Rule) (words : List WordText) (w : Walk) (s t : State) → Fits options plains c → MachineStands plains c w s → words_read_on options s words ≡ Some t → Reaches plains c w words t
unfolding walk_fault
reaches options plains c [] w s t f st e = let P : State → Type 0 = λ v. MachineStands plains c w v in record { fault = refl; stands = subst P (some_is s t e) st }
reaches options plains c (word ∷ words) w s t f st e = reach_step options plains c word words w s t f st (λ v u st' e'. reaches options plains c words v u t f st' e') (step options s word) refl e
