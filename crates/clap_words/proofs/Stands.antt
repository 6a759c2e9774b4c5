-- How the walk of clap stands for a reading.
use Rattle.std.proofs.Common.{arith, ◌<◌, ◌≡◌, ℕ, ◌+◌, ◌++◌, length, List, [], ◌∷◌, Option, Some, None, true, false, refl, ap, sym, ◌∙◌, map, option_map, subst, ◌⊎◌, fold}
use Rattle.std.proofs.lemmas.List.{append_assoc, length-append}
use Rattle.std.proofs.lemmas.List.Folds.{list_any-append}
use Rattle.std.specs.List.{AllByRecursion}
use Rattle.std.specs.Str.{bytes_eq}
use Rattle.clap.specs.Lexer.{usize_max}
use Rattle.clap.specs.Walk.{Rule, Row, Held, Walk, arg_by_id, arg_by_long, arg_by_short, arg_by_index, walked, used, settled, reacted}
use Rattle.clap.specs.Simple.{filled}
use Rattle.clap.specs.Faults.{settle_fault, turn_fault, walk_fault}
use Rattle.clap_words.specs.TableApp.{option_rule}
use Rattle.clap_words.specs.Reading.{takes_value, WordText, Opt, Given, has, option_at}
use Rattle.clap_words.proofs.Rows.{rule_for, row_for, plain_at, Puts, has_put, has_new}
use Rattle.clap_words.proofs.Turns.{waiting_for, quiet, shape_on, walk_in}
use Rattle.clap_words.proofs.Machine.{State}

-- no plain word has the name
abbrev pub Apart : WordText → List WordText → Type 0
Apart name plains = AllByRecursion (λ n. bytes_eq name n ≡ false) plains

-- the plain word has this position among the rules
pub record IsPlainAt (c : List Rule) (position : ℕ) (name : WordText) : Type 0 where
  pub index : arg_by_index c position ≡ Some (plain_at position name)
  pub id : arg_by_id c name ≡ Some (plain_at position name)

-- the rules are those of the options and the plain words, whose names differ
pub record Fits (options : List Opt) (plains : List WordText) (c : List Rule) : Type 0 where
  pub long : (name : WordText) → arg_by_long c name ≡ option_map rule_for (option_at options name)
  pub id : (name : WordText) (o : Opt) → option_at options name ≡ Some o → (takes_value o.kind) ≡ true → arg_by_id c o.name ≡ Some (filled (option_rule o.name))
  pub plain : (done : List WordText) (name : WordText) (rest : List WordText) → plains ≡ done ++ name ∷ rest → IsPlainAt c (length done + 1) name
  pub index : (i : ℕ) → (arg_by_index c i ≡ None) ⊎ ((name : WordText) × (arg_by_index c i ≡ Some (plain_at i name)))
  pub over : arg_by_index c (length plains + 1) ≡ None
  pub few : length plains < usize_max
  pub short : (x : ℕ) → arg_by_short c x ≡ None
  pub apart : (name : WordText) (o : Opt) → option_at options name ≡ Some o → Apart o.name plains
  pub distinct : (done : List WordText) (name : WordText) (rest : List WordText) → plains ≡ done ++ name ∷ rest → Apart name rest

-- what is held, with no fault to come of it
pub record IsSettled (c : List Rule) (h : Held) (given : Given) : Type 0 where
  pub fault : settle_fault c false h ≡ []
  pub is : settled c h ≡ quiet (map row_for given)

pub record IsAwaiting (plains : List WordText) (c : List Rule) (h : Held) (given : Given) (name : WordText) : Type 0 where
  pub is : h ≡ record (quiet (map row_for given)) { pending = Some (name, []) }
  pub known : arg_by_id c name ≡ Some (filled (option_rule name))
  pub apart : Apart name plains

abbrev pub HoldsGiven : List WordText → List Rule → Held → Given → Option WordText → Type 0
HoldsGiven plains c h given None = IsSettled c h given
HoldsGiven plains c h given (Some name) = IsAwaiting plains c h given name

-- the plain words that are wanted are the last ones; the others were given
pub record Wanted (plains wanted : List WordText) (position : ℕ) (given : Given) : Type 0 where
  pub done : List WordText
  pub is : plains ≡ done ++ wanted
  pub position_is : position ≡ length done + 1
  pub were : AllByRecursion (λ n. has n given ≡ true) done
  pub are : AllByRecursion (λ n. has n given ≡ false) wanted

pub record MachineStands (plains : List WordText) (c : List Rule) (w : Walk) (s : State) : Type 0 where
  pub held : Held
  pub position : ℕ
  pub is : w ≡ walk_in held (waiting_for s.awaiting) position s.trailing
  pub wanted : Wanted plains s.wanted position s.given
  pub holds : HoldsGiven plains c held s.given s.awaiting
  pub alone : s.trailing ≡ true → s.awaiting ≡ None

pub record Moves (plains : List WordText) (c : List Rule) (w : Walk) (word : WordText) (u : State) : Type 0 where
  pub fault : turn_fault (shape_on c) [] w word ≡ []
  pub stands : MachineStands plains c (walked c [] w word) u

pub record Reaches (plains : List WordText) (c : List Rule) (w : Walk) (words : List WordText) (t : State) : Type 0 where
  pub fault : walk_fault (shape_on c) [] w words ≡ []
  pub stands : MachineStands plains c (fold (walked c []) w words) t

pub rows_settled : (c : List Rule) (h : Held) (given : Given) → IsSettled c h given → (settled c h).rows ≡ map row_for given
rows_settled c h given s = ap (λ (k : Held). k.rows) s.is

-- what is held after a use, from what was settled
pub reacted_quiet : (c : List Rule) (a : Rule) (vs : List WordText) (h : Held) (rows : List Row) → settled c h ≡ quiet rows → reacted c a vs h ≡ quiet (used a vs rows)
reacted_quiet c a vs h rows e = ap (λ (k : Held). record k { rows = used a vs k.rows; pending = None }) e

pub quiet_settled : (c : List Rule) (h : Held) (given : Given) → h ≡ quiet (map row_for given) → IsSettled c h given
quiet_settled c h given e = let P : Held → Type 0 = λ k. IsSettled c k given in subst P (sym e) (record { fault = refl; is = refl })

-- the position of a word that is wanted is one of theirs
pub position_below : (plains : List WordText) (position : ℕ) (name : WordText) (rest : List WordText) (given : Given) → Wanted plains (name ∷ rest) position given → length plains < usize_max → position < usize_max
position_below plains position name rest given k few =
    let e = ap length k.is ∙ length-append k.done (name ∷ rest) in
    let p = k.position_is in
    omega arith

were_put : (id v : WordText) (names : List WordText) (given g : Given) → Puts id v given g → AllByRecursion (λ n. has n given ≡ true) names → AllByRecursion (λ n. has n g ≡ true) names
were_put id v [] given g p w = tt
were_put id v (n ∷ names) given g p w = (has_put id v n given g p w.0, were_put id v names given g p w.1)

are_put : (id v : WordText) (names : List WordText) (given g : Given) → Apart id names → Puts id v given g → AllByRecursion (λ n. has n given ≡ false) names → AllByRecursion (λ n. has n g ≡ false) names
are_put id v [] given g a p w = tt
are_put id v (n ∷ names) given g a p w =
    (ap (has n) p.is ∙ list_any-append (λ e. bytes_eq e.0 n) given ((id, v) ∷ []) ∙ rw (w.0, a.0) refl, are_put id v names given g a.1 p w.1)

apart_last : (id : WordText) (done rest plains : List WordText) → plains ≡ done ++ rest → Apart id plains → Apart id rest
apart_last id done rest plains e a = let P : List WordText → Type 0 = λ l. Apart id l in go done (subst P e a)
  where
    go : (done : List WordText) → Apart id (done ++ rest) → Apart id rest
    go [] a = a
    go (n ∷ names) a = go names a.1

-- an option that is put changes nothing of what is wanted
pub wanted_put : (plains : List WordText) (position : ℕ) (id v : WordText) (wanted : List WordText) (given g : Given) → Apart id plains → Wanted plains wanted position given → Puts id v given g → Wanted plains wanted position g
wanted_put plains position id v wanted given g a w p = record {
  done = w.done;
  is = w.is;
  position_is = w.position_is;
  were = were_put id v w.done given g p w.were;
  are = are_put id v wanted given g (apart_last id w.done wanted plains w.is a) p w.are;
}

were_more : (names : List WordText) (name : WordText) (g : Given) → AllByRecursion (λ n. has n g ≡ true) names → has name g ≡ true → AllByRecursion (λ n. has n g ≡ true) (names ++ name ∷ [])
were_more [] name g w h = (h, tt)
were_more (n ∷ names) name g w h = (w.0, were_more names name g w.1 h)

-- the first plain word that is wanted is put
pub plain_put : (plains : List WordText) (position : ℕ) (name v : WordText) (rest : List WordText) (given g : Given) → Apart name rest → Wanted plains (name ∷ rest) position given → Puts name v given g → Wanted plains rest (position + 1) g
plain_put plains position name v rest given g a w p = record {
  done = w.done ++ name ∷ [];
  is = w.is ∙ sym (append_assoc w.done (name ∷ []) rest);
  position_is = ap (λ n. n + 1) w.position_is ∙ ap (λ n. n + 1) (sym (length-append w.done (name ∷ [])));
  were = were_more w.done name g (were_put name v w.done given g p w.were) (has_new name v given g p);
  are = are_put name v rest given g a p w.are.1;
}
