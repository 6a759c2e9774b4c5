-- The machine gives what the words say.
use Rattle.std.proofs.Common.{◌≡◌, List, [], ◌∷◌, ◌++◌, Option, Some, None, Bool, true, false, cond, refl, ap, sym, ◌∙◌, map, option_map, append-nil}
use Rattle.std.proofs.lemmas.List.{append_assoc}
use Rattle.std.proofs.lemmas.List.Folds.{list_any-append}
use Rattle.std.specs.Prelude.{codes, option_and_then, ◌||◌, ◌&&◌, not}
use Rattle.std.specs.Str.{bytes_eq}
use Rattle.clap_words.specs.Reading.{takes_value, WordText, Opt, Item, Given, has, is_empty, option_at, is_dashes, is_dashed, option_in, before, value_says, flag_says, option_says, word_says, plain_item, words_say, give, labelled, is_sound, sound, given_by}
use Rattle.clap_words.proofs.Machine.{State, machine_state, put, after_put, plain_on, valued, flagged, named_option, by_form, untrailed, step, words_read_on, ended, machine_gives}
use Rattle.clap_words.proofs.Small.{bytes_eq_sym}

-- what is left to give, put one by one
abbrev put_all : Given → Given → Option Given
put_all given [] = Some given
put_all given (g ∷ more) = option_and_then (λ h. put_all h more) (put g.0 g.1 given)

put_before : (name v : WordText) (given : Given) (more : Option Given) → option_and_then (put_all given) (give name v more) ≡ option_and_then (λ h. option_and_then (put_all h) more) (put name v given)
put_before name v given (Some more) = refl
put_before name v given None = go (put name v given)
  where
    go : (o : Option Given) → ◌≡◌ {A = Option Given} None (option_and_then (λ h. None) o)
    go None = refl
    go (Some h) = refl

-- what the machine gives from a state on
abbrev finish : List Opt → State → List WordText → Option Given
finish options s words = option_and_then ended (words_read_on options s words)

finish_step : (options : List Opt) (word : WordText) (words : List WordText) (s : State) → finish options s (word ∷ words) ≡ option_and_then (λ t. finish options t words) (step options s word)
finish_step options word words s = go (step options s word)
  where
    go : (o : Option State) → option_and_then ended (option_and_then (λ t. words_read_on options t words) o) ≡ option_and_then (λ t. finish options t words) o
    go None = refl
    go (Some t) = refl

-- after one more was put
finish_put : (options : List Opt) (words : List WordText) (name v : WordText) (given : Given) (wanted : List WordText) (trailing : Bool) (more : Option Given)
    → ((h : Given) → finish options (machine_state h None wanted trailing) words ≡ option_and_then (put_all h) more)
    → option_and_then (λ t. finish options t words) (option_map (λ h. machine_state h None wanted trailing) (put name v given)) ≡ option_and_then (put_all given) (give name v more)
finish_put options words name v given wanted trailing more onward = go (put name v given) ∙ sym (put_before name v given more)
  where
    go : (o : Option Given) → option_and_then (λ t. finish options t words) (option_map (λ h. machine_state h None wanted trailing) o) ≡ option_and_then (λ h. option_and_then (put_all h) more) o
    go None = refl
    go (Some h) = onward h

-- after `--`
finish_trailing : (options : List Opt) (words : List WordText) (given : Given) (wanted : List WordText)
    → finish options (machine_state given None wanted true) words ≡ option_and_then (put_all given) (labelled (map plain_item words) wanted)
finish_trailing options [] given [] = refl
finish_trailing options [] given (name ∷ wanted) = refl
finish_trailing options (word ∷ words) given [] = refl
finish_trailing options (word ∷ words) given (name ∷ wanted) =
    finish_step options word words (machine_state given None (name ∷ wanted) true)
    ∙ finish_put options words name word given wanted true (labelled (map plain_item words) wanted) (λ h. finish_trailing options words h wanted)

-- what the words behind say, by its names
abbrev behind : List WordText → Option (List Item) → Option Given
behind wanted = option_and_then (λ items. labelled items wanted)

behind_option : (name v : WordText) (wanted : List WordText) (o : Option (List Item)) → behind wanted (before (Some name, v) o) ≡ give name v (behind wanted o)
behind_option name v wanted None = refl
behind_option name v wanted (Some items) = refl

behind_plain : (name v : WordText) (wanted : List WordText) (o : Option (List Item)) → behind (name ∷ wanted) (before (None, v) o) ≡ give name v (behind wanted o)
behind_plain name v wanted None = refl
behind_plain name v wanted (Some items) = refl

behind_surplus : (v : WordText) (o : Option (List Item)) → behind [] (before (None, v) o) ≡ None
behind_surplus v None = refl
behind_surplus v (Some items) = refl

-- what the words behind a state give, whichever option waits
abbrev ReadsWords : List Opt → List WordText → Type 0
ReadsWords options words = (given : Given) (awaiting : Option WordText) (wanted : List WordText)
    → finish options (machine_state given awaiting wanted false) words ≡ option_and_then (put_all given) (behind wanted (words_say options words awaiting))

reads_option : (options : List Opt) (words : List WordText) (given : Given) (wanted : List WordText) (name v : WordText) → ReadsWords options words
    → option_and_then (λ t. finish options t words) (option_map (λ h. machine_state h None wanted false) (put name v given)) ≡ option_and_then (put_all given) (behind wanted (before (Some name, v) (words_say options words None)))
reads_option options words given wanted name v onward =
    finish_put options words name v given wanted false (behind wanted (words_say options words None)) (λ h. onward h None wanted)
    ∙ ap (option_and_then (put_all given)) (sym (behind_option name v wanted (words_say options words None)))

reads_named : (options : List Opt) (words : List WordText) (given : Given) (wanted : List WordText) (o : Option Opt) (v : Option WordText) → ReadsWords options words
    → option_and_then (λ t. finish options t words) (named_option (machine_state given None wanted false) o v) ≡ option_and_then (put_all given) (behind wanted (option_says (words_say options words) o v))
reads_named options words given wanted None v onward = refl
reads_named options words given wanted (Some o) v onward = go (takes_value o.kind) v
  where
    go : (b : Bool) (v : Option WordText) → option_and_then (λ t. finish options t words) (cond b (valued (machine_state given None wanted false) o.name v) (flagged (machine_state given None wanted false) o.name v))
        ≡ option_and_then (put_all given) (behind wanted (cond b (value_says (words_say options words) o.name v) (flag_says (words_say options words) o.name v)))
    go true (Some x) = reads_option options words given wanted o.name x onward
    go true None = onward given (Some o.name) wanted
    go false (Some x) = refl
    go false None = reads_option options words given wanted o.name (codes "true") onward

reads_plain : (options : List Opt) (words : List WordText) (given : Given) (wanted : List WordText) (word : WordText) → ReadsWords options words
    → option_and_then (λ t. finish options t words) (plain_on (machine_state given None wanted false) word wanted) ≡ option_and_then (put_all given) (behind wanted (before (None, word) (words_say options words None)))
reads_plain options words given [] word onward = ap (option_and_then (put_all given)) (sym (behind_surplus word (words_say options words None)))
reads_plain options words given (name ∷ wanted) word onward =
    finish_put options words name word given wanted false (behind wanted (words_say options words None)) (λ h. onward h None wanted)
    ∙ ap (option_and_then (put_all given)) (sym (behind_plain name word wanted (words_say options words None)))

reads_form : (options : List Opt) (words : List WordText) (given : Given) (wanted : List WordText) (word : WordText) (p : Option (WordText × Option WordText)) → ReadsWords options words
    → option_and_then (λ t. finish options t words) (by_form options (machine_state given None wanted false) word p) ≡ option_and_then (put_all given) (behind wanted (word_says options (words_say options words) word p))
reads_form options words given wanted word (Some p) onward = reads_named options words given wanted (option_at options p.0) p.1 onward
reads_form options words given wanted word None onward = go (is_dashed word)
  where
    go : (b : Bool) → option_and_then (λ t. finish options t words) (cond b None (plain_on (machine_state given None wanted false) word wanted))
        ≡ option_and_then (put_all given) (behind wanted (cond b None (before (None, word) (words_say options words None))))
    go true = refl
    go false = reads_plain options words given wanted word onward

reads_word : (options : List Opt) (word : WordText) (words : List WordText) (given : Given) (awaiting : Option WordText) (wanted : List WordText) → ReadsWords options words
    → option_and_then (λ t. finish options t words) (untrailed options (machine_state given awaiting wanted false) word awaiting) ≡ option_and_then (put_all given) (behind wanted (words_say options (word ∷ words) awaiting))
reads_word options word words given (Some name) wanted onward = go (is_dashed word)
  where
    go : (b : Bool) → option_and_then (λ t. finish options t words) (cond b None (after_put (machine_state given (Some name) wanted false) (put name word given)))
        ≡ option_and_then (put_all given) (behind wanted (cond b None (before (Some name, word) (words_say options words None))))
    go true = refl
    go false = reads_option options words given wanted name word onward
reads_word options word words given None wanted onward = go (is_dashes word)
  where
    go : (b : Bool) → option_and_then (λ t. finish options t words) (cond b (Some (machine_state given None wanted true)) (by_form options (machine_state given None wanted false) word (option_in word)))
        ≡ option_and_then (put_all given) (behind wanted (cond b (Some (map plain_item words)) (word_says options (words_say options words) word (option_in word))))
    go true = finish_trailing options words given wanted
    go false = reads_form options words given wanted word (option_in word) onward

reads : (options : List Opt) (words : List WordText) → ReadsWords options words
reads options [] given None [] = refl
reads options [] given None (name ∷ wanted) = refl
reads options [] given (Some name) wanted = refl
reads options (word ∷ words) given awaiting wanted =
    finish_step options word words (machine_state given awaiting wanted false)
    ∙ reads_word options word words given awaiting wanted (λ g a w. reads options words g a w)

-- ---- what can be put one by one is sound

-- each name is new beside what was given
abbrev are_new : Given → Given → Bool
are_new given [] = true
are_new given (g ∷ more) = not (has g.0 given) && are_new given more

abbrev sound_after : Given → Given → Option Given
sound_after given more = cond (are_new given more && is_sound more) (Some (given ++ more)) None

new_beside : (given : Given) (name v : WordText) (more : Given) → are_new (given ++ (name, v) ∷ []) more ≡ (are_new given more && not (has name more))
new_beside given name v [] = refl
new_beside given name v (g ∷ more) =
    rw (list_any-append (λ e. bytes_eq e.0 g.0) given ((name, v) ∷ []), bytes_eq_sym name g.0, new_beside given name v more)
    (bools (has g.0 given) (bytes_eq g.0 name) (are_new given more) (has name more))
  where
    bools : (a b c d : Bool) → (not (a || (b || false)) && (c && not d)) ≡ ((not a && c) && not (b || d))
    bools true b c d = refl
    bools false true true d = refl
    bools false true false d = refl
    bools false false c d = refl

put_sound : (given more : Given) → put_all given more ≡ sound_after given more
put_sound given [] = ap Some (sym (append-nil given))
put_sound given (g ∷ more) = go (has g.0 given) (is_empty g.1) (put_sound (given ++ g ∷ []) more)
  where
    shown : (a b c d : Bool) (x : Option Given) → cond ((a && not b) && c) x None ≡ cond (a && (not b && c)) x None
    shown true b c d x = refl
    shown false b c d x = refl

    refused : (a b : Bool) (x : Option Given) → None ≡ cond (a && (b && false)) x None
    refused true true x = refl
    refused true false x = refl
    refused false b x = refl

    go : (a b : Bool) → put_all (given ++ g ∷ []) more ≡ sound_after (given ++ g ∷ []) more
        → option_and_then (λ h. put_all h more) (cond a None (cond b None (Some (given ++ g ∷ []))))
        ≡ cond ((not a && are_new given more) && (not (has g.0 more) && (not b && is_sound more))) (Some (given ++ g ∷ more)) None
    go true b onward = refl
    go false true onward = refused (are_new given more) (not (has g.0 more)) (Some (given ++ g ∷ more))
    go false false onward = onward
        ∙ ap (λ b. cond (b && is_sound more) (Some ((given ++ g ∷ []) ++ more)) None) (new_beside given g.0 g.1 more)
        ∙ shown (are_new given more) (has g.0 more) (is_sound more) true (Some ((given ++ g ∷ []) ++ more))
        ∙ ap (λ l. cond (are_new given more && (not (has g.0 more) && is_sound more)) (Some l) None) (append_assoc given (g ∷ []) more)

all_new : (more : Given) → are_new [] more ≡ true
all_new [] = refl
all_new (g ∷ more) = all_new more

put_from_start : (more : Given) → put_all [] more ≡ sound more
put_from_start more = put_sound [] more ∙ ap (λ b. cond (b && is_sound more) (Some more) None) (all_new more)

-- the machine gives what the words give
pub machine_reads : (options : List Opt) (wanted words : List WordText) → machine_gives options wanted words ≡ given_by options wanted words
machine_reads options wanted words = reads options words [] None wanted ∙ go (behind wanted (words_say options words None))
  where
    go : (o : Option Given) → option_and_then (put_all []) o ≡ option_and_then sound o
    go None = refl
    go (Some more) = put_from_start more
