-- The same reading as `given_by`, as a machine that goes from word to word, as clap does.
use Rattle.std.proofs.Common.{List, [], ◌∷◌, ◌++◌, Option, Some, None, Bool, true, false, cond, option_map}
use Rattle.std.specs.Prelude.{codes, option_and_then}
use Rattle.clap_words.specs.Reading.{takes_value, WordText, Opt, Given, has, is_empty, option_at, is_dashes, is_dashed, option_in}

-- where a reading stands between two words
pub record State : Type 0 where
  pub given : Given
  -- the option whose value is the next word
  pub awaiting : Option WordText
  -- the plain words that are still wanted
  pub wanted : List WordText
  -- after the word `--`
  pub trailing : Bool

abbrev pub machine_state : Given → Option WordText → List WordText → Bool → State
machine_state given awaiting wanted trailing = record { given = given; awaiting = awaiting; wanted = wanted; trailing = trailing }

-- one more option or plain word: it must be new, and its value not empty
abbrev pub put : WordText → WordText → Given → Option Given
put name value given = cond (has name given) None (cond (is_empty value) None (Some (given ++ (name, value) ∷ [])))

abbrev pub after_put : State → Option Given → Option State
after_put s = option_map (λ g. record { given = g; awaiting = None; wanted = s.wanted; trailing = s.trailing })

abbrev pub plain_on : State → WordText → List WordText → Option State
plain_on s word [] = None
plain_on s word (name ∷ rest) = after_put (record { given = s.given; awaiting = None; wanted = rest; trailing = s.trailing }) (put name word s.given)

abbrev pub valued : State → WordText → Option WordText → Option State
valued s name (Some value) = after_put s (put name value s.given)
valued s name None = Some (record { given = s.given; awaiting = Some name; wanted = s.wanted; trailing = s.trailing })

abbrev pub flagged : State → WordText → Option WordText → Option State
flagged s name (Some value) = None
flagged s name None = after_put s (put name (codes "true") s.given)

abbrev pub named_option : State → Option Opt → Option WordText → Option State
named_option s None value = None
named_option s (Some o) value = cond (takes_value o.kind) (valued s o.name value) (flagged s o.name value)

abbrev pub by_form : List Opt → State → WordText → Option (WordText × Option WordText) → Option State
by_form options s word (Some p) = named_option s (option_at options p.0) p.1
by_form options s word None = cond (is_dashed word) None (plain_on s word s.wanted)

abbrev pub untrailed : List Opt → State → WordText → Option WordText → Option State
untrailed options s word (Some name) = cond (is_dashed word) None (after_put s (put name word s.given))
untrailed options s word None = cond (is_dashes word)
    (Some (record { given = s.given; awaiting = None; wanted = s.wanted; trailing = true }))
    (by_form options s word (option_in word))

abbrev pub step : List Opt → State → WordText → Option State
step options s word = cond s.trailing (plain_on s word s.wanted) (untrailed options s word s.awaiting)

abbrev pub words_read_on : List Opt → State → List WordText → Option State
words_read_on options s [] = Some s
words_read_on options s (word ∷ words) = option_and_then (λ t. words_read_on options t words) (step options s word)

-- at the end no option waits for its value, and no plain word is missing
abbrev pub given_at_end : Option WordText → List WordText → Given → Option Given
given_at_end None [] given = Some given
given_at_end awaiting wanted given = None

abbrev pub start : List WordText → State
start wanted = record { given = []; awaiting = None; wanted = wanted; trailing = false }

abbrev pub ended : State → Option Given
ended s = given_at_end s.awaiting s.wanted s.given

abbrev pub machine_gives : List Opt → List WordText → List WordText → Option Given
machine_gives options wanted words = option_and_then (λ s. given_at_end s.awaiting s.wanted s.given) (words_read_on options (start wanted) words)
