-- One turn of the walk of clap, over any rules.
use Rattle.std.proofs.Common.{◌<◌, ◌≡◌, ℕ, ◌+◌, List, [], ◌∷◌, ◌++◌, Option, Some, None, Bool, false, refl, ap, sym, ◌∙◌, map}
use Rattle.std.proofs.lemmas.List.{map-append}
use Rattle.std.specs.Str.{bytes_eq}
use Rattle.clap.specs.Lexer.{long_of, short_of, usize_max}
use Rattle.clap.specs.Walk.{Rule, Row, Held, Walk, Waiting, idle, option, Step, arg_by_id, arg_by_long, arg_by_index, walked, has_row, settled, reacted, positional, subcommand_met, word_met, long_word, plain_word, after_step, next, value, is_pending}
use Rattle.clap.specs.Simple.{Shape, built, filled}
use Rattle.clap.specs.Kinds.{Kinds, or_else}
use Rattle.clap.specs.Faults.{settle_fault, turn_fault, word_fault, long_fault, step_fault}
use Rattle.clap_words.specs.TableApp.{empty_app, option_rule, flag_rule}
use Rattle.clap_words.specs.Reading.{WordText, Given, has, is_empty}
use Rattle.clap_words.proofs.Small.{min_below, find_none, not_empty, same_bytes, and_false, or_else_nil}
use Rattle.clap_words.proofs.Rows.{row_for, has_row_is, used_new, option_passes, flag_passes, option_rows, plain_at}

-- a command without its words as it is built; others differ from it by their rules alone
abbrev pub shape : Shape
shape = (built empty_app).top

-- what clap waits for, where an option waits for its value or none does
abbrev pub waiting_for : Option WordText → Waiting
waiting_for None = idle
waiting_for (Some name) = option name

-- rows without a value that is not yet settled
abbrev pub quiet : List Row → Held
quiet rows = record { rows = rows; pending = None; skip = 0 }

-- the command with these rules
abbrev pub shape_on : List Rule → Shape
shape_on c = record shape { rules = c }

-- no subcommand is met where there is none
pub no_subcommand : (waiting : Waiting) (word : WordText) → subcommand_met [] waiting word ≡ None
no_subcommand idle word = refl
no_subcommand (option name) word = refl
no_subcommand positional word = refl

-- a walk that no subcommand stopped
abbrev pub walk_in : Held → Waiting → ℕ → Bool → Walk
walk_in h waiting position trailing = record { held = h; waiting = waiting; position = position; is_trailing = trailing; stopped = None }

-- what a word is, where it names an option
pub met_long : (c : List Rule) (h : Held) (waiting : Waiting) (position : ℕ) (word : WordText) (p : WordText × Option WordText) → bytes_eq word (45 ∷ 45 ∷ []) ≡ false
    → long_of word ≡ Some p → word_met c [] false waiting position word h ≡ long_word c waiting word p.0 p.1 h
met_long c h waiting position word p d l = rw (no_subcommand waiting word, d, l) refl

pub fault_long : (c : List Rule) (h : Held) (waiting : Waiting) (position : ℕ) (word : WordText) (p : WordText × Option WordText) → bytes_eq word (45 ∷ 45 ∷ []) ≡ false
    → long_of word ≡ Some p → word_fault (shape_on c) [] false waiting word h ≡ long_fault c false (arg_by_long c p.0) p.1 h
fault_long c h waiting position word p d l = rw (no_subcommand waiting word, d, l) refl

pub met_plain : (c : List Rule) (h : Held) (waiting : Waiting) (position : ℕ) (word : WordText) → bytes_eq word (45 ∷ 45 ∷ []) ≡ false
    → long_of word ≡ None → short_of word ≡ None → word_met c [] false waiting position word h ≡ plain_word c waiting word h
met_plain c h waiting position word d l n = rw (no_subcommand waiting word, d, l, n) refl

pub fault_plain : (c : List Rule) (h : Held) (waiting : Waiting) (word : WordText) → bytes_eq word (45 ∷ 45 ∷ []) ≡ false
    → long_of word ≡ None → short_of word ≡ None → word_fault (shape_on c) [] false waiting word h ≡ []
fault_plain c h waiting word d l n = rw (no_subcommand waiting word, d, l, n) refl

-- a turn, from what the word met
pub walked_is : (c : List Rule) (h : Held) (waiting : Waiting) (position : ℕ) (trailing : Bool) (word : WordText) (met : Held × Step) → word_met c [] trailing waiting position word h ≡ met
    → walked c [] (walk_in h waiting position trailing) word ≡ after_step c word (walk_in h waiting position trailing) met.0 met.1
unfolding walked
walked_is c h waiting position trailing word met e = rw e refl

pub turn_is : (c : List Rule) (h : Held) (waiting : Waiting) (position : ℕ) (trailing : Bool) (word : WordText) (met : Held × Step) (fault : Kinds) → word_met c [] trailing waiting position word h ≡ met
    → word_fault (shape_on c) [] trailing waiting word h ≡ fault
    → turn_fault (shape_on c) [] (walk_in h waiting position trailing) word ≡ or_else fault (step_fault (shape_on c) position met.0 met.1)
turn_is c h waiting position trailing word met fault e f = rw (e, f) refl

-- an option with its value after `=`
abbrev pub valued_held : List Rule → WordText → WordText → Held → Held
valued_held c name v h = reacted c (filled (option_rule name)) (v ∷ []) h

pub long_valued : (c : List Rule) (h : Held) (waiting : Waiting) (name v word rest : WordText) → arg_by_long c rest ≡ Some (filled (option_rule name))
    → long_word c waiting word rest (Some v) h ≡ (valued_held c name v h, next idle)
long_valued c h waiting name v word rest a = rw a refl

pub fault_valued : (c : List Rule) (h : Held) (name v rest : WordText) (rows : List Row) → arg_by_long c rest ≡ Some (filled (option_rule name)) → settle_fault c false h ≡ [] → (settled c h).rows ≡ rows
    → has_row name rows ≡ false → is_empty v ≡ false → long_fault c false (arg_by_long c rest) (Some v) h ≡ []
fault_valued c h name v rest rows a f r n e = rw (a, f, r) (option_passes name v rows n e)

-- an option whose value is to come
pub long_waits : (c : List Rule) (h : Held) (waiting : Waiting) (name word rest : WordText) → arg_by_long c rest ≡ Some (filled (option_rule name))
    → long_word c waiting word rest None h ≡ (record (settled c h) { pending = Some (name, []) }, next (option name))
long_waits c h waiting name word rest a = rw a refl

pub fault_waits : (c : List Rule) (h : Held) (name rest : WordText) → arg_by_long c rest ≡ Some (filled (option_rule name)) → settle_fault c false h ≡ []
    → long_fault c false (arg_by_long c rest) None h ≡ []
fault_waits c h name rest a f = rw (a, f) refl

-- an option without a value
pub long_flag : (c : List Rule) (h : Held) (waiting : Waiting) (name word rest : WordText) → arg_by_long c rest ≡ Some (filled (flag_rule name))
    → long_word c waiting word rest None h ≡ (reacted c (filled (flag_rule name)) [] h, next idle)
long_flag c h waiting name word rest a = rw a refl

pub fault_flag : (c : List Rule) (h : Held) (name rest : WordText) (rows : List Row) → arg_by_long c rest ≡ Some (filled (flag_rule name)) → settle_fault c false h ≡ [] → (settled c h).rows ≡ rows
    → has_row name rows ≡ false → long_fault c false (arg_by_long c rest) None h ≡ []
fault_flag c h name rest rows a f r n = rw (a, f, r) (flag_passes name rows n)

-- the value that an option waited for
pub plain_value : (c : List Rule) (rows : List Row) (name word : WordText) → arg_by_id c name ≡ Some (filled (option_rule name))
    → plain_word c (option name) word (record (quiet rows) { pending = Some (name, []) }) ≡ (record (quiet rows) { pending = Some (name, word ∷ []) }, next idle)
plain_value c rows name word a = rw (a, same_bytes name) refl

-- the fault and the rows of an option that has its value
pub pending_fault : (c : List Rule) (rows : List Row) (name word : WordText) → arg_by_id c name ≡ Some (filled (option_rule name)) → has_row name rows ≡ false → is_empty word ≡ false
    → settle_fault c false (record (quiet rows) { pending = Some (name, word ∷ []) }) ≡ []
pending_fault c rows name word a n e = rw a (option_passes name word rows n e)

pub pending_rows : (c : List Rule) (given : Given) (name word : WordText) → arg_by_id c name ≡ Some (filled (option_rule name)) → has name given ≡ false
    → settled c (record (quiet (map row_for given)) { pending = Some (name, word ∷ []) }) ≡ quiet (map row_for (given ++ (name, word) ∷ []))
pending_rows c given name word a n = rw a (ap quiet (option_rows name word given n))

-- a plain word, by its position
pub after_plain : (c : List Rule) (h : Held) (position : ℕ) (name : WordText) (trailing : Bool) (word : WordText) → position < usize_max → arg_by_index c position ≡ Some (plain_at position name)
    → after_step c word (walk_in h idle position trailing) h value ≡ walk_in (record (settled c h) { pending = Some (name, word ∷ []) }) idle (position + 1) trailing
after_plain c h position name trailing word few i = rw (i, and_false (is_pending (plain_at position name) h.pending), find_none trailing, min_below position usize_max few) refl

pub plain_fault : (c : List Rule) (h : Held) (position : ℕ) (name : WordText) → arg_by_index c position ≡ Some (plain_at position name) → settle_fault c false h ≡ [] → step_fault (shape_on c) position h value ≡ []
plain_fault c h position name i f = rw (i, and_false (is_pending (plain_at position name) h.pending), f) refl

pub plain_pending : (c : List Rule) (rows : List Row) (position : ℕ) (name word : WordText) → arg_by_id c name ≡ Some (plain_at position name) → has_row name rows ≡ false → is_empty word ≡ false
    → settle_fault c false (record (quiet rows) { pending = Some (name, word ∷ []) }) ≡ []
plain_pending c rows position name word a n e = rw (a, n, not_empty word e) refl

pub plain_rows : (c : List Rule) (given : Given) (position : ℕ) (name word : WordText) → arg_by_id c name ≡ Some (plain_at position name) → has name given ≡ false
    → settled c (record (quiet (map row_for given)) { pending = Some (name, word ∷ []) }) ≡ quiet (map row_for (given ++ (name, word) ∷ []))
plain_rows c given position name word a n = rw a (ap quiet (used_new name word (map row_for given) (has_row_is name given ∙ n) ∙ sym (map-append row_for given ((name, word) ∷ []))))

-- the two parts of a turn that passes
pub turn_parts : (c : List Rule) (h : Held) (waiting : Waiting) (position : ℕ) (trailing : Bool) (word : WordText) → turn_fault (shape_on c) [] (walk_in h waiting position trailing) word ≡ []
    → (word_fault (shape_on c) [] trailing waiting word h ≡ []) × (step_fault (shape_on c) position (word_met c [] trailing waiting position word h).0 (word_met c [] trailing waiting position word h).1 ≡ [])
turn_parts c h waiting position trailing word e = or_else_nil (word_fault (shape_on c) [] trailing waiting word h) (step_fault (shape_on c) position (word_met c [] trailing waiting position word h).0 (word_met c [] trailing waiting position word h).1) e
