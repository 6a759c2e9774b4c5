-- The text of a script's lines is read as them.
use Rattle.std.proofs.Common.{◌≡◌, ℕ, ◌+◌, ◌%◌, ◌^◌, ◌<◌, ◌≤◌, lit≤, lit<, Bool, true, false, not, cond, ◌==◌, ◌&&◌, nat_le, List, [], ◌∷◌, ◌++◌, length, Option, Some, None, Result, Ok, Err, refl, ap, sym, ◌∙◌, arith, subst, decimal, codes, append_assoc, length-append}
use Rattle.std.specs.Prelude.{IfOk}
use Rattle.std.specs.List.{AllByRecursion, list_all}
use Rattle.std.proofs.lemmas.List.{append-nil}
use Rattle.std.proofs.lemmas.Grind.{common_steps}
use Rattle.ras_bits.specs.Map.{word_address, is_ram}
use Rattle.ras_bits.specs.MapLaws.{word_at_address, address_is_ram, ram_to}
use Rattle.ras_bits.specs.Results.{◌>>=◌}
use Rattle.ras_bits.specs.declared.map.TheConstants.{LAST_STEP}
use Rattle.ras_numbers.specs.Numbers.{number_of, address_text, hex_text}
use Rattle.ras_numbers.proofs.ReadBack.{IsDigitByte, spells_decimal, spells_hex, digit_bytes, number_of_decimal, number_of_address}
use Rattle.fault_script.specs.Words.{words_of, lines_of, without_return}
use Rattle.fault_script.specs.Fields.{Field, Address, Bit, Bank, Record, ClassName, Delay, Value, Fields, number_or, number_up_to, is_word_address, address_of, delay_of, class_text, class_of, field_text}
use Rattle.fault_script.specs.Commands.{command_name, command_fields, command_of, command_of_act, fields_of_act}
use Rattle.fault_script.specs.Script.{act_said, acting_line, is_script_byte, is_idle, as_some, at_line, with_line, line_of, lines_in}
use Rattle.fault_script.specs.Writing.{fields_text, line_text, script_text}
use Rattle.fault_script.specs.declared.commands.Command.{Command}
use Rattle.fault_script.specs.declared.commands.Command.TheVariants as command
use Rattle.poison_mem.specs.declared.event.Class.{Class}
use Rattle.poison_mem.specs.declared.event.Class.TheVariants.{Corrected, Deferred, Critical}
use Rattle.std.specs.List.Sorted.{IsNonDecreasingBy}
use Rattle.fault_script.specs.Steps.{step_of_line, InRisingSteps, GivesScript}
use Rattle.fault_script.specs.Fits.{FitsRamAct, FitsRam, AreReadable, IsScriptFor}
use Rattle.fault_script.specs.ReadBack.{IsThese, IsReadAs}
use Rattle.fault_script.specs.declared.lines.TheConstants.{MOST_LINES}
use Rattle.fault_script.specs.declared.lines.Act.{Act}
use Rattle.fault_script.specs.declared.lines.Act.TheVariants as act
use Rattle.fault_script.specs.declared.lines.Why.{Why}
use Rattle.fault_script.specs.declared.lines.Why.TheVariants as why
use Rattle.fault_script.specs.declared.lines.ScriptLine.{ScriptLine}
use Rattle.fault_script.specs.declared.lines.ScriptError.{ScriptError}
use Rattle.fault_script.specs.declared.lines.ScriptError.TheVariants as errors
use Rattle.fault_script.proofs.ReadingLemmas.{all_read, read_on}
use Rattle.fault_script.proofs.SortLemmas.{equal, sorted_again}
use Rattle.fault_script.proofs.JoinLemmas.{each_too, IsPlain, IsWord, joined_words, words_joined, line_first, kept_whole, all_readable, joined_written}

digit_plain : (d : ℕ) → IsDigitByte d → IsPlain d
digit_plain d h = (omega (arith, h.0), omega (arith, h.1))

decimal_word : (n : ℕ) → n < 2 ^ 64 → IsWord (decimal n)
decimal_word n h =
    let s = spells_decimal n h in
    record { some = s.some; plain = each_too IsDigitByte IsPlain digit_plain (decimal n) (digit_bytes 10 (decimal n) s.digits s.spelled) }

address_word : (n : ℕ) → n < 2 ^ 64 → IsWord (address_text n)
unfolding address_text
address_word n h =
    let s = spells_hex 15 n h in
    record { some = omega arith; plain = ((lit≤ tt, lit≤ tt), ((lit≤ tt, lit≤ tt), each_too IsDigitByte IsPlain digit_plain (hex_text 16 n) (digit_bytes 16 (hex_text 16 n) s.digits s.spelled))) }

within_some : (refusal : Why) (limit n : ℕ) (r : Option ℕ) → r ≡ Some n → n ≤ limit
    → (number_or r >>= λ m. cond (nat_le m limit) (Ok m) (Err refusal)) ≡ Ok n
within_some refusal limit n r e h = rw e (kept (nat_le n limit) (grind (arith, common_steps))) where
  kept : (t : Bool) → t ≡ true → cond t (Ok n) (Err refusal) ≡ Ok n
  kept t e = rw e refl

within_decimal : (refusal : Why) (limit n : ℕ) → n ≤ limit → limit < 2 ^ 64 → number_up_to refusal limit (decimal n) ≡ Ok n
unfolding number_up_to
within_decimal refusal limit n h bound = within_some refusal limit n (number_of (decimal n)) (number_of_decimal n (omega arith)) h

chosen : {X : Type 0} (t : Bool) (x y : X) → t ≡ true → cond t x y ≡ x
chosen true x y e = refl
chosen false x y e = absurd cc

read_number : {X : Type 0} (n : ℕ) (r : Option ℕ) (f : ℕ → Result X Why) → r ≡ Some n → (number_or r >>= f) ≡ f n
read_number n r f e = rw e refl

address_read : (ram_words n : ℕ) → n < 2 ^ 64 → is_word_address ram_words n ≡ true → address_of ram_words (address_text n) ≡ Ok n
unfolding address_of
address_read ram_words n h word =
    read_number n (number_of (address_text n)) _ (number_of_address n h)
    ∙ chosen (is_word_address ram_words n) (Ok n) (Err why.Address) word

both : (a b : Bool) → a ≡ true → b ≡ true → (a && b) ≡ true
both true true p q = refl
both true false p q = absurd cc
both false b p q = absurd cc

address_is_word_address : (ram_words w : ℕ) → w < ram_words → is_word_address ram_words (word_address w) ≡ true
address_is_word_address ram_words w h = both _ _ (equal (word_address w % 8) 0 (omega arith)) (address_is_ram ram_words w h)

delay_word : (n : ℕ) → 1 ≤ n → n ≤ 65535 → delay_of (decimal n) ≡ Ok n
unfolding delay_of
delay_word n some few =
    read_number n (number_of (decimal n)) _ (number_of_decimal n (omega arith))
    ∙ chosen (nat_le 1 n && nat_le n 65535) (Ok n) (Err why.Delay) (grind (arith, common_steps))

class_read : (c : Class) → class_of (class_text c) ≡ Ok c
unfolding class_of
class_read Corrected = refl
class_read Deferred = refl
class_read Critical = refl

-- ---- the words of a line

abbrev is_plain : ℕ → Bool
is_plain b = nat_le 33 b && nat_le b 126

letters : (xs : List ℕ) → list_all is_plain xs ≡ true → AllByRecursion IsPlain xs
letters [] e = tt
letters (x ∷ xs) e = by_test (is_plain x) refl (letters xs) e where
  plain : is_plain x ≡ true → IsPlain x
  plain h = grind (arith, common_steps)

  by_test : (t : Bool) → is_plain x ≡ t → (list_all is_plain xs ≡ true → AllByRecursion IsPlain xs)
      → (t && list_all is_plain xs) ≡ true → IsPlain x × AllByRecursion IsPlain xs
  by_test true h rest q = (plain h, rest q)
  by_test false h rest q = absurd cc

name_word : (c : Command) → IsWord (command_name c)
name_word command.Flip = record { some = lit< tt; plain = letters (codes "flip") refl }
name_word command.Scrub = record { some = lit< tt; plain = letters (codes "scrub") refl }
name_word command.Inject = record { some = lit< tt; plain = letters (codes "inject") refl }
name_word command.Control = record { some = lit< tt; plain = letters (codes "control") refl }

class_word : (c : Class) → IsWord (class_text c)
class_word Corrected = record { some = lit< tt; plain = letters (codes "ce") refl }
class_word Deferred = record { some = lit< tt; plain = letters (codes "ued") refl }
class_word Critical = record { some = lit< tt; plain = letters (codes "uec") refl }

-- each number of the fields is one of 64 bits
record AreNumbers (held : Fields) : Type 0 where
  address : held.address < 2 ^ 64
  bit : held.bit < 2 ^ 64
  bank : held.bank < 2 ^ 64
  rec : held.rec < 2 ^ 64
  delay : held.delay < 2 ^ 64
  value : held.value < 2 ^ 64

field_word : (field : Field) (held : Fields) → AreNumbers held → IsWord (field_text field held)
field_word Address held h = address_word held.address h.address
field_word Bit held h = decimal_word held.bit h.bit
field_word Bank held h = decimal_word held.bank h.bank
field_word Record held h = decimal_word held.rec h.rec
field_word ClassName held h = class_word held.class
field_word Delay held h = decimal_word held.delay h.delay
field_word Value held h = decimal_word held.value h.value

-- the words of fields
abbrev pub field_words : List Field → Fields → List (List ℕ)
field_words [] held = []
field_words (field ∷ fields) held = field_text field held ∷ field_words fields held

fields_are : (fields : List Field) (held : Fields) → AreNumbers held → AllByRecursion IsWord (field_words fields held)
fields_are [] held h = tt
fields_are (field ∷ fields) held h = (field_word field held h, fields_are fields held h)

-- the words of a line
abbrev pub words_for : ℕ → Act → List (List ℕ)
words_for step a = command_name (command_of_act a) ∷ decimal step ∷ field_words (command_fields (command_of_act a)) (fields_of_act a)

fields_joined : (before : List ℕ) (fields : List Field) (held : Fields)
    → before ++ fields_text fields held ≡ joined_words (before ∷ field_words fields held)
fields_joined before [] held = append-nil before
fields_joined before (field ∷ fields) held = ap (λ xs. before ++ 32 ∷ xs) (fields_joined (field_text field held) fields held)

command_joined : (name step rest : List ℕ) (fields : List Field) (held : Fields)
    → name ++ codes " " ++ step ++ fields_text fields held ++ codes "\n" ++ rest ≡ joined_words (name ∷ step ∷ field_words fields held) ++ 10 ∷ rest
command_joined name step rest fields held =
    ap (λ xs. xs ++ fields_text fields held ++ codes "\n" ++ rest) (append_assoc name (32 ∷ []) step)
    ∙ ap (λ xs. xs ++ codes "\n" ++ rest) (append_assoc name (32 ∷ step) (fields_text fields held) ∙ ap (λ xs. name ++ 32 ∷ xs) (fields_joined step fields held))
    ∙ append_assoc (joined_words (name ∷ step ∷ field_words fields held)) (10 ∷ []) rest

text_is_words : (line : ScriptLine) (rest : List ℕ) → line_text line ++ rest ≡ joined_words (words_for line.step line.act) ++ 10 ∷ rest
text_is_words line rest =
    let c = command_of_act line.act in
    command_joined (command_name c) (decimal line.step) rest (command_fields c) (fields_of_act line.act)

ram_address : (ram_words n : ℕ) → ram_words < 2 ^ 32 → is_word_address ram_words n ≡ true → n < 2 ^ 64
ram_address ram_words n small h = omega (arith, ram_to ram_words n (right (n % 8 == 0) (is_ram ram_words n) h)) where
  right : (a b : Bool) → (a && b) ≡ true → b ≡ true
  right true b h = h
  right false b h = absurd cc

numbers_of_act : (ram_words : ℕ) (a : Act) → ram_words < 2 ^ 32 → FitsRamAct ram_words a → AreNumbers (fields_of_act a)
numbers_of_act ram_words (act.Flip w bit) small s =
    record { address = omega (arith, small, s.0); bit = omega (arith, s.1); bank = lit< tt; rec = lit< tt; delay = lit< tt; value = lit< tt }
numbers_of_act ram_words (act.Scrub w) small s =
    record { address = omega (arith, small, s); bit = lit< tt; bank = lit< tt; rec = lit< tt; delay = lit< tt; value = lit< tt }
numbers_of_act ram_words (act.Inject bank rec class delay addr) small s =
    record { address = ram_address ram_words addr small s.4; bit = lit< tt; bank = omega (arith, s.0); rec = omega (arith, s.1); delay = omega (arith, s.3); value = lit< tt }
numbers_of_act ram_words (act.Control bank rec value) small s =
    record { address = lit< tt; bit = lit< tt; bank = omega (arith, s.0); rec = omega (arith, s.1); delay = lit< tt; value = omega (arith, s.2) }

words_are : (ram_words step : ℕ) (a : Act) → ram_words < 2 ^ 32 → step ≤ LAST_STEP → FitsRamAct ram_words a → AllByRecursion IsWord (words_for step a)
words_are ram_words step a small h s =
    (name_word (command_of_act a), (decimal_word step (omega arith), fields_are (command_fields (command_of_act a)) (fields_of_act a) (numbers_of_act ram_words a small s)))

not_full : (acted : ℕ) → acted < MOST_LINES → (acted == MOST_LINES) ≡ false
not_full acted h = grind (arith, common_steps)

pub act_read : (ram_words step acted : ℕ) (a : Act) → ram_words < 2 ^ 32 → step ≤ LAST_STEP → acted < MOST_LINES → FitsRamAct ram_words a
    → acting_line ram_words acted (words_for step a) ≡ Ok (record { step = step; act = a })
unfolding acting_line command_of act_said
act_read ram_words step acted (act.Scrub w) small h few s =
    let address : address_of ram_words (address_text (word_address w)) ≡ Ok (word_address w) = address_read ram_words (word_address w) (omega arith) (address_is_word_address ram_words w s) in
    rw (not_full acted few, within_decimal why.Step LAST_STEP step h (omega arith), address)
    (ap (λ n. Ok (record { step = step; act = act.Scrub n })) (word_at_address w))
act_read ram_words step acted (act.Flip w bit) small h few s =
    let address : address_of ram_words (address_text (word_address w)) ≡ Ok (word_address w) = address_read ram_words (word_address w) (omega arith) (address_is_word_address ram_words w s.0) in
    rw (not_full acted few, within_decimal why.Step LAST_STEP step h (omega arith), address, within_decimal why.Bit 71 bit s.1 (omega arith))
    (ap (λ n. Ok (record { step = step; act = act.Flip n bit })) (word_at_address w))
act_read ram_words step acted (act.Inject bank rec class delay addr) small h few s =
    rw (
      not_full acted few,
      within_decimal why.Step LAST_STEP step h (omega arith),
      within_decimal why.Bank 1 bank s.0 (omega arith),
      within_decimal why.Bank 1 rec s.1 (omega arith),
      class_read class,
      delay_word delay s.2 s.3,
      address_read ram_words addr (ram_address ram_words addr small s.4) s.4,
    )
    refl
act_read ram_words step acted (act.Control bank rec value) small h few s =
    rw (
      not_full acted few,
      within_decimal why.Step LAST_STEP step h (omega arith),
      within_decimal why.Bank 1 bank s.0 (omega arith),
      within_decimal why.Bank 1 rec s.1 (omega arith),
      within_decimal why.Number 255 value s.2 (omega arith),
    )
    refl

trimmed_line : (ram_words acted : ℕ) (text : List ℕ) (ws : List (List ℕ)) (line : ScriptLine)
    → without_return text ≡ text → list_all is_script_byte text ≡ true → words_of text ≡ ws → is_idle ws ≡ false → acting_line ram_words acted ws ≡ Ok line
    → line_of ram_words acted text ≡ Ok (Some line)
unfolding line_of
trimmed_line ram_words acted text ws line whole readable words idle acting =
    ap (λ t. cond (not (list_all is_script_byte t)) (Err why.Bytes) (cond (is_idle (words_of t)) (Ok None) (as_some (acting_line ram_words acted (words_of t))))) whole
    ∙ ap (λ b. cond (not b) (Err why.Bytes) (cond (is_idle (words_of text)) (Ok None) (as_some (acting_line ram_words acted (words_of text))))) readable
    ∙ ap (λ vs. cond (is_idle vs) (Ok None) (as_some (acting_line ram_words acted vs))) words
    ∙ ap (λ b. cond b (Ok None) (as_some (acting_line ram_words acted ws))) idle
    ∙ ap as_some acting

never_idle : (step : ℕ) (a : Act) → is_idle (words_for step a) ≡ false
never_idle step (act.Flip w bit) = refl
never_idle step (act.Scrub w) = refl
never_idle step (act.Inject bank rec class delay addr) = refl
never_idle step (act.Control bank rec value) = refl

line_read : (ram_words acted : ℕ) (line : ScriptLine) → ram_words < 2 ^ 32 → acted < MOST_LINES → FitsRam ram_words line
    → line_of ram_words acted (joined_words (words_for line.step line.act)) ≡ Ok (Some line)
line_read ram_words acted line small few fits =
    let ws = words_are ram_words line.step line.act small fits.0 fits.1 in
    let written = joined_written (words_for line.step line.act) ws in
    trimmed_line ram_words acted (joined_words (words_for line.step line.act)) (words_for line.step line.act) line
    (kept_whole (joined_words (words_for line.step line.act)) written)
    (all_readable (joined_words (words_for line.step line.act)) written)
    (words_joined (words_for line.step line.act) ws)
    (never_idle line.step line.act)
    (act_read ram_words line.step acted line.act small fits.0 few fits.1)

reads_on : (ram_words number : ℕ) (taken lines : List ScriptLine) → ram_words < 2 ^ 32 → length taken + length lines ≤ MOST_LINES → AllByRecursion (FitsRam ram_words) lines
    → read_on ram_words number taken (lines_of (script_text lines)) ≡ Ok (taken ++ lines)
reads_on ram_words number taken [] small few fits = ap Ok (sym (append-nil taken))
reads_on ram_words number taken (line ∷ lines) small few fits =
    let body = joined_words (words_for line.step line.act) in
    let written = joined_written (words_for line.step line.act) (words_are ram_words line.step line.act small fits.0.0 fits.0.1) in
    ap (λ text. read_on ram_words number taken (lines_of text)) (text_is_words line (script_text lines))
    ∙ ap (read_on ram_words number taken) (line_first body (script_text lines) written)
    ∙ ap (λ r. at_line (number + 1) r >>= λ read. read_on ram_words (number + 1) (with_line taken read) (lines_of (script_text lines)))
    (line_read ram_words (length taken) line small (omega arith) fits.0)
    ∙ reads_on ram_words (number + 1) (taken ++ line ∷ []) lines small (omega (arith, length-append taken (line ∷ []))) fits.1
    ∙ ap Ok (append_assoc taken (line ∷ []) lines)

pub lines_read_back : (ram_words : ℕ) (lines : List ScriptLine) → ram_words < 2 ^ 32 → AreReadable ram_words lines → lines_in ram_words (script_text lines) ≡ Ok lines
lines_read_back ram_words lines small readable = sym (all_read ram_words (script_text lines)) ∙ reads_on ram_words 0 [] lines small (omega (arith, readable.0)) readable.1

ok_same : (xs ys : List ScriptLine) (read : Result (List ScriptLine) ScriptError) → read ≡ Ok xs → read ≡ Ok ys → xs ≡ ys
ok_same xs ys read p q = cc

these : (lines : List ScriptLine) (read answer : Result (List ScriptLine) ScriptError) → read ≡ Ok lines → IsNonDecreasingBy step_of_line lines → GivesScript answer read → IsThese lines answer
these lines read (Err errors.NoMemory) e rising given = tt
these lines read (Err (errors.Refused line refusal)) e rising given = absurd (clash (sym given ∙ e)) where
  clash : Err (errors.Refused line refusal) ≡ Ok lines → ⊥
  clash q = cc
these lines read (Ok others) e rising given =
    let same : given.0 ≡ lines = ok_same given.0 lines read given.1 e in
    sorted_again lines lines others (record { rising = rising; same = λ step. refl }) (subst (λ (xs : List ScriptLine). InRisingSteps xs others) same given.2)

pub written_read : (ram_words : ℕ) (lines : List ScriptLine) → ram_words < 2 ^ 32 → IsScriptFor ram_words lines → IsReadAs ram_words (script_text lines) lines
written_read ram_words lines small script =
    let accepted = lines_read_back ram_words lines small (script.few, script.fit) in
    record {
      accepted = accepted;
      answered = λ answer given. these lines (lines_in ram_words (script_text lines)) answer accepted script.rising given;
    }

pub text_read : {X E : Type 0} (items : X → List ℕ) (lines : List ScriptLine) (text : Result X E) → IfOk text (λ v. items v ≡ script_text lines)
    → IfOk text (λ v. (ram_words : ℕ) → ram_words < 2 ^ 32 → IsScriptFor ram_words lines → IsReadAs ram_words (items v) lines)
text_read items lines (Err e) is = tt
text_read items lines (Ok v) is = λ ram_words small script.
    subst (λ (bytes : List ℕ). IsReadAs ram_words bytes lines) (sym is) (written_read ram_words lines small script)
