-- Reading a script line by line.
use Rattle.std.proofs.Common.{◌≡◌, ℕ, ◌+◌, List, [], ◌∷◌, ◌++◌, ◌≢◌, length, Result, Ok, Err, Option, get_or, drop, refl, sym, ap, ◌∙◌, add-one, arith}
use Rattle.std.specs.List.{AllByRecursion}
use Rattle.std.proofs.lemmas.List.{drop-drop, get_or-drop}
use Rattle.std.proofs.lemmas.Grind.{common_steps}
use Rattle.ras_bits.specs.Results.{◌>>=◌}
use Rattle.fault_script.specs.declared.lines.TheConstants.{MOST_LINES}
use Rattle.fault_script.specs.Fits.{FitsRam, AreReadable}
use Rattle.fault_script.specs.Words.{parts, is_line_feed, lines_of}
use Rattle.fault_script.specs.Script.{first_lines, lines_in, line_of, at_line, with_line}
use Rattle.fault_script.specs.declared.lines.Why.{Why}
use Rattle.fault_script.specs.declared.lines.ScriptLine.{ScriptLine}
use Rattle.fault_script.specs.declared.lines.ScriptError.{ScriptError}
use Rattle.fault_script.specs.declared.lines.ScriptError.TheVariants as errors

-- what the lines behind the first `number` give, where those gave `taken`
abbrev pub read_on : ℕ → ℕ → List ScriptLine → List (List ℕ) → Result (List ScriptLine) ScriptError
read_on ram number taken [] = Ok taken
read_on ram number taken (line ∷ lines) =
    at_line (number + 1) (line_of ram (length taken) line)
    >>= λ read. read_on ram (number + 1) (with_line taken read) lines

line_more : (ram k : ℕ) (line : List ℕ) (rest : List (List ℕ)) (r : Result (List ScriptLine) ScriptError)
    → ((r >>= λ before. at_line (k + 1) (line_of ram (length before) line) >>= λ read. Ok (with_line before read)) >>= λ taken. read_on ram (k + 1) taken rest)
    ≡ (r >>= λ taken. read_on ram k taken (line ∷ rest))
line_more ram k line rest (Err e) = refl
line_more ram k line rest (Ok before) = one (at_line (k + 1) (line_of ram (length before) line)) where
  one : (q : Result (Option ScriptLine) ScriptError)
      → ((q >>= λ read. Ok (with_line before read)) >>= λ taken. read_on ram (k + 1) taken rest) ≡ (q >>= λ read. read_on ram (k + 1) (with_line before read) rest)
  one (Err e) = refl
  one (Ok read) = refl

no_more : (r : Result (List ScriptLine) ScriptError) → (r >>= λ taken. Ok taken) ≡ r
no_more (Err e) = refl
no_more (Ok taken) = refl

behind_first : (ram : ℕ) (lines rest : List (List ℕ)) (k : ℕ) → drop k lines ≡ rest
    → (first_lines ram lines k >>= λ taken. read_on ram k taken rest) ≡ first_lines ram lines (k + length rest)
behind_first ram lines [] k behind =
    let all : k ≡ k + 0 = omega arith in
    no_more (first_lines ram lines k) ∙ ap (first_lines ram lines) all
behind_first ram lines (line ∷ rest) k behind =
    let all : k + 1 + length rest ≡ k + length (line ∷ rest) = omega arith in
    let still : k ≡ k + 0 = omega arith in
    let here : get_or lines k [] ≡ line = ap (λ (n : ℕ). get_or lines n []) still ∙ sym (get_or-drop k lines 0 []) ∙ ap (λ (xs : List (List ℕ)). get_or xs 0 []) behind in
    let next : drop (k + 1) lines ≡ rest = sym (drop-drop 1 k lines) ∙ ap (drop 1) behind in
    sym (line_more ram k line rest (first_lines ram lines k))
    ∙ ap (λ (l : List ℕ). (first_lines ram lines k >>= λ before. at_line (k + 1) (line_of ram (length before) l) >>= λ read. Ok (with_line before read)) >>= λ taken. read_on ram (k + 1) taken rest) (sym here)
    ∙ ap (λ (n : ℕ). first_lines ram lines n >>= λ taken. read_on ram (k + 1) taken rest) (sym (add-one k))
    ∙ behind_first ram lines rest (k + 1) next
    ∙ ap (first_lines ram lines) all

-- reading line by line is reading all of them
pub all_read : (ram : ℕ) (text : List ℕ) → read_on ram 0 [] (lines_of text) ≡ lines_in ram text
all_read ram text =
    let all : 0 + length (lines_of text) ≡ length (lines_of text) = omega arith in
    behind_first ram (lines_of text) (lines_of text) 0 refl ∙ ap (first_lines ram (lines_of text)) all

pub at_end : (ram number : ℕ) (taken : List ScriptLine) (rest : List ℕ) → length rest ≡ 0 → read_on ram number taken (lines_of rest) ≡ Ok taken
at_end ram number taken [] h = refl
at_end ram number taken (b ∷ bs) h = absurd (omega arith)

pub at_line_read : (ram number : ℕ) (taken : List ScriptLine) (rest line behind : List ℕ) (r : Result (Option ScriptLine) Why)
    → parts is_line_feed rest ≡ line ∷ parts is_line_feed behind → r ≡ line_of ram (length taken) line
    → read_on ram number taken (lines_of rest) ≡ (at_line (number + 1) r >>= λ read. read_on ram (number + 1) (with_line taken read) (lines_of behind))
at_line_read ram number taken rest line behind r h e = rw (h, e) refl

pub at_fault : (ram number : ℕ) (taken : List ScriptLine) (rest line behind : List ℕ) (acted : ℕ) (refusal : Why)
    → parts is_line_feed rest ≡ line ∷ parts is_line_feed behind → acted ≡ length taken → Err refusal ≡ line_of ram acted line
    → read_on ram number taken (lines_of rest) ≡ Err (errors.Refused (number + 1) refusal)
at_fault ram number taken rest line behind acted refusal h same e =
    at_line_read ram number taken rest line behind (Err refusal) h (rw same at e)

pub fits_more : (ram : ℕ) (xs : List ScriptLine) (x : ScriptLine) → AreReadable ram xs → length xs ≢ MOST_LINES → FitsRam ram x → AreReadable ram (xs ++ x ∷ [])
fits_more ram xs x all few h = (grind (arith, common_steps), more xs all.1) where
  more : (ys : List ScriptLine) → AllByRecursion (FitsRam ram) ys → AllByRecursion (FitsRam ram) (ys ++ x ∷ [])
  more [] all = (h, tt)
  more (y ∷ ys) all = (all.0, more ys all.1)
