-- Words that are joined by spaces, and lines by line feeds.
use Rattle.std.proofs.Common.{◌≡◌, ◌≢◌, ℕ, suc, zero, ◌-◌, ◌<◌, ◌≤◌, Bool, true, false, List, [], ◌∷◌, ◌++◌, length, get_or, refl, ap, ◌∙◌, arith}
use Rattle.std.specs.List.{AllByRecursion, onto_first, filter, list_all}
use Rattle.std.proofs.lemmas.Grind.{common_steps}
use Rattle.fault_script.specs.Words.{parts, is_blank, is_line_feed, is_word, words_of, lines_of, without_return}
use Rattle.fault_script.specs.Script.{is_script_byte}

-- what each element has, if it follows from what each has
pub each_too : (P Q : ℕ → Type 0) → ((x : ℕ) → P x → Q x) → (xs : List ℕ) → AllByRecursion P xs → AllByRecursion Q xs
each_too P Q f [] all = tt
each_too P Q f (x ∷ xs) all = (f x all.0, each_too P Q f xs all.1)

abbrev pub IsPlain : ℕ → Type 0
IsPlain b = (33 ≤ b) × (b ≤ 126)

pub record IsWord (w : List ℕ) : Type 0 where
  pub some : 0 < length w
  pub plain : AllByRecursion IsPlain w

pub parts_at : (p : ℕ → Bool) (xs : List ℕ) (y : ℕ) (ys : List ℕ) → AllByRecursion (λ x. p x ≡ false) xs → p y ≡ true → parts p (xs ++ y ∷ ys) ≡ xs ∷ parts p ys
parts_at p [] y ys all h = rw h refl
parts_at p (x ∷ xs) y ys all h = rw all.0 (ap (onto_first x) (parts_at p xs y ys all.1 h))

pub parts_one : (p : ℕ → Bool) (x : ℕ) (xs : List ℕ) → AllByRecursion (λ x. p x ≡ false) (x ∷ xs) → parts p (x ∷ xs) ≡ (x ∷ xs) ∷ []
parts_one p x [] all = rw all.0 refl
parts_one p x (y ∷ ys) all = rw all.0 (ap (onto_first x) (parts_one p y ys all.1))

plain_blank : (b : ℕ) → IsPlain b → is_blank b ≡ false
plain_blank b h = grind (arith, common_steps)

no_blanks : (w : List ℕ) → AllByRecursion IsPlain w → AllByRecursion (λ b. is_blank b ≡ false) w
no_blanks w = each_too IsPlain (λ b. is_blank b ≡ false) plain_blank w

abbrev pub joined_words : List (List ℕ) → List ℕ
joined_words [] = []
joined_words (w ∷ []) = w
joined_words (w ∷ v ∷ ws) = w ++ 32 ∷ joined_words (v ∷ ws)

kept_word : (w : List ℕ) (ws : List (List ℕ)) → 0 < length w → filter is_word (w ∷ ws) ≡ w ∷ filter is_word ws
kept_word w ws h = rw (is_one w h) refl where
  is_one : (w : List ℕ) → 0 < length w → is_word w ≡ true
  is_one w h = grind (arith, common_steps)

pub words_joined : (ws : List (List ℕ)) → AllByRecursion IsWord ws → words_of (joined_words ws) ≡ ws
words_joined [] all = refl
words_joined ([] ∷ ws) all = absurd (omega (arith, all.0.some))
words_joined ((b ∷ w) ∷ []) all =
    ap (filter is_word) (parts_one is_blank b w (no_blanks (b ∷ w) all.0.plain)) ∙ kept_word (b ∷ w) [] all.0.some
words_joined ((b ∷ w) ∷ v ∷ ws) all =
    ap (filter is_word) (parts_at is_blank (b ∷ w) 32 (joined_words (v ∷ ws)) (no_blanks (b ∷ w) all.0.plain) refl)
    ∙ kept_word (b ∷ w) (parts is_blank (joined_words (v ∷ ws))) all.0.some
    ∙ ap (λ vs. (b ∷ w) ∷ vs) (words_joined (v ∷ ws) all.1)

-- a byte of a line that was written
abbrev pub IsWritten : ℕ → Type 0
IsWritten b = (32 ≤ b) × (b ≤ 126)

written_append : (xs ys : List ℕ) → AllByRecursion IsWritten xs → AllByRecursion IsWritten ys → AllByRecursion IsWritten (xs ++ ys)
written_append [] ys p q = q
written_append (x ∷ xs) ys p q = (p.0, written_append xs ys p.1 q)

plain_written : (b : ℕ) → IsPlain b → IsWritten b
plain_written b h = (omega (arith, h.0), h.1)

word_written : (w : List ℕ) → AllByRecursion IsPlain w → AllByRecursion IsWritten w
word_written w = each_too IsPlain IsWritten plain_written w

pub joined_written : (ws : List (List ℕ)) → AllByRecursion IsWord ws → AllByRecursion IsWritten (joined_words ws)
joined_written [] all = tt
joined_written (w ∷ []) all = word_written w all.0.plain
joined_written (w ∷ v ∷ ws) all =
    written_append w (32 ∷ joined_words (v ∷ ws)) (word_written w all.0.plain) ((omega arith, omega arith), joined_written (v ∷ ws) all.1)

written_readable : (b : ℕ) → IsWritten b → is_script_byte b ≡ true
written_readable b h = grind (arith, common_steps)

pub all_readable : (xs : List ℕ) → AllByRecursion IsWritten xs → list_all is_script_byte xs ≡ true
all_readable [] all = refl
all_readable (x ∷ xs) all = rw (written_readable x all.0) (all_readable xs all.1)

no_return_at : (xs : List ℕ) (i : ℕ) → AllByRecursion IsWritten xs → get_or xs i 0 ≢ 13
no_return_at [] i all = λ h. omega arith
no_return_at (x ∷ xs) zero all = λ h. omega (arith, all.0.0)
no_return_at (x ∷ xs) (suc i) all = no_return_at xs i all.1

pub kept_whole : (xs : List ℕ) → AllByRecursion IsWritten xs → without_return xs ≡ xs
kept_whole xs all = let other = no_return_at xs (length xs - 1) all in grind (arith, common_steps)

no_feed : (b : ℕ) → IsWritten b → is_line_feed b ≡ false
no_feed b h = grind (arith, common_steps)

written_line : (xs : List ℕ) → AllByRecursion IsWritten xs → AllByRecursion (λ b. is_line_feed b ≡ false) xs
written_line xs = each_too IsWritten (λ b. is_line_feed b ≡ false) no_feed xs

pub line_first : (xs ys : List ℕ) → AllByRecursion IsWritten xs → lines_of (xs ++ 10 ∷ ys) ≡ xs ∷ lines_of ys
line_first xs ys all = parts_at is_line_feed xs 10 ys (written_line xs all) refl
