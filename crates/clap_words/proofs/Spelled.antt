-- What follows the `-` of a word that is text spells a character.
use Rattle.std.proofs.Common.{◌≡◌, ℕ, List, [], ◌∷◌, ◌++◌, Some, None, Bool, true, false, cond, refl, ap, sym, ◌∙◌, nat_eq, arith}
use Rattle.std.proofs.lemmas.Str.{IsUtf8-past_char, IsUtf8-string_bytes, encodes-chars, encode_ascii}
use Rattle.std.proofs.lemmas.Bool.Decides.{nat_tests}
use Rattle.std.specs.Prelude.{option_and_then, slice_get, encode_utf8_all, String, string_bytes}
use Rattle.std.specs.declared.alloc.Global.{Global}
use Rattle.std.specs.List.{AllByRecursion}
use Rattle.std.specs.Str.{chars, IsUtf8}
use Rattle.clap.specs.Lexer.{short_of, short_of_rest}
use Rattle.clap_words.specs.Reading.{WordText}
use Rattle.clap_words.specs.Table.{texts_of}

-- what follows the first `-` spells a character
abbrev pub IsSpelled : WordText → Type 0
IsSpelled word = (flags : WordText) → short_of word ≡ Some flags → (x : ℕ) × (slice_get (chars flags) 0 ≡ Some x)

abbrev AfterDash : WordText → WordText → Type 0
AfterDash word flags = (word ≡ 45 ∷ flags) × ((y : ℕ) × (ys : WordText) × (flags ≡ y ∷ ys))

after_dash : (word flags : WordText) → short_of word ≡ Some flags → AfterDash word flags
after_dash [] flags h = cc
after_dash (x ∷ rest) flags h = go (nat_eq x 45) refl rest h
  where
    inner : (b : Bool) (y : ℕ) (ys : WordText) → cond b None (Some (y ∷ ys)) ≡ Some flags → flags ≡ y ∷ ys
    inner true y ys h = cc
    inner false y ys h = cc

    go : (b : Bool) → nat_eq x 45 ≡ b → (rest : WordText) → option_and_then short_of_rest (cond b (Some rest) None) ≡ Some flags → AfterDash (x ∷ rest) flags
    go false e rest h = cc
    go true e [] h = cc
    go true e (y ∷ ys) h =
        let k = inner (nat_eq y 45) y ys h in
        let first : x ≡ 45 = grind (arith, nat_tests) in
        (rw (first, k) refl, (y, ys, k))

pub text_is_spelled : (word : WordText) → IsUtf8 word → IsSpelled word
text_is_spelled word u flags h =
    let a = after_dash word flags h in
    let v : IsUtf8 flags = IsUtf8-past_char word flags 45 u (a.0 ∙ ap (λ front. front ++ flags) (sym (encode_ascii 45 (omega arith)))) in
    first (chars flags) (encodes-chars flags v) a.1
  where
    first : (cs : List ℕ) → encode_utf8_all cs ≡ flags → ((y : ℕ) × (ys : WordText) × (flags ≡ y ∷ ys)) → (x : ℕ) × (slice_get cs 0 ≡ Some x)
    first [] e n = let k : [] ≡ n.0 ∷ n.1 = e ∙ n.2 in cc
    first (c ∷ cs) e n = (c, refl)

-- so it is with each word that the program holds
pub texts_are_spelled : (words : List (String Global)) → AllByRecursion IsSpelled (texts_of words)
texts_are_spelled [] = tt
texts_are_spelled (word ∷ words) = (text_is_spelled (string_bytes word) (IsUtf8-string_bytes word), texts_are_spelled words)
