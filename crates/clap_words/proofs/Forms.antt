-- The forms of a word are those that clap tells apart.
use Rattle.std.proofs.Common.{◌≡◌, ℕ, [], ◌∷◌, Some, None, Bool, true, false, cond, refl, option_map, nat_eq}
use Rattle.std.specs.Prelude.{option_and_then, is_some, ◌&&◌}
use Rattle.std.specs.Str.{bytes_eq}
use Rattle.clap.specs.Lexer.{long_of, long_of_rest, short_of, strip_byte}
use Rattle.clap_words.specs.Reading.{WordText, is_dashes, is_dashed, option_in, longer_than, name_and_value}

-- clap's name and value of a word are those of its form
pub long_is : (word : WordText) → long_of word ≡ option_in word
long_is [] = refl
long_is (x ∷ rest) = outer (nat_eq x 45) rest
  where
    inner : (b : Bool) (rest : WordText) → option_and_then long_of_rest (cond b (Some rest) None) ≡ option_map name_and_value (cond b (longer_than [] rest) None)
    inner true [] = refl
    inner true (z ∷ zs) = refl
    inner false rest = refl

    outer : (b : Bool) (rest : WordText) → option_and_then long_of_rest (option_and_then (strip_byte 45) (cond b (Some rest) None)) ≡ option_map name_and_value (cond b (longer_than (45 ∷ []) rest) None)
    outer true [] = refl
    outer true (y ∷ ys) = inner (nat_eq y 45) ys
    outer false rest = refl

-- a word that begins with `-` and is longer is `--`, names an option, or holds short options for clap
pub undashed : (word : WordText) → is_dashed word ≡ false → (is_dashes word ≡ false) × (long_of word ≡ None) × (short_of word ≡ None)
undashed [] h = (refl, refl, refl)
undashed (x ∷ rest) h = go (nat_eq x 45) refl rest h
  where
    go : (b : Bool) → nat_eq x 45 ≡ b → (rest : WordText) → is_some (cond b (longer_than [] rest) None) ≡ false
        → (bytes_eq (x ∷ rest) (45 ∷ 45 ∷ []) ≡ false) × (long_of (x ∷ rest) ≡ None) × (short_of (x ∷ rest) ≡ None)
    go false e rest h = rw e (refl, refl, refl)
    go true e [] h = rw e (refl, refl, refl)
    go true e (y ∷ ys) h = cc

pub dashed : (word : WordText) → is_dashed word ≡ true → is_dashes word ≡ false → long_of word ≡ None → (flags : WordText) × (short_of word ≡ Some flags)
dashed [] h d l = cc
dashed (x ∷ rest) h d l = go (nat_eq x 45) refl rest h d l
  where
    inner : (b : Bool) (y : ℕ) (ys : WordText) → (b && bytes_eq ys []) ≡ false → option_and_then long_of_rest (cond b (Some ys) None) ≡ None
        → (flags : WordText) × (cond b None (Some (y ∷ ys)) ≡ Some flags)
    inner true y [] d l = cc
    inner true y (z ∷ zs) d l = cc
    inner false y ys d l = (y ∷ ys, refl)

    go : (b : Bool) → nat_eq x 45 ≡ b → (rest : WordText) → is_some (cond b (longer_than [] rest) None) ≡ true → bytes_eq (x ∷ rest) (45 ∷ 45 ∷ []) ≡ false → long_of (x ∷ rest) ≡ None
        → (flags : WordText) × (short_of (x ∷ rest) ≡ Some flags)
    go false e rest h d l = cc
    go true e [] h d l = cc
    go true e (y ∷ ys) h d l = rw e (inner (nat_eq y 45) y ys (rw e at d) (rw e at l))
