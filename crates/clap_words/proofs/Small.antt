-- Facts on truth values, options and lists.
use Rattle.std.proofs.Common.{min, ◌<◌, ◌+◌, List, ◌≡◌, ℕ, [], ◌∷◌, Option, Some, None, Bool, true, false, cond, refl, length, arith, nat_lt, nat_eq}
use Rattle.std.proofs.lemmas.Bool.{lt-ltb}
use Rattle.std.proofs.lemmas.Bool.Decides.{nat_tests}
use Rattle.clap.specs.declared.error.kind.ErrorKind.{ErrorKind}
use Rattle.std.specs.Prelude.{◌&&◌, ◌||◌}
use Rattle.std.specs.Str.{bytes_eq}
use Rattle.clap.specs.Kinds.{Kinds, or_else}
use Rattle.clap_words.specs.Reading.{WordText, is_empty}

pub find_none : (b : Bool) → (b || false) ≡ b
find_none true = refl
find_none false = refl

pub or_false : (a b : Bool) → (a || b) ≡ false → (a ≡ false) × (b ≡ false)
or_false true b h = cc
or_false false b h = (refl, h)

pub not_empty : (v : WordText) → is_empty v ≡ false → nat_lt 0 (length v) ≡ true
not_empty [] h = cc
not_empty (x ∷ xs) h = lt-ltb 0 (length (x ∷ xs)) (omega arith)

pub empty_is : (v : WordText) → is_empty v ≡ true → nat_lt 0 (length v) ≡ false
empty_is [] h = refl
empty_is (x ∷ xs) h = grind (arith, nat_tests)

pub some_is : {X : Type 0} (x y : X) → Some x ≡ Some y → x ≡ y
some_is x y e = cc

pub same_number : (x : ℕ) → nat_eq x x ≡ true
same_number x = grind (arith, nat_tests)

pub same_bytes : (xs : WordText) → bytes_eq xs xs ≡ true
same_bytes [] = refl
same_bytes (x ∷ xs) = rw (same_number x) (same_bytes xs)

pub or_true : (b : Bool) → (b || true) ≡ true
or_true true = refl
or_true false = refl

pub and_false : (b : Bool) → (b && false) ≡ false
and_false true = refl
and_false false = refl

pub same_cond : {X : Type 0} (b : Bool) (x : X) → cond b x x ≡ x
same_cond true x = refl
same_cond false x = refl

pub or_else_nil : (a b : Kinds) → or_else a b ≡ [] → (a ≡ []) × (b ≡ [])
or_else_nil [] b h = (refl, h)
or_else_nil (k ∷ ks) b h = cc

pub none_some : (x : ℕ) → ◌≡◌ {A = Option ℕ} None (Some x) → ⊥
none_some x e = cc

pub cons_nil : (k : ErrorKind) (ks : Kinds) → k ∷ ks ≡ [] → ⊥
cons_nil k ks e = cc

pub number_eq_sym : (x y : ℕ) → nat_eq x y ≡ nat_eq y x
number_eq_sym x y = grind (arith, nat_tests)

pub bytes_eq_sym : (xs ys : List ℕ) → bytes_eq xs ys ≡ bytes_eq ys xs
bytes_eq_sym [] [] = refl
bytes_eq_sym [] (y ∷ ys) = refl
bytes_eq_sym (x ∷ xs) [] = refl
bytes_eq_sym (x ∷ xs) (y ∷ ys) = rw (number_eq_sym x y, bytes_eq_sym xs ys) refl

-- a position that can still grow
pub min_below : (position most : ℕ) → position < most → min (position + 1) most ≡ position + 1
min_below position most h = grind arith
