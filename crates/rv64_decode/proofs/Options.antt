-- What an optional answer of a table came from.
use Rattle.std.proofs.Common.{◌≡◌, Bool, true, false, cond, ◌==◌, ◌&&◌, find, ℕ, List, [], ◌∷◌, Option, Some, None, option_map, ◌⊎◌, inl, inr, refl, subst, eqb-true}
use Rattle.std.proofs.lemmas.Bool.{and_parts}
use Rattle.std.specs.List.{AllByRecursion}
use Rattle.std.specs.Option.{option_or}
use Rattle.std.specs.Map.{lookup}
use Rattle.rv64_decode.specs.Table.{op_at, op_at_both}
use Rattle.rv64_decode.specs.Decoding.{when}

pub map_some : {A B : Type 0} (f : A → B) (o : Option A) (y : B) → option_map f o ≡ Some y → (x : A) × (o ≡ Some x) × (f x ≡ y)
map_some f None y e = absurd (cc)
map_some f (Some x) y e = (x, refl, cc)

pub or_some : {A : Type 0} (o p : Option A) (y : A) → option_or o p ≡ Some y → (o ≡ Some y) ⊎ (p ≡ Some y)
or_some None p y e = inr e
or_some (Some x) p y e = inl e

pub when_some : {A : Type 0} (b : Bool) (o : Option A) (y : A) → when b o ≡ Some y → (b ≡ true) × (o ≡ Some y)
when_some true o y e = (refl, e)
when_some false o y e = absurd (cc)

-- what is found passes the test, and has what each of the list has
pub find_some : {Op : Type 0} (test : Op → Bool) (P : Op → Type 0) (ops : List Op) (op : Op)
    → AllByRecursion P ops → find test ops ≡ Some op → (test op ≡ true) × P op
find_some test P [] op all e = absurd (cc)
find_some test P (x ∷ xs) op all e = go (λ h. find_some test P xs op all.1 h) (test x) refl e
  where
    go : (find test xs ≡ Some op → (test op ≡ true) × P op) → (b : Bool) → test x ≡ b → cond b (Some x) (find test xs) ≡ Some op → (test op ≡ true) × P op
    go later true t h = let same : x ≡ op = cc in (subst (λ y. test y ≡ true) same t, subst P same all.0)
    go later false t h = later h

-- what a table finds has the number, and what holds of each operation of the table
pub op_at_some : {Op : Type 0} (number : Op → ℕ) (P : Op → Type 0) (ops : List Op) (n : ℕ) (op : Op)
    → AllByRecursion P ops → op_at number ops n ≡ Some op → (number op ≡ n) × P op
op_at_some number P ops n op all e =
    let found = find_some (λ op. number op == n) P ops op all e in
    (eqb-true (number op) n found.0, found.1)

pub op_at_both_some : {Op : Type 0} (numbers : Op → ℕ × ℕ) (P : Op → Type 0) (ops : List Op) (upper funct3 : ℕ) (op : Op)
    → AllByRecursion P ops → op_at_both numbers ops upper funct3 ≡ Some op → ((numbers op).0 ≡ upper) × ((numbers op).1 ≡ funct3) × P op
op_at_both_some numbers P ops upper funct3 op all e =
    let found = find_some (λ op. (numbers op).0 == upper && (numbers op).1 == funct3) P ops op all e in
    let tests = and_parts ((numbers op).0 == upper) ((numbers op).1 == funct3) found.0 in
    (eqb-true (numbers op).0 upper tests.0, eqb-true (numbers op).1 funct3 tests.1, found.1)

pub lookup_some : {V : Type 0} (P : ℕ → V → Type 0) (es : List (ℕ × V)) (n : ℕ) (v : V)
    → AllByRecursion (λ e. P e.0 e.1) es → lookup (λ k. k == n) es ≡ Some v → P n v
lookup_some P [] n v all e = absurd (cc)
lookup_some P (x ∷ xs) n v all e = go (λ h. lookup_some P xs n v all.1 h) (x.0 == n) refl e
  where
    go : (lookup (λ k. k == n) xs ≡ Some v → P n v) → (b : Bool) → (x.0 == n) ≡ b → cond b (Some x.1) (lookup (λ k. k == n) xs) ≡ Some v → P n v
    go later true t h = let same : x.1 ≡ v = cc in subst (λ k. P k v) (eqb-true x.0 n t) (subst (P x.0) same all.0)
    go later false t h = later h
