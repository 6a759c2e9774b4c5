-- Two lists of host calls, one after the other.
use Rattle.std.proofs.Common.{refl, ◌≡◌, ℕ, ◌+◌, ◌-◌, ◌^◌, min, List, [], ◌∷◌, ◌++◌, length, Option, Some, None, sym, ◌∙◌, ap, subst, arith, append_assoc, length-append}
use Rattle.std.proofs.lemmas.Grind.{flat_map-append}
use Rattle.std.specs.Prelude.{MatchOption, IsSomeAnd}
use Rattle.ras_host.specs.Told.{Bytes, Told, Outside, HostCall, HostAction, CreatedFile, created_of, host_call_of, calls_of, out_by, out_of, err_by, err_of, made_by, made_of, later_of, Appended, Appends, IsFileOf, Creates, Performs}

pub min_then : (a b x y m : ℕ) → b ≡ min (a + x) m → min (b + y) m ≡ min (a + (x + y)) m
min_then a b x y m h = omega (arith, h)

pub appended_then : {A : Type 0} (a b c : Told A) (xs ys : List A) → Appended a b xs → Appended b c ys → Appended a c (xs ++ ys)
appended_then a b c xs ys h g = record {
  total = rw (length-append xs ys) (g.total ∙ min_then a.total b.total (length xs) (length ys) (2 ^ 64 - 1) h.total);
  whole = λ w. h.whole (g.whole w);
  kept = λ w. g.kept w ∙ ap (λ l. l ++ ys) (h.kept (g.whole w)) ∙ append_assoc a.kept xs ys;
}

pub appends_then : {A : Type 0} (a b c : Option (Told A)) (xs ys : List A) → Appends a b xs → Appends b c ys → Appends a c (xs ++ ys)
appends_then None None c xs ys h g = g
appends_then None (Some b) c xs ys h g = cc
appends_then (Some a) None c xs ys h g = absurd h
appends_then (Some a) (Some b) None xs ys h g = absurd g
appends_then (Some a) (Some b) (Some c) xs ys h g = appended_then a b c xs ys h g

pub calls_append : (xs ys : List HostAction) → calls_of (xs ++ ys) ≡ calls_of xs ++ calls_of ys
calls_append [] ys = refl
calls_append (x ∷ xs) ys = ap (λ (l : List HostCall). host_call_of x ∷ l) (calls_append xs ys)

later_none : (o : Option Bytes) → o ≡ later_of o None
later_none None = refl
later_none (Some bytes) = refl

later_assoc : (o p q : Option Bytes) → later_of (later_of o p) q ≡ later_of o (later_of p q)
later_assoc None p q = refl
later_assoc (Some bytes) p q = refl

made_append : (xs ys : List HostAction) (name : Bytes) → made_of (xs ++ ys) name ≡ later_of (made_of ys name) (made_of xs name)
made_append [] ys name = later_none (made_of ys name)
made_append (x ∷ xs) ys name =
    ap (λ (o : Option Bytes). later_of o (made_by x name)) (made_append xs ys name) ∙ later_assoc (made_of ys name) (made_of xs name) (made_by x name)

made_then : (made earlier : Option Bytes) (a b c : Option (Told ℕ))
    → MatchOption earlier (b ≡ a) (λ bytes. IsSomeAnd b (λ told. IsFileOf told bytes))
    → MatchOption made (c ≡ b) (λ bytes. IsSomeAnd c (λ told. IsFileOf told bytes))
    → MatchOption (later_of made earlier) (c ≡ a) (λ bytes. IsSomeAnd c (λ told. IsFileOf told bytes))
made_then (Some bytes) earlier a b c h g = g
made_then None None a b c h g = g ∙ h
made_then None (Some bytes) a b c h g = let P : Option (Told ℕ) → Type 0 = λ o. IsSomeAnd o (λ told. IsFileOf told bytes) in subst P (sym g) h

creates_append : (a b c : Option (List CreatedFile)) (xs ys : List HostAction) → Creates a b xs → Creates b c ys → Creates a c (xs ++ ys)
creates_append None None c xs ys h g = g
creates_append None (Some b) c xs ys h g = cc
creates_append (Some a) b None xs ys h g = tt
creates_append (Some a) None (Some c) xs ys h g = cc
creates_append (Some a) (Some b) (Some c) xs ys h g = λ name.
    subst (λ (made : Option Bytes). MatchOption made (created_of c name ≡ created_of a name) (λ bytes. IsSomeAnd (created_of c name) (λ told. IsFileOf told bytes)))
    (sym (made_append xs ys name)) (made_then (made_of ys name) (made_of xs name) (created_of a name) (created_of b name) (created_of c name) (h name) (g name))

-- calls, and then others
pub performs_append : (a b c : Outside) (xs ys : List HostAction) → Performs a b xs → Performs b c ys → Performs a c (xs ++ ys)
performs_append a b c xs ys h g = record {
  files = g.files ∙ h.files;
  out = subst (λ (l : Bytes). Appends a.out c.out l) (sym (flat_map-append out_by xs ys)) (appends_then a.out b.out c.out (out_of xs) (out_of ys) h.out g.out);
  err = subst (λ (l : Bytes). Appends a.err c.err l) (sym (flat_map-append err_by xs ys)) (appends_then a.err b.err c.err (err_of xs) (err_of ys) h.err g.err);
  created = creates_append a.created b.created c.created xs ys h.created g.created;
  calls = subst (λ (l : List HostCall). Appends a.calls c.calls l) (sym (calls_append xs ys)) (appends_then a.calls b.calls c.calls (calls_of xs) (calls_of ys) h.calls g.calls);
}

-- one call, and then others
pub performs_then : (a b c : Outside) (x : HostAction) (ys : List HostAction) → Performs a b (x ∷ []) → Performs b c ys → Performs a c (x ∷ ys)
performs_then a b c x ys h g = performs_append a b c (x ∷ []) ys h g
