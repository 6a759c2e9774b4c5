-- What a record shows, by one event more.
use Rattle.std.proofs.Common.{◌≡◌, ℕ, ◌+◌, ◌==◌, ◌<◌, ◌≤◌, Bool, true, false, ◌||◌, ◌&&◌, nat_lt, min, cond, List, [], ◌∷◌, ◌++◌, Option, Some, None, ◌⊎◌, inl, inr, refl, subst, ap, ◌∙◌, arith}
use Rattle.std.proofs.lemmas.Grind.{common_steps}
use Rattle.std.proofs.lemmas.List.Sums.{sum_by-cons}
use Rattle.std.specs.Option.{option_map}
use Rattle.poison_mem.specs.declared.event.Event.{Event}
use Rattle.poison_mem.specs.declared.event.RecordView.{RecordView}
use Rattle.reri_bank.specs.declared.record.TheConstants.{MOST_COUNTED}
use Rattle.reri_bank.specs.Record.{rank, ranks_above, kept_with, kept_of, of_class, view_of_events, rec_of, with_event}

-- what ranks above what ranks above x ranks above x
both_above : (e k x : Event) → ranks_above e k ≡ true → ranks_above k x ≡ true → ranks_above e x ≡ true
both_above e k x p q = grind arith

not_above : (se sk pe pk : ℕ) → (nat_lt sk se || ((se == sk) && nat_lt pk pe)) ≡ false → (se < sk) ⊎ ((se ≡ sk) × (pe ≤ pk))
not_above se sk pe pk h = grind arith

not_above_by : (se sk pe pk : ℕ) → (se < sk) ⊎ ((se ≡ sk) × (pe ≤ pk)) → (nat_lt sk se || ((se == sk) && nat_lt pk pe)) ≡ false
not_above_by se sk pe pk (inl h) = grind arith
not_above_by se sk pe pk (inr h) = grind arith

below_both : (se sk sx pe pk px : ℕ) → (se < sk) ⊎ ((se ≡ sk) × (pe ≤ pk)) → (sk < sx) ⊎ ((sk ≡ sx) × (pk ≤ px)) → (se < sx) ⊎ ((se ≡ sx) × (pe ≤ px))
below_both se sk sx pe pk px (inl h) (inl k) = inl (omega arith)
below_both se sk sx pe pk px (inl h) (inr k) = inl (omega arith)
below_both se sk sx pe pk px (inr h) (inl k) = inl (omega arith)
below_both se sk sx pe pk px (inr h) (inr k) = inr (omega arith, omega arith)

neither_above : (e k x : Event) → ranks_above e k ≡ false → ranks_above k x ≡ false → ranks_above e x ≡ false
neither_above e k x p q =
    not_above_by (rank e.class) (rank x.class) e.pri x.pri
    (below_both (rank e.class) (rank k.class) (rank x.class) e.pri k.pri x.pri
    (not_above (rank e.class) (rank k.class) e.pri k.pri p)
    (not_above (rank k.class) (rank x.class) k.pri x.pri q))

-- what is kept, by one event more at the end
abbrev later : Option Event → Event → Event
later None e = e
later (Some k) e = cond (ranks_above e k) e k

by_truth : {P : Type 0} → (b : Bool) → (b ≡ true → P) → (b ≡ false → P) → P
by_truth {P} b f g = (elim b as (λ v. (v ≡ true → P) → (v ≡ false → P) → P) [ true ↦ λ y n. y refl | false ↦ λ y n. n refl ]) f g

three : (x k e : Event) → kept_with x (Some (cond (ranks_above e k) e k)) ≡ later (Some (kept_with x (Some k))) e
three x k e =
    by_truth (ranks_above e k)
    (λ p. by_truth (ranks_above k x)
    (λ q. let r = both_above e k x p q in rw (p, q, p, r) refl)
    (λ q. rw (p, q) refl))
    (λ p. by_truth (ranks_above k x)
    (λ q. rw (p, q, p) refl)
    (λ q. let r = neither_above e k x p q in rw (p, q, r) refl))

swapped : (x e : Event) (k : Option Event) → kept_with x (Some (later k e)) ≡ later (Some (kept_with x k)) e
swapped x e None = refl
swapped x e (Some k) = three x k e

pub kept_of-append : (es : List Event) (e : Event) → kept_of (es ++ e ∷ []) ≡ Some (later (kept_of es) e)
kept_of-append [] e = refl
kept_of-append (x ∷ es) e = ap (λ k. Some (kept_with x k)) (kept_of-append es e) ∙ ap Some (swapped x e (kept_of es))

-- how many events have a class, one by one
pub of_class-nil : (class : ℕ) → of_class class [] ≡ 0
unfolding of_class
of_class-nil class = refl

pub of_class-cons : (class : ℕ) (e : Event) (es : List Event) → of_class class (e ∷ es) ≡ cond (rank e.class == class) 1 0 + of_class class es
unfolding of_class
of_class-cons class e es = sum_by-cons (λ (x : Event). cond (rank x.class == class) 1 0) e es

of_class-one : (class : ℕ) (e : Event) → of_class class (e ∷ []) ≡ cond (rank e.class == class) 1 0
of_class-one class e = omega (arith, of_class-cons class e [], of_class-nil class)

pub of_class-append : (class : ℕ) (es : List Event) (e : Event) → of_class class (es ++ e ∷ []) ≡ of_class class es + cond (rank e.class == class) 1 0
of_class-append class [] e = omega (arith, of_class-one class e, of_class-nil class)
of_class-append class (x ∷ es) e = omega (arith, of_class-append class es e, of_class-cons class x (es ++ e ∷ []), of_class-cons class x es)

-- the kept event is one of the events
occurs_first : (x : Event) (es : List Event) → 1 ≤ of_class (rank x.class) (x ∷ es)
occurs_first x es = let is = of_class-cons (rank x.class) x es in grind (arith, is)

occurs_with : (x : Event) (k : Option Event) (es : List Event) → ((k' : Event) → k ≡ Some k' → 1 ≤ of_class (rank k'.class) es) → 1 ≤ of_class (rank (kept_with x k).class) (x ∷ es)
occurs_with x None es h = occurs_first x es
occurs_with x (Some k) es h =
    let there : 1 ≤ of_class (rank k.class) es = h k refl in
    let here : 1 ≤ of_class (rank x.class) (x ∷ es) = occurs_first x es in
    let after : 1 ≤ of_class (rank k.class) (x ∷ es) = omega (arith, there, of_class-cons (rank k.class) x es) in
    let P : Event → Type 0 = λ v. 1 ≤ of_class (rank v.class) (x ∷ es) in
    by_truth (ranks_above k x)
    (λ p. let is : k ≡ kept_with x (Some k) = rw p refl in subst P is after)
    (λ p. let is : x ≡ kept_with x (Some k) = rw p refl in subst P is here)

pub kept_occurs : (x : Event) (es : List Event) → 1 ≤ of_class (rank (kept_with x (kept_of es)).class) (x ∷ es)
kept_occurs x [] = occurs_first x []
kept_occurs x (y ∷ es) = occurs_with x (Some (kept_with y (kept_of es))) (y ∷ es) (λ k e. let h = kept_occurs y es in grind (arith, common_steps))

-- no event has a greater class
none_with : (c : ℕ) (x k : Event) (n : ℕ) → (rank k.class < c → n ≡ 0) → rank (kept_with x (Some k)).class < c → cond (rank x.class == c) 1 0 + n ≡ 0
none_with c x k n h p =
    by_truth (ranks_above k x) (λ q. let p' : rank k.class < c = rw q at p in grind arith) (λ q. let p' : rank x.class < c = rw q at p in grind arith)

pub none_above : (c : ℕ) (x : Event) (es : List Event) → rank (kept_with x (kept_of es)).class < c → of_class c (x ∷ es) ≡ 0
none_above c x [] p = of_class-one c x ∙ grind arith
none_above c x (y ∷ es) p = of_class-cons c x (y ∷ es) ∙ none_with c x (kept_with y (kept_of es)) (of_class c (y ∷ es)) (none_above c y es) p

some_more : (n : ℕ) (b : Bool) → nat_lt 0 (n + cond b 1 0) ≡ (nat_lt 0 n || b)
some_more n true = grind arith
some_more n false = grind arith

counted : (n : ℕ) (b : Bool) → min (n + cond b 1 0) MOST_COUNTED ≡ cond (b && nat_lt (min n MOST_COUNTED) MOST_COUNTED) (min n MOST_COUNTED + 1) (min n MOST_COUNTED)
counted n true = grind arith
counted n false = grind arith

passed : (n : ℕ) (b : Bool) → nat_lt MOST_COUNTED (n + cond b 1 0) ≡ cond (b && (min n MOST_COUNTED == MOST_COUNTED)) true (nat_lt MOST_COUNTED n)
passed n true = grind arith
passed n false = grind arith

more : (k e : Event) (es : List Event) → 1 ≤ of_class (rank k.class) es → ((c : ℕ) → rank k.class < c → of_class c es ≡ 0)
    → nat_lt 1 (of_class (rank (cond (ranks_above e k) e k).class) es + cond (rank e.class == rank (cond (ranks_above e k) e k).class) 1 0)
    ≡ cond (nat_lt (rank k.class) (rank e.class)) false (nat_lt 1 (of_class (rank k.class) es) || (rank e.class == rank k.class))
more k e es some none =
    let above = none (rank e.class) in
    by_truth (ranks_above e k)
    (λ p. rw p (by_truth (rank e.class == rank k.class)
    (λ q. grind arith)
    (λ q. grind arith)))
    (λ p. rw p (grind arith))

-- a view is its fields
pub same_view : (k : Event) (a a' b b' c c' m m' o o' : Bool) (n n' : ℕ) → a ≡ a' → b ≡ b' → c ≡ c' → m ≡ m' → n ≡ n' → o ≡ o'
    → (let left : RecordView = record { kept = k; ce = a; ued = b; uec = c; mo = m; cec = n; ceco = o } in left)
    ≡ record { kept = k; ce = a'; ued = b'; uec = c'; mo = m'; cec = n'; ceco = o' }
same_view k a a' b b' c c' m m' o o' n n' p q r s t u = cc

view_step : (es : List Event) (k e : Event) → 1 ≤ of_class (rank k.class) es → ((c : ℕ) → rank k.class < c → of_class c es ≡ 0)
    → view_of_events (es ++ e ∷ []) (cond (ranks_above e k) e k) ≡ with_event (Some (view_of_events es k)) e
unfolding with_event
view_step es k e some none =
    let of = λ (c : ℕ). of_class-append c es e in
    same_view (cond (ranks_above e k) e k) _ _ _ _ _ _ _ _ _ _ _ _
    (ap (nat_lt 0) (of 0) ∙ some_more (of_class 0 es) (rank e.class == 0))
    (ap (nat_lt 0) (of 1) ∙ some_more (of_class 1 es) (rank e.class == 1))
    (ap (nat_lt 0) (of 2) ∙ some_more (of_class 2 es) (rank e.class == 2))
    (ap (nat_lt 1) (of (rank (cond (ranks_above e k) e k).class)) ∙ more k e es some none)
    (ap (λ n. min n MOST_COUNTED) (of 0) ∙ counted (of_class 0 es) (rank e.class == 0))
    (ap (nat_lt MOST_COUNTED) (of 0) ∙ passed (of_class 0 es) (rank e.class == 0))

one_event : (e : Event) → rec_of (e ∷ []) ≡ Some (with_event None e)
unfolding with_event
one_event e =
    let of = λ (c : ℕ). of_class-one c e in
    ap Some (same_view e _ _ _ _ _ _ _ _ _ _ _ _
    (ap (nat_lt 0) (of 0) ∙ is_one (rank e.class == 0))
    (ap (nat_lt 0) (of 1) ∙ is_one (rank e.class == 1))
    (ap (nat_lt 0) (of 2) ∙ is_one (rank e.class == 2))
    (ap (nat_lt 1) (of (rank e.class)) ∙ not_two (rank e.class == rank e.class))
    (ap (λ n. min n MOST_COUNTED) (of 0) ∙ counts_one (rank e.class == 0))
    (ap (nat_lt MOST_COUNTED) (of 0) ∙ not_full (rank e.class == 0)))
  where
    is_one : (b : Bool) → nat_lt 0 (cond b 1 0) ≡ b
    is_one true = refl
    is_one false = refl

    not_two : (b : Bool) → nat_lt 1 (cond b 1 0) ≡ false
    not_two true = refl
    not_two false = refl

    counts_one : (b : Bool) → min (cond b 1 0) MOST_COUNTED ≡ cond b 1 0
    counts_one true = refl
    counts_one false = refl

    not_full : (b : Bool) → nat_lt MOST_COUNTED (cond b 1 0) ≡ false
    not_full true = refl
    not_full false = refl

-- a record's live registers are those of its events
pub fold_law : (es : List Event) (e : Event) → rec_of (es ++ e ∷ []) ≡ Some (with_event (rec_of es) e)
fold_law [] e = one_event e
fold_law (x ∷ xs) e =
    ap (option_map (view_of_events ((x ∷ xs) ++ e ∷ []))) (kept_of-append (x ∷ xs) e)
    ∙ ap Some (view_step (x ∷ xs) (kept_with x (kept_of xs)) e (kept_occurs x xs) (λ c. none_above c x xs))
