-- What waits and what is due, by the lines.
use Rattle.std.proofs.Common.{◌≡◌, ℕ, ◌+◌, ◌-◌, ◌<◌, ◌≤◌, Bool, true, false, nat_lt, cond, List, [], ◌∷◌, ◌++◌, Option, Some, None, refl, sym, subst, ap, ◌∙◌, arith}
use Rattle.std.specs.List.{AllByRecursion}
use Rattle.std.specs.Option.{option_or}
use Rattle.reri_bank.specs.declared.state.Staged.{Staged}
use Rattle.reri_inject.specs.Due.{Injection, InjectLine, IsDue, last_below, left_by, staged_in}
use Rattle.reri_inject.specs.Inject.{Counted, counted, Rests, Waits, Fires}

-- what is injected by what is staged
abbrev pub injection_of : Staged → Injection
injection_of s = record { class = s.class; addr = s.addr }

-- what a count leaves staged
abbrev pub left_staged : Counted → Option Staged
left_staged Rests = None
left_staged (Waits s) = Some s
left_staged (Fires s) = None

pub all_append : {X : Type 0} (P : X → Type 0) (xs ys : List X) → AllByRecursion P xs → AllByRecursion P ys → AllByRecursion P (xs ++ ys)
all_append P [] ys h k = k
all_append P (x ∷ xs) ys h k = (h.0, all_append P xs ys h.1 k)

-- the last line of a step below n, found
none_below : (n : ℕ) (lines : List InjectLine) → AllByRecursion (λ (l : InjectLine). n ≤ l.step) lines → last_below n lines ≡ None
none_below n [] h = refl
none_below n (l ∷ lines) h = rw (none_below n lines h.1) (not_below (nat_lt l.step n) (grind (arith, h.0)))
  where
    not_below : (b : Bool) → b ≡ false → (let last : Option InjectLine = cond b (Some l) None in last) ≡ None
    not_below b e = rw e refl

last_is : (n : ℕ) (before : List InjectLine) (line : InjectLine) (behind : List InjectLine) → line.step < n → AllByRecursion (λ (l : InjectLine). n ≤ l.step) behind
    → last_below n (before ++ line ∷ behind) ≡ Some line
last_is n [] line behind low high =
    let below : nat_lt line.step n ≡ true = grind (arith, low) in
    rw (none_below n behind high, below) refl
last_is n (l ∷ before) line behind low high = rw (last_is n before line behind low high) refl

record Last (n : ℕ) (lines : List InjectLine) (line : InjectLine) : Type 0 where
  before : List InjectLine
  behind : List InjectLine
  among : lines ≡ before ++ line ∷ behind
  low : line.step < n
  last : AllByRecursion (λ (l : InjectLine). n ≤ l.step) behind

abbrev Found : ℕ → List InjectLine → Option InjectLine → Type 0
Found n lines None = AllByRecursion (λ (l : InjectLine). n ≤ l.step) lines
Found n lines (Some line) = Last n lines line

found : (n : ℕ) (lines : List InjectLine) → Found n lines (last_below n lines)
found n [] = tt
found n (l ∷ lines) = by_last (last_below n lines) (found n lines)
  where
    by_step : (b : Bool) → nat_lt l.step n ≡ b → AllByRecursion (λ (k : InjectLine). n ≤ k.step) lines → Found n (l ∷ lines) (cond b (Some l) None)
    by_step true e none = record { before = []; behind = lines; among = refl; low = grind (arith, e); last = none }
    by_step false e none = (grind (arith, e), none)

    by_last : (last : Option InjectLine) → Found n lines last → Found n (l ∷ lines) (option_or last (cond (nat_lt l.step n) (Some l) None))
    by_last None none = by_step (nat_lt l.step n) refl none
    by_last (Some line) h = record { before = l ∷ h.before; behind = h.behind; among = ap (λ (ls : List InjectLine). l ∷ ls) h.among; low = h.low; last = h.last }

-- a line more stages its injection
pub line_staged : (n delay : ℕ) (i : Injection) (lines : List InjectLine) → 1 ≤ delay
    → staged_in n (lines ++ record { step = n; delay = delay; injection = i } ∷ []) ≡ Some (record { class = i.class; addr = i.addr; left = delay })
line_staged n delay i lines some =
    let line : InjectLine = record { step = n; delay = delay; injection = i } in
    ap (left_by n) (last_is (n + 1) lines line [] (omega arith) tt) ∙ by_due (nat_lt n (n + delay)) (n + delay - n) (grind (arith, some)) (omega arith)
  where
    by_due : (b : Bool) (left : ℕ) → b ≡ true → left ≡ delay
        → (let staged : Option Staged = cond b (Some (record { class = i.class; addr = i.addr; left = left })) None in staged) ≡ Some (record { class = i.class; addr = i.addr; left = delay })
    by_due b left e f = rw (e, f) refl

-- where no line has a later step, a step more is a count
pub step_counts : (n : ℕ) (lines : List InjectLine) → AllByRecursion (λ (l : InjectLine). l.step ≤ n) lines → staged_in (n + 1) lines ≡ left_staged (counted (staged_in n lines))
step_counts n lines h = ap (left_by (n + 1)) (same_last lines h) ∙ by_last (last_below (n + 1) lines)
  where
    same_last : (ls : List InjectLine) → AllByRecursion (λ (l : InjectLine). l.step ≤ n) ls → last_below (n + 1 + 1) ls ≡ last_below (n + 1) ls
    same_last [] k = refl
    same_last (l ∷ ls) k =
        let now : nat_lt l.step (n + 1) ≡ true = grind (arith, k.0) in
        let next : nat_lt l.step (n + 1 + 1) ≡ true = grind (arith, k.0) in
        rw (same_last ls k.1, now, next) refl

    by_due : (l : InjectLine) (b c d : Bool) → nat_lt (n + 1) (l.step + l.delay) ≡ b → nat_lt n (l.step + l.delay) ≡ c → nat_lt 1 (l.step + l.delay - n) ≡ d
        → (let staged : Option Staged = cond b (Some (record { class = l.injection.class; addr = l.injection.addr; left = l.step + l.delay - (n + 1) })) None in staged)
        ≡ left_staged (counted (cond c (Some (record { class = l.injection.class; addr = l.injection.addr; left = l.step + l.delay - n })) None))
    by_due l true true true e f g =
        let less : l.step + l.delay - (n + 1) ≡ l.step + l.delay - n - 1 = omega arith in
        rw (g, less) refl
    by_due l true true false e f g = absurd (grind (arith, e, g))
    by_due l true false d e f g = absurd (grind (arith, e, f))
    by_due l false true true e f g = absurd (grind (arith, e, g))
    by_due l false true false e f g = rw g refl
    by_due l false false d e f g = refl

    by_last : (last : Option InjectLine) → left_by (n + 1) last ≡ left_staged (counted (left_by n last))
    by_last None = refl
    by_last (Some l) = by_due l (nat_lt (n + 1) (l.step + l.delay)) (nat_lt n (l.step + l.delay)) (nat_lt 1 (l.step + l.delay - n)) refl refl refl

-- what a count fires is due
abbrev fired_of : Counted → Injection → Injection
fired_of (Fires s) other = injection_of s
fired_of (Waits s) other = other
fired_of Rests other = other

pub fired_due : (n : ℕ) (lines : List InjectLine) (t : Staged) → counted (staged_in n lines) ≡ Fires t → IsDue lines (n + 1) (injection_of t)
fired_due n lines t fires = by_last (last_below (n + 1) lines) (found (n + 1) lines) fires
  where
    by_one : (l : InjectLine) → Last (n + 1) lines l → nat_lt n (l.step + l.delay) ≡ true → (one : Bool) → nat_lt 1 (l.step + l.delay - n) ≡ one
        → (let s : Staged = record { class = l.injection.class; addr = l.injection.addr; left = l.step + l.delay - n } in
        cond one (Waits (record { class = s.class; addr = s.addr; left = s.left - 1 })) (Fires s)) ≡ Fires t
        → IsDue lines (n + 1) (injection_of t)
    by_one l is waits true e f = cc
    by_one l is waits false e f = record {
      before = is.before;
      line = l;
      behind = is.behind;
      among = is.among;
      due = grind (arith, waits, e);
      injects = ap (λ (c : Counted). fired_of c l.injection) f;
      last = is.last;
    }

    by_waits : (l : InjectLine) → Last (n + 1) lines l → (waits : Bool) → nat_lt n (l.step + l.delay) ≡ waits
        → counted (cond waits (Some (record { class = l.injection.class; addr = l.injection.addr; left = l.step + l.delay - n })) None) ≡ Fires t
        → IsDue lines (n + 1) (injection_of t)
    by_waits l is true e f = by_one l is e (nat_lt 1 (l.step + l.delay - n)) refl f
    by_waits l is false e f = cc

    by_last : (last : Option InjectLine) → Found (n + 1) lines last → counted (left_by n last) ≡ Fires t → IsDue lines (n + 1) (injection_of t)
    by_last None none e = cc
    by_last (Some l) is e = by_waits l is (nat_lt n (l.step + l.delay)) refl e

-- and what is due fires
pub all_at : {X : Type 0} (P : X → Type 0) (xs : List X) (x : X) (ys : List X) → AllByRecursion P (xs ++ x ∷ ys) → P x
all_at P [] x ys h = h.0
all_at P (y ∷ xs) x ys h = all_at P xs x ys h.1

pub due_fired : (n : ℕ) (lines : List InjectLine) (i : Injection) → AllByRecursion (λ (l : InjectLine). 1 ≤ l.delay) lines → IsDue lines (n + 1) i
    → counted (staged_in n lines) ≡ Fires (record { class = i.class; addr = i.addr; left = 1 })
due_fired n lines i delayed is =
    let some : 1 ≤ is.line.delay = all_at (λ (l : InjectLine). 1 ≤ l.delay) is.before is.line is.behind (subst (AllByRecursion (λ (l : InjectLine). 1 ≤ l.delay)) is.among delayed) in
    let last : last_below (n + 1) lines ≡ Some is.line =
    ap (last_below (n + 1)) is.among ∙ last_is (n + 1) is.before is.line is.behind (omega (arith, some, is.due)) is.last in
    ap (λ (o : Option InjectLine). counted (left_by n o)) last
    ∙ by_due (nat_lt n (is.line.step + is.line.delay)) (is.line.step + is.line.delay - n) (grind (arith, is.due)) (omega (arith, is.due)) is.line.injection i is.injects
  where
    by_due : (b : Bool) (left : ℕ) → b ≡ true → left ≡ 1 → (j k : Injection) → j ≡ k
        → counted (cond b (Some (record { class = j.class; addr = j.addr; left = left })) None) ≡ Fires (record { class = k.class; addr = k.addr; left = 1 })
    by_due b left e f j k g = rw (e, f, g) refl

-- so at most one is due in a step
pub one_due : (n : ℕ) (lines : List InjectLine) (i j : Injection) → AllByRecursion (λ (l : InjectLine). 1 ≤ l.delay) lines → IsDue lines (n + 1) i → IsDue lines (n + 1) j → i ≡ j
one_due n lines i j delayed one other = ap (λ (c : Counted). fired_of c i) (sym (due_fired n lines i delayed one) ∙ due_fired n lines j delayed other)
