-- Each reachable view is what a record shows of some events.
use Rattle.std.proofs.Common.{◌≡◌, ℕ, zero, suc, ◌+◌, ◌-◌, ◌==◌, ◌<◌, ◌≤◌, ◌^◌, Bool, true, false, ◌||◌, ◌&&◌, not, nat_lt, min, cond, List, [], ◌∷◌, Option, Some, None, IsTrue, IfSome, refl, subst, sym, ap, ◌∙◌, arith}
use Rattle.std.specs.Option.{option_map}
use Rattle.poison_mem.specs.declared.event.Class.{Class}
use Rattle.poison_mem.specs.declared.event.Class.TheVariants.{Corrected, Deferred, Critical}
use Rattle.poison_mem.specs.declared.event.Event.{Event}
use Rattle.poison_mem.specs.declared.event.RecordView.{RecordView}
use Rattle.reri_bank.specs.declared.state.RecState.{RecState}
use Rattle.reri_bank.specs.declared.record.TheConstants.{MOST_COUNTED}
use Rattle.reri_bank.specs.Record.{rank, ranks_above, kept_with, kept_of, of_class, view_of_events, rec_of}
use Rattle.reri_bank.specs.Views.{IsReachable, CountFits, LeadTo}
use Rattle.reri_bank.specs.State.{IsRecordHeld, RecordLists, shown}
use Rattle.reri_bank.proofs.Shown.{rank_of_flag, some_counted}
use Rattle.reri_bank.specs.RecordLaws.{same_view, of_class-nil, of_class-cons}
use Rattle.std.specs.List.{AllByRecursion}

-- events that lead to a view: the kept one, as often again as is needed, and others of each class below it
abbrev filler : Class → Event
filler c = record { bank = 0; rec = 0; class = c; pri = 0; code = 0; scrub = false; addr = 0; info = 0; suppl = 0; at = 0 }

abbrev repeated : ℕ → Event → List Event → List Event
repeated zero e es = es
repeated (suc n) e es = e ∷ repeated n e es

of_class_repeated : (c n : ℕ) (e : Event) (es : List Event) → of_class c (repeated n e es) ≡ cond (rank e.class == c) n 0 + of_class c es
of_class_repeated c zero e es = by_class (rank e.class == c)
  where
    by_class : (b : Bool) → of_class c es ≡ cond b 0 0 + of_class c es
    by_class true = omega arith
    by_class false = omega arith
of_class_repeated c (suc n) e es = of_class-cons c e (repeated n e es) ∙ by_class (rank e.class == c) (of_class_repeated c n e es)
  where
    by_class : (b : Bool) → of_class c (repeated n e es) ≡ cond b n 0 + of_class c es → cond b 1 0 + of_class c (repeated n e es) ≡ cond b (suc n) 0 + of_class c es
    by_class true h = omega (arith, h)
    by_class false h = omega (arith, h)

abbrev NoneAbove : Event → List Event → Type 0
NoneAbove k [] = Unit {0}
NoneAbove k (e ∷ es) = (ranks_above e k ≡ false) × NoneAbove k es

none_repeated : (k e : Event) (n : ℕ) (es : List Event) → (1 ≤ n → ranks_above e k ≡ false) → NoneAbove k es → NoneAbove k (repeated n e es)
none_repeated k e zero es h rest = rest
none_repeated k e (suc n) es h rest = (h (omega arith), none_repeated k e n es (λ some. h (omega arith)) rest)

fit_repeated : (e : Event) (n : ℕ) (es : List Event) → e.pri < 4 → AllByRecursion (λ (e : Event). e.pri < 4) es → AllByRecursion (λ (e : Event). e.pri < 4) (repeated n e es)
fit_repeated e zero es low rest = rest
fit_repeated e (suc n) es low rest = (low, fit_repeated e n es low rest)

kept_none_above : (k : Event) (es : List Event) → NoneAbove k es → IfSome (kept_of es) (λ m. ranks_above m k ≡ false)
kept_none_above k [] h = tt
kept_none_above k (e ∷ es) h = by_kept (kept_of es) (kept_none_above k es h.1)
  where
    by_kept : (m : Option Event) → IfSome m (λ m. ranks_above m k ≡ false) → ranks_above (kept_with e m) k ≡ false
    by_kept None g = h.0
    by_kept (Some m) g = (elim (ranks_above m e) as (λ b. ranks_above (cond b m e) k ≡ false) [ true ↦ g | false ↦ h.0 ])

kept_first : (k : Event) (es : List Event) → NoneAbove k es → kept_of (k ∷ es) ≡ Some k
kept_first k es h = by_kept (kept_of es) (kept_none_above k es h)
  where
    by_kept : (m : Option Event) → IfSome m (λ m. ranks_above m k ≡ false) → Some (kept_with k m) ≡ Some k
    by_kept None g = refl
    by_kept (Some m) g = rw g refl

abbrev events_made : Event → ℕ → ℕ → ℕ → List Event
events_made k m d n = k ∷ repeated m k (repeated d (filler Deferred) (repeated n (filler Corrected) []))

counts_made : (c : ℕ) (k : Event) (m d n : ℕ) → of_class c (events_made k m d n)
    ≡ cond (rank k.class == c) 1 0 + (cond (rank k.class == c) m 0 + (cond (1 == c) d 0 + (cond (0 == c) n 0 + 0)))
counts_made c k m d n =
    of_class-cons c k (repeated m k (repeated d (filler Deferred) (repeated n (filler Corrected) [])))
    ∙ ap (λ x. cond (rank k.class == c) 1 0 + x)
    (of_class_repeated c m k (repeated d (filler Deferred) (repeated n (filler Corrected) []))
    ∙ ap (λ x. cond (rank k.class == c) m 0 + x)
    (of_class_repeated c d (filler Deferred) (repeated n (filler Corrected) [])
    ∙ ap (λ x. cond (1 == c) d 0 + x) (of_class_repeated c n (filler Corrected) [] ∙ ap (λ x. cond (0 == c) n 0 + x) (of_class-nil c))))

not_above_itself : (s p : ℕ) → (nat_lt s s || ((s == s) && nat_lt p p)) ≡ false
not_above_itself s p = grind arith

not_above_more : (s t p : ℕ) → s ≤ t → (nat_lt t s || ((s == t) && nat_lt p 0)) ≡ false
not_above_more s t p h = grind arith

kept_made : (k : Event) (m d n : ℕ) → (1 ≤ d → 1 ≤ rank k.class) → kept_of (events_made k m d n) ≡ Some k
kept_made k m d n h = kept_first k _
    (none_repeated k k m _ (λ some. not_above_itself (rank k.class) k.pri)
    (none_repeated k (filler Deferred) d _ (λ some. not_above_more 1 (rank k.class) k.pri (h some))
    (none_repeated k (filler Corrected) n [] (λ some. not_above_more 0 (rank k.class) k.pri (omega arith)) tt)))

fit_made : (k : Event) (m d n : ℕ) → k.pri < 4 → AllByRecursion (λ (e : Event). e.pri < 4) (events_made k m d n)
fit_made k m d n low = (low, fit_repeated k m _ low (fit_repeated (filler Deferred) d _ (omega arith) (fit_repeated (filler Corrected) n [] (omega arith) tt)))

-- the counts that these events have, as a view shows them
record Counts (v : RecordView) (es : List Event) : Type 0 where
  ce : nat_lt 0 (of_class 0 es) ≡ v.ce
  ued : nat_lt 0 (of_class 1 es) ≡ v.ued
  uec : nat_lt 0 (of_class 2 es) ≡ v.uec
  mo : nat_lt 1 (of_class (rank v.kept.class) es) ≡ v.mo
  cec : min (of_class 0 es) MOST_COUNTED ≡ v.cec
  ceco : nat_lt MOST_COUNTED (of_class 0 es) ≡ v.ceco

by_counts : (v : RecordView) (es : List Event) → Counts v es → kept_of es ≡ Some v.kept → rec_of es ≡ Some v
by_counts v es h kept =
    ap (option_map (view_of_events es)) kept
    ∙ ap Some (same_view v.kept _ _ _ _ _ _ _ _ _ _ _ _ h.ce h.ued h.uec h.mo h.cec h.ceco)

counts_made_at : (s c : ℕ) (k : Event) (m d n : ℕ) → rank k.class ≡ s → of_class c (events_made k m d n)
    ≡ cond (s == c) 1 0 + (cond (s == c) m 0 + (cond (1 == c) d 0 + (cond (0 == c) n 0 + 0)))
counts_made_at s c k m d n is = subst (λ t. of_class c (events_made k m d n) ≡ cond (t == c) 1 0 + (cond (t == c) m 0 + (cond (1 == c) d 0 + (cond (0 == c) n 0 + 0)))) is (counts_made c k m d n)

-- how many CE there are
abbrev all_corrected : RecordView → ℕ
all_corrected v = cond v.ceco (MOST_COUNTED + 1) v.cec

ce_is : (ce ceco : Bool) (cec : ℕ) → ce ≡ nat_lt 0 cec → IsTrue (not ceco || (cec == MOST_COUNTED)) → nat_lt 0 (cond ceco (MOST_COUNTED + 1) cec) ≡ ce
ce_is ce true cec h full = grind (arith, full)
ce_is ce false cec h full = sym h

cec_is : (ceco : Bool) (cec : ℕ) → cec < 2 ^ 16 → IsTrue (not ceco || (cec == MOST_COUNTED)) → min (cond ceco (MOST_COUNTED + 1) cec) MOST_COUNTED ≡ cec
cec_is true cec fits full = grind (arith, full)
cec_is false cec fits full = grind arith

ceco_is : (ceco : Bool) (cec : ℕ) → cec < 2 ^ 16 → nat_lt MOST_COUNTED (cond ceco (MOST_COUNTED + 1) cec) ≡ ceco
ceco_is true cec fits = refl
ceco_is false cec fits = grind arith

mo_is : (mo ceco : Bool) (cec : ℕ) → mo ≡ nat_lt 1 cec → IsTrue (not ceco || (cec == MOST_COUNTED)) → nat_lt 1 (cond ceco (MOST_COUNTED + 1) cec) ≡ mo
mo_is mo true cec h full = grind (arith, full)
mo_is mo false cec h full = sym h

some_corrected : (ceco : Bool) (cec : ℕ) → 1 ≤ cec → 1 ≤ cond ceco (MOST_COUNTED + 1) cec
some_corrected true cec h = omega arith
some_corrected false cec h = h

second_kept : (mo : Bool) → nat_lt 1 (1 + (cond mo 1 0 + (0 + (0 + 0)))) ≡ mo
second_kept true = refl
second_kept false = refl

deferred_shown : (b : Bool) → nat_lt 0 (0 + (0 + (cond b 1 0 + 0))) ≡ b
deferred_shown true = refl
deferred_shown false = refl

some_shown : (n : ℕ) → nat_lt 0 (1 + n) ≡ true
some_shown n = grind arith

record Lower (ued uec : Bool) (s : ℕ) : Type 0 where
  uec_is : uec ≡ (s == 2)
  ued_is : s < 2 → ued ≡ (s == 1)

lower : (s : ℕ) (ued uec : Bool) → s ≡ cond uec 2 (cond ued 1 0) → Lower ued uec s
lower s true true h = record { uec_is = grind arith; ued_is = λ small. grind arith }
lower s true false h = record { uec_is = grind arith; ued_is = λ small. grind arith }
lower s false true h = record { uec_is = grind arith; ued_is = λ small. grind arith }
lower s false false h = record { uec_is = grind arith; ued_is = λ small. grind arith }

-- the CE among these events, where the kept one isn't one of them
counts_at : (s : ℕ) (v : RecordView) (m d : ℕ) → rank v.kept.class ≡ s → 1 ≤ s → of_class 0 (events_made v.kept m d (all_corrected v)) ≡ all_corrected v
counts_at s v m d is more = counts_made_at s 0 v.kept m d (all_corrected v) is ∙ none (s == 0) (grind arith)
  where
    none : (b : Bool) → b ≡ false → cond b 1 0 + (cond b m 0 + (0 + (all_corrected v + 0))) ≡ all_corrected v
    none true h = cc
    none false h = omega arith

abbrev Leads : RecordView → Type 0
Leads v = (es : List Event) × LeadTo es v

leads_by : (v : RecordView) (m d n : ℕ) → IsReachable v → (1 ≤ d → 1 ≤ rank v.kept.class) → Counts v (events_made v.kept m d n) → Leads v
leads_by v m d n h room counts = (
  events_made v.kept m d n,
  record {
    pris_fit = fit_made v.kept m d n h.sound.pri_fits;
    shows = by_counts v (events_made v.kept m d n) counts (kept_made v.kept m d n room);
  },
)

reached_by : (c : Class) (v : RecordView) → v.kept.class ≡ c → v.cec < 2 ^ 16 → IsReachable v → Leads v
reached_by Corrected v is fits h =
    let zero_is : rank v.kept.class ≡ 0 = ap rank is in
    let flags : Lower v.ued v.uec 0 = lower 0 v.ued v.uec (sym zero_is ∙ ap rank h.sound.class_is ∙ rank_of_flag v.ued v.uec) in
    let some : 1 ≤ v.cec = some_counted v.ce v.ued v.uec (rank v.kept.class) v.cec h.sound.flagged (ap rank h.sound.class_is ∙ rank_of_flag v.ued v.uec) h.counted zero_is in
    let all = all_corrected v in
    let least : 1 ≤ all = some_corrected v.ceco v.cec some in
    let n0 : of_class 0 (events_made v.kept 0 0 (all - 1)) ≡ all = counts_made_at 0 0 v.kept 0 0 (all - 1) zero_is ∙ omega (arith, least) in
    leads_by v 0 0 (all - 1) h (λ d. omega arith) (record {
      ce = ap (nat_lt 0) n0 ∙ ce_is v.ce v.ceco v.cec h.counted h.sound.full;
      ued = ap (nat_lt 0) (counts_made_at 0 1 v.kept 0 0 (all - 1) zero_is) ∙ sym (flags.ued_is (omega arith));
      uec = ap (nat_lt 0) (counts_made_at 0 2 v.kept 0 0 (all - 1) zero_is) ∙ sym flags.uec_is;
      mo = ap (λ s. nat_lt 1 (of_class s (events_made v.kept 0 0 (all - 1)))) zero_is ∙ ap (nat_lt 1) n0 ∙ mo_is v.mo v.ceco v.cec (h.others is) h.sound.full;
      cec = ap (λ n. min n MOST_COUNTED) n0 ∙ cec_is v.ceco v.cec fits h.sound.full;
      ceco = ap (nat_lt MOST_COUNTED) n0 ∙ ceco_is v.ceco v.cec fits;
    })
reached_by Deferred v is fits h =
    let one_is : rank v.kept.class ≡ 1 = ap rank is in
    let flags : Lower v.ued v.uec 1 = lower 1 v.ued v.uec (sym one_is ∙ ap rank h.sound.class_is ∙ rank_of_flag v.ued v.uec) in
    let all = all_corrected v in
    let m : ℕ = cond v.mo 1 0 in
    let n0 : of_class 0 (events_made v.kept m 0 all) ≡ all = counts_at 1 v m 0 one_is (omega arith) in
    leads_by v m 0 all h (λ d. omega arith) (record {
      ce = ap (nat_lt 0) n0 ∙ ce_is v.ce v.ceco v.cec h.counted h.sound.full;
      ued = ap (nat_lt 0) (counts_made_at 1 1 v.kept m 0 all one_is) ∙ some_shown _ ∙ sym (flags.ued_is (omega arith));
      uec = ap (nat_lt 0) (counts_made_at 1 2 v.kept m 0 all one_is) ∙ sym flags.uec_is;
      mo = ap (λ s. nat_lt 1 (of_class s (events_made v.kept m 0 all))) one_is ∙ ap (nat_lt 1) (counts_made_at 1 1 v.kept m 0 all one_is) ∙ second_kept v.mo;
      cec = ap (λ n. min n MOST_COUNTED) n0 ∙ cec_is v.ceco v.cec fits h.sound.full;
      ceco = ap (nat_lt MOST_COUNTED) n0 ∙ ceco_is v.ceco v.cec fits;
    })
reached_by Critical v is fits h =
    let two_is : rank v.kept.class ≡ 2 = ap rank is in
    let flags : Lower v.ued v.uec 2 = lower 2 v.ued v.uec (sym two_is ∙ ap rank h.sound.class_is ∙ rank_of_flag v.ued v.uec) in
    let all = all_corrected v in
    let m : ℕ = cond v.mo 1 0 in
    let d : ℕ = cond v.ued 1 0 in
    let n0 : of_class 0 (events_made v.kept m d all) ≡ all = counts_at 2 v m d two_is (omega arith) in
    leads_by v m d all h (λ some. omega (arith, two_is)) (record {
      ce = ap (nat_lt 0) n0 ∙ ce_is v.ce v.ceco v.cec h.counted h.sound.full;
      ued = ap (nat_lt 0) (counts_made_at 2 1 v.kept m d all two_is) ∙ deferred_shown v.ued;
      uec = ap (nat_lt 0) (counts_made_at 2 2 v.kept m d all two_is) ∙ some_shown _ ∙ sym flags.uec_is;
      mo = ap (λ s. nat_lt 1 (of_class s (events_made v.kept m d all))) two_is ∙ ap (nat_lt 1) (counts_made_at 2 2 v.kept m d all two_is) ∙ second_kept v.mo;
      cec = ap (λ n. min n MOST_COUNTED) n0 ∙ cec_is v.ceco v.cec fits h.sound.full;
      ceco = ap (nat_lt MOST_COUNTED) n0 ∙ ceco_is v.ceco v.cec fits;
    })

pub reached : (v : RecordView) → CountFits (Some v) → IsReachable v → Leads v
reached v fits h = reached_by v.kept.class v refl fits h

-- each state of a record stands for lists
pub held_stands : (bank rec : ℕ) (s : RecState) → IsRecordHeld bank rec s → CountFits s.kept → (r : RecordLists) × (s ≡ shown r)
held_stands bank rec s h fits = by_kept s.kept refl h.reachable fits
  where
    listed : (k : Option RecordView) (es : List Event) → s.kept ≡ k → rec_of es ≡ k → (r : RecordLists) × (s ≡ shown r)
    listed k es is led = (
      record { events = es; rdip = s.rdip; control = s.control; staged = s.staged },
      ap (λ (o : Option RecordView). let t : RecState = record { kept = o; rdip = s.rdip; control = s.control; staged = s.staged } in t) (is ∙ sym led),
    )

    by_kept : (k : Option RecordView) → s.kept ≡ k → IfSome k IsReachable → CountFits k → (r : RecordLists) × (s ≡ shown r)
    by_kept None is reachable below = listed None [] is refl
    by_kept (Some v) is reachable below = let led = reached v below reachable in listed (Some v) led.0 is led.1.shows
