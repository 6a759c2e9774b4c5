-- What a record shows of events is reachable.
use Rattle.std.proofs.Common.{◌≡◌, ℕ, ◌+◌, ◌==◌, ◌<◌, ◌≤◌, Bool, true, false, ◌||◌, ◌&&◌, not, nat_lt, cond, List, [], ◌∷◌, Option, Some, None, IsTrue, IfSome, refl, subst, sym, ap, ◌∙◌, arith}
use Rattle.poison_mem.specs.declared.event.Class.{Class}
use Rattle.poison_mem.specs.declared.event.Class.TheVariants.{Corrected, Deferred, Critical}
use Rattle.poison_mem.specs.declared.event.Event.{Event}
use Rattle.poison_mem.specs.declared.event.RecordView.{RecordView}
use Rattle.reri_bank.specs.declared.state.RecState.{RecState}
use Rattle.reri_bank.specs.declared.record.TheConstants.{MOST_COUNTED}
use Rattle.reri_bank.specs.Record.{rank, ranks_above, kept_with, kept_of, of_class, view_of_events, rec_of, with_event}
use Rattle.reri_bank.specs.Views.{IsReachable, IsOf}
use Rattle.reri_bank.specs.State.{IsRecordHeld, state_logged}
use Rattle.reri_bank.specs.ViewsLaws.{next_names}
use Rattle.reri_bank.specs.RecordLaws.{kept_occurs, none_above}
use Rattle.poison_mem.specs.RecordView.{greatest_flag}
use Rattle.std.specs.List.{AllByRecursion}

kept_low : (x : Event) (k : Option Event) → x.pri < 4 → ((k' : Event) → k ≡ Some k' → k'.pri < 4) → (kept_with x k).pri < 4
kept_low x None low h = low
kept_low x (Some k) low h = (elim (ranks_above k x) as (λ b. (cond b k x).pri < 4) [ true ↦ h k refl | false ↦ low ])

all_low : (x : Event) (es : List Event) → AllByRecursion (λ (e : Event). e.pri < 4) (x ∷ es) → (kept_with x (kept_of es)).pri < 4
all_low x [] h = h.0
all_low x (y ∷ es) h = kept_low x (Some (kept_with y (kept_of es))) h.0 (λ k e. subst (λ (o : Option Event). IfSome o (λ v. v.pri < 4)) e (all_low y es h.1))

-- what is shown of events with a kept one, by its class
shown_of : (c : Class) (k : Event) (es : List Event) → k.class ≡ c → k.pri < 4 → 1 ≤ of_class (rank c) es
    → ((n : ℕ) → rank c < n → of_class n es ≡ 0) → IsReachable (view_of_events es k)
shown_of Corrected k es is low some none =
    let n1 : of_class 1 es ≡ 0 = none 1 (omega arith) in
    let n2 : of_class 2 es ≡ 0 = none 2 (omega arith) in
    record {
      sound = record {
        flagged = grind (arith, some);
        class_is = rw (n1, n2) is;
        pri_fits = low;
        full = grind arith;
      };
      counted = grind arith;
      others = λ h. rw is (grind arith);
    }
shown_of Deferred k es is low some none =
    let n2 : of_class 2 es ≡ 0 = none 2 (omega arith) in
    let y1 : nat_lt 0 (of_class 1 es) ≡ true = grind (arith, some) in
    record {
      sound = record {
        flagged = grind (arith, some);
        class_is = rw (y1, n2) is;
        pri_fits = low;
        full = grind arith;
      };
      counted = grind arith;
      others = λ h. cc;
    }
shown_of Critical k es is low some none =
    let y2 : nat_lt 0 (of_class 2 es) ≡ true = grind (arith, some) in
    record {
      sound = record {
        flagged = grind (arith, some);
        class_is = rw y2 is;
        pri_fits = low;
        full = grind arith;
      };
      counted = grind arith;
      others = λ h. cc;
    }

pub shown_reachable : (es : List Event) (v : RecordView) → AllByRecursion (λ (e : Event). e.pri < 4) es → rec_of es ≡ Some v → IsReachable v
shown_reachable [] v low h = cc
shown_reachable (x ∷ es) v low h =
    let k = kept_with x (kept_of es) in
    let shown : IsReachable (view_of_events (x ∷ es) k) = shown_of k.class k (x ∷ es) refl (all_low x es low) (kept_occurs x es) (λ n. none_above n x es) in
    subst (λ (o : Option RecordView). IfSome o IsReachable) h shown

-- classes by their ranks
pub rank_of_flag : (ued uec : Bool) → rank (greatest_flag ued uec) ≡ cond uec 2 (cond ued 1 0)
rank_of_flag true true = refl
rank_of_flag true false = refl
rank_of_flag false true = refl
rank_of_flag false false = refl

flag_of_rank : (c : Class) (ued uec : Bool) → rank c ≡ cond uec 2 (cond ued 1 0) → c ≡ greatest_flag ued uec
flag_of_rank Corrected true true h = grind arith
flag_of_rank Corrected true false h = grind arith
flag_of_rank Corrected false true h = grind arith
flag_of_rank Corrected false false h = refl
flag_of_rank Deferred true true h = grind arith
flag_of_rank Deferred true false h = refl
flag_of_rank Deferred false true h = grind arith
flag_of_rank Deferred false false h = grind arith
flag_of_rank Critical true true h = refl
flag_of_rank Critical true false h = grind arith
flag_of_rank Critical false true h = refl
flag_of_rank Critical false false h = grind arith

rank_small : (c : Class) → rank c ≤ 2
rank_small Corrected = omega arith
rank_small Deferred = omega arith
rank_small Critical = omega arith

-- one event more
rank_kept : (b : Bool) (e k : Event) → rank (cond b e k).class ≡ cond b (rank e.class) (rank k.class)
rank_kept true e k = refl
rank_kept false e k = refl

class_after : (se sk pe pk : ℕ) (ued uec : Bool) → se ≤ 2 → sk ≡ cond uec 2 (cond ued 1 0)
    → cond (nat_lt sk se || ((se == sk) && nat_lt pk pe)) se sk ≡ cond (uec || (se == 2)) 2 (cond (ued || (se == 1)) 1 0)
class_after se sk pe pk true true small is = grind arith
class_after se sk pe pk true false small is = grind arith
class_after se sk pe pk false true small is = grind arith
class_after se sk pe pk false false small is = grind arith

flagged_after : (a b c x y z : Bool) → IsTrue (a || b || c) → IsTrue ((a || x) || (b || y) || (c || z))
flagged_after a b c x y z h = grind (arith, h)

full_after : (corrected ceco : Bool) (cec : ℕ) → IsTrue (not ceco || (cec == MOST_COUNTED))
    → IsTrue (not (cond (corrected && (cec == MOST_COUNTED)) true ceco) || (cond (corrected && nat_lt cec MOST_COUNTED) (cec + 1) cec == MOST_COUNTED))
full_after true true cec h = grind (arith, h)
full_after true false cec h = grind arith
full_after false ceco cec h = h

counted_after : (ce corrected : Bool) (cec : ℕ) → ce ≡ nat_lt 0 cec → (ce || corrected) ≡ nat_lt 0 (cond (corrected && nat_lt cec MOST_COUNTED) (cec + 1) cec)
counted_after ce true cec h = grind arith
counted_after ce false cec h = grind arith

pub some_counted : (ce ued uec : Bool) (sk cec : ℕ) → IsTrue (ce || ued || uec) → sk ≡ cond uec 2 (cond ued 1 0) → ce ≡ nat_lt 0 cec → sk ≡ 0 → 1 ≤ cec
some_counted true ued uec sk cec flagged is counted none = grind arith
some_counted false true true sk cec flagged is counted none = grind arith
some_counted false true false sk cec flagged is counted none = grind arith
some_counted false false true sk cec flagged is counted none = grind arith
some_counted false false false sk cec flagged is counted none = grind (arith, flagged)

others_after : (se sk pe pk cec : ℕ) (mo : Bool) → (sk ≡ 0 → 1 ≤ cec) → cond (nat_lt sk se || ((se == sk) && nat_lt pk pe)) se sk ≡ 0
    → cond (nat_lt sk se) false (mo || (se == sk)) ≡ nat_lt 1 (cond ((se == 0) && nat_lt cec MOST_COUNTED) (cec + 1) cec)
others_after se sk pe pk cec mo some least = both (grind arith) (grind arith)
  where
    both : se ≡ 0 → sk ≡ 0 → cond (nat_lt sk se) false (mo || (se == sk)) ≡ nat_lt 1 (cond ((se == 0) && nat_lt cec MOST_COUNTED) (cec + 1) cec)
    both a b = let c = some b in grind arith

more_reachable : (v : RecordView) (e : Event) → IsReachable v → e.pri < 4 → IsReachable (with_event (Some v) e)
unfolding with_event
more_reachable v e h low =
    let se = rank e.class in
    let sk = rank v.kept.class in
    let is : sk ≡ cond v.uec 2 (cond v.ued 1 0) = ap rank h.sound.class_is ∙ rank_of_flag v.ued v.uec in
    let above = ranks_above e v.kept in
    record {
      sound = record {
        flagged = flagged_after v.ce v.ued v.uec (se == 0) (se == 1) (se == 2) h.sound.flagged;
        class_is = flag_of_rank _ _ _ (rank_kept above e v.kept ∙ class_after se sk e.pri v.kept.pri v.ued v.uec (rank_small e.class) is);
        pri_fits = (elim above as (λ b. (cond b e v.kept).pri < 4) [ true ↦ low | false ↦ h.sound.pri_fits ]);
        full = full_after (se == 0) v.ceco v.cec h.sound.full;
      };
      counted = counted_after v.ce (se == 0) v.cec h.counted;
      others = λ c. others_after se sk e.pri v.kept.pri v.cec v.mo (some_counted v.ce v.ued v.uec sk v.cec h.sound.flagged is h.counted) (sym (rank_kept above e v.kept) ∙ ap rank c);
    }

one_reachable : (c : Class) (e : Event) → e.class ≡ c → e.pri < 4 → IsReachable (with_event None e)
unfolding with_event
one_reachable Corrected e is low = record { sound = record { flagged = rw is refl; class_is = rw is refl; pri_fits = low; full = refl }; counted = rw is refl; others = λ h. rw h refl }
one_reachable Deferred e is low = record { sound = record { flagged = rw is refl; class_is = rw is refl; pri_fits = low; full = refl }; counted = rw is refl; others = λ h. rw h refl }
one_reachable Critical e is low = record { sound = record { flagged = rw is refl; class_is = rw is refl; pri_fits = low; full = refl }; counted = rw is refl; others = λ h. rw h refl }

next_reachable : (k : Option RecordView) (e : Event) → IfSome k IsReachable → e.pri < 4 → IsReachable (with_event k e)
next_reachable None e h low = one_reachable e.class e refl low
next_reachable (Some v) e h low = more_reachable v e h low

held_with : (bank rec : ℕ) (s : RecState) (e : Event) (b : Bool) → IsOf bank rec e → e.pri < 4 → IsRecordHeld bank rec s
    → IsRecordHeld bank rec (cond b (record { kept = Some (with_event s.kept e); rdip = false; control = s.control; staged = s.staged }) s)
held_with bank rec s e true names low h = record {
  reachable = next_reachable s.kept e h.reachable low;
  names = next_names bank rec s.kept e h.names names;
  rdip = refl;
  ces = h.ces;
  ueds = h.ueds;
  uecs = h.uecs;
  left = h.left;
  logs = h.logs;
  unstaged = h.unstaged;
}
held_with bank rec s e false names low h = h

pub held_logged : (bank rec : ℕ) (s t : RecState) (e : Event) → t ≡ state_logged s e → IsOf bank rec e → e.pri < 4 → IsRecordHeld bank rec s → IsRecordHeld bank rec t
held_logged bank rec s t e is names low h = subst (IsRecordHeld bank rec) (sym is) (held_with bank rec s e s.control.logging names low h)
