-- A critical event that is first kept in a step is that of an injection which is due in it, unless a critical event is logged.
use Rattle.std.proofs.Common.{◌≡◌, ℕ, ◌+◌, ◌==◌, ◌<◌, ◌≤◌, Bool, true, false, cond, List, [], ◌∷◌, ◌++◌, Option, Some, None, ◌⊎◌, inl, inr, refl, sym, subst, ap, ◌∙◌, arith}
use Rattle.poison_mem.specs.declared.event.Class.{Class}
use Rattle.poison_mem.specs.declared.event.Class.TheVariants.{Corrected, Deferred, Critical}
use Rattle.poison_mem.specs.declared.event.Event.{Event}
use Rattle.poison_mem.specs.declared.event.RecordView.{RecordView}
use Rattle.std.specs.List.{AllByRecursion}
use Rattle.poison_mem.specs.Bus.{logged_all}
use Rattle.poison_mem.specs.RecordId.{bank_number, record_number}
use Rattle.poison_mem.specs.declared.record_id.RecordId.{RecordId}
use Rattle.poison_mem.specs.declared.record_id.RecordId.TheVariants.{Read, Scrub, L1, L2, Hart}
use Rattle.reri_bank.specs.declared.state.RecState.{RecState}
use Rattle.reri_bank.specs.declared.state.Staged.{Staged}
use Rattle.reri_bank.specs.Record.{rank, ranks_above, with_event}
use Rattle.reri_bank.specs.State.{state_logged}
use Rattle.reri_bank.specs.StateLaws.{written_kept}
use Rattle.reri_bank.specs.Bank.{state_staged}
use Rattle.reri_bank.specs.BanksState.{BanksState}
use Rattle.reri_bank.specs.Banks.{banks_logged, banks_written, banks_staged, stamped, is_critical, first_critical}
use Rattle.reri_bank.specs.StateAt.{state_at}
use Rattle.reri_bank.specs.StateAtLaws.{each_changed, each_logged, each_written}
use Rattle.reri_inject.specs.Due.{Injection, InjectLine, IsDue, staged_in}
use Rattle.reri_inject.specs.DueLaws.{injection_of, fired_due, due_fired, all_at}
use Rattle.reri_inject.specs.Inject.{Counted, counted, Rests, Waits, Fires, state_as, begun}
use Rattle.reri_inject.specs.Calls.{AreStaged, due_event}
use Rattle.reri_inject.specs.CallsLaws.{counted_at}
use Rattle.reri_inject.specs.Critical.{critical_event, BringsNoCritical, KeepsOrEmpties, critical_at, NoCriticalIsDue, KeepsDueCritical}

-- a kept critical event was kept before, or is the one that was logged
by_critical : (b : Bool) (k f : Event) → cond b (Some k) None ≡ Some f → (k ≡ f) × (b ≡ true)
by_critical true k f h = (cc, refl)
by_critical false k f h = cc

kept_critical : (s : RecState) (e f : Event) → critical_event (Some (with_event s.kept e)) ≡ Some f → (critical_event s.kept ≡ Some f) ⊎ ((e ≡ f) × (rank e.class == 2 ≡ true))
unfolding with_event
kept_critical s e f h = by_kept s.kept h
  where
    by_above : (above : Bool) (k : Event) → (let kept : Event = cond above e k in cond (rank kept.class == 2) (Some kept) None) ≡ Some f
        → (cond (rank k.class == 2) (Some k) None ≡ Some f) ⊎ ((e ≡ f) × (rank e.class == 2 ≡ true))
    by_above true k g = inr (by_critical (rank e.class == 2) e f g)
    by_above false k g = inl g

    by_kept : (kept : Option RecordView) → critical_event (Some (with_event kept e)) ≡ Some f → (critical_event kept ≡ Some f) ⊎ ((e ≡ f) × (rank e.class == 2 ≡ true))
    by_kept None g = inr (by_critical (rank e.class == 2) e f g)
    by_kept (Some v) g = by_above (ranks_above e v.kept) v.kept g

logged_critical : (s : RecState) (e f : Event) → critical_event (state_logged s e).kept ≡ Some f → (critical_event s.kept ≡ Some f) ⊎ ((e ≡ f) × (rank e.class == 2 ≡ true))
logged_critical s e f h = by_logging s.control.logging h
  where
    by_logging : (b : Bool) → critical_event (cond b (record { kept = Some (with_event s.kept e); rdip = false; control = s.control; staged = s.staged }) s).kept ≡ Some f
        → (critical_event s.kept ≡ Some f) ⊎ ((e ≡ f) × (rank e.class == 2 ≡ true))
    by_logging true g = kept_critical s e f g
    by_logging false g = inl g

-- what brings no critical event: a log of another, a write, a staging, whatever keeps or empties each record, and one such after the other
pub log_brings_none : (b : BanksState) (e : Event) → (rank e.class == 2) ≡ false → BringsNoCritical b (banks_logged b e)
log_brings_none b e other = each_logged (λ s t. (f : Event) → critical_event t.kept ≡ Some f → critical_event s.kept ≡ Some f) b e
    (record { itself = λ s f h. h; changed = λ s f h. old s f (logged_critical s (stamped b.step e) f h) })
  where
    old : (s : RecState) (f : Event) → (critical_event s.kept ≡ Some f) ⊎ ((stamped b.step e ≡ f) × (rank e.class == 2 ≡ true)) → critical_event s.kept ≡ Some f
    old s f (inl h) = h
    old s f (inr h) = cc

pub logs_bring_none : (b : BanksState) (es : List Event) → AllByRecursion (λ (e : Event). (rank e.class == 2) ≡ false) es → BringsNoCritical b (logged_all banks_logged b es)
logs_bring_none b [] others id f h = h
logs_bring_none b (e ∷ es) others id f h = log_brings_none b e others.0 id f (logs_bring_none (banks_logged b e) es others.1 id f h)

pub keeping_brings_none : (b c : BanksState) → KeepsOrEmpties b c → BringsNoCritical b c
keeping_brings_none b c keeps id f h = old (state_at b id) (state_at c id) f (keeps id) h
  where
    none_kept : (k : Option RecordView) (f : Event) → k ≡ None → critical_event k ≡ Some f → ⊥
    none_kept None f h g = cc
    none_kept (Some v) f h g = cc

    old : (s t : RecState) (f : Event) → (t.kept ≡ s.kept) ⊎ (t.kept ≡ None) → critical_event t.kept ≡ Some f → critical_event s.kept ≡ Some f
    old s t f (inl h) g = ap critical_event (sym h) ∙ g
    old s t f (inr h) g = absurd (none_kept t.kept f h g)

pub write_brings_none : (b : BanksState) (bank offset v : ℕ) → BringsNoCritical b (banks_written b bank offset v)
write_brings_none b bank offset v = keeping_brings_none b (banks_written b bank offset v)
    (each_written (λ s t. (t.kept ≡ s.kept) ⊎ (t.kept ≡ None)) (λ always w. record { itself = λ s. inl refl; changed = λ s. written_kept always s w }) b bank offset v)

pub staging_brings_none : (b : BanksState) (bank rec : ℕ) (t : Option Staged) → BringsNoCritical b (banks_staged b bank rec t)
staging_brings_none b bank rec t = each_changed (λ s u. (f : Event) → critical_event u.kept ≡ Some f → critical_event s.kept ≡ Some f) (state_staged t)
    (record { itself = λ s f h. h; changed = λ s f h. h }) b bank rec

pub bring_none : (a b c : BanksState) → BringsNoCritical a b → BringsNoCritical b c → BringsNoCritical a c
bring_none a b c h k id e g = h id e (k id e g)

-- the records that keep a critical event
none_critical : (k : Option RecordView) → is_critical k ≡ false → critical_event k ≡ None
none_critical None h = refl
none_critical (Some v) h = rw h refl

some_critical : (k : Option RecordView) → is_critical k ≡ true → (e : Event) × (critical_event k ≡ Some e)
some_critical None h = cc
some_critical (Some v) h = (v.kept, rw h refl)

abbrev first_of : Bool → Bool → Bool → Bool → Bool → Option (ℕ × ℕ)
first_of a b c d e = cond a (Some (0, 0)) (cond b (Some (0, 1)) (cond c (Some (1, 0)) (cond d (Some (1, 1)) (cond e (Some (2, 0)) None))))

abbrev five : Bool → Bool → Bool → Bool → Bool → RecordId → Bool
five a b c d e Read = a
five a b c d e Scrub = b
five a b c d e L1 = c
five a b c d e L2 = d
five a b c d e Hart = e

none_of : (a b c d e : Bool) → first_of a b c d e ≡ None → (id : RecordId) → five a b c d e id ≡ false
none_of true b c d e h id = cc
none_of false true c d e h id = cc
none_of false false true d e h id = cc
none_of false false false true e h id = cc
none_of false false false false true h id = cc
none_of false false false false false h Read = refl
none_of false false false false false h Scrub = refl
none_of false false false false false h L1 = refl
none_of false false false false false h L2 = refl
none_of false false false false false h Hart = refl

record Names (a b c d e : Bool) (bank rec : ℕ) : Type 0 where
  id : RecordId
  bank_is : bank ≡ bank_number id
  rec_is : rec ≡ record_number id
  is : five a b c d e id ≡ true

same_pair : (p q : ℕ × ℕ) → Some p ≡ Some q → q ≡ p
same_pair p q h = cc

one_of : (a b c d e : Bool) (bank rec : ℕ) → first_of a b c d e ≡ Some (bank, rec) → Names a b c d e bank rec
one_of true b c d e bank rec h = record { id = Read; bank_is = ap (λ (p : ℕ × ℕ). p.0) (same_pair (0, 0) (bank, rec) h); rec_is = ap (λ (p : ℕ × ℕ). p.1) (same_pair (0, 0) (bank, rec) h); is = refl }
one_of false true c d e bank rec h = record { id = Scrub; bank_is = ap (λ (p : ℕ × ℕ). p.0) (same_pair (0, 1) (bank, rec) h); rec_is = ap (λ (p : ℕ × ℕ). p.1) (same_pair (0, 1) (bank, rec) h); is = refl }
one_of false false true d e bank rec h = record { id = L1; bank_is = ap (λ (p : ℕ × ℕ). p.0) (same_pair (1, 0) (bank, rec) h); rec_is = ap (λ (p : ℕ × ℕ). p.1) (same_pair (1, 0) (bank, rec) h); is = refl }
one_of false false false true e bank rec h = record { id = L2; bank_is = ap (λ (p : ℕ × ℕ). p.0) (same_pair (1, 1) (bank, rec) h); rec_is = ap (λ (p : ℕ × ℕ). p.1) (same_pair (1, 1) (bank, rec) h); is = refl }
one_of false false false false true bank rec h = record { id = Hart; bank_is = ap (λ (p : ℕ × ℕ). p.0) (same_pair (2, 0) (bank, rec) h); rec_is = ap (λ (p : ℕ × ℕ). p.1) (same_pair (2, 0) (bank, rec) h); is = refl }
one_of false false false false false bank rec h = cc

five_is : (b : BanksState) (id : RecordId) → five (is_critical b.memory.first.kept) (is_critical b.memory.second.kept) (is_critical b.caches.first.kept) (is_critical b.caches.second.kept) (is_critical b.hart.first.kept) id
    ≡ is_critical (state_at b id).kept
five_is b Read = refl
five_is b Scrub = refl
five_is b L1 = refl
five_is b L2 = refl
five_is b Hart = refl

pub none_kept : (b : BanksState) → first_critical b ≡ None → (id : RecordId) → critical_event (state_at b id).kept ≡ None
none_kept b h id = none_critical (state_at b id).kept (sym (five_is b id) ∙ none_of _ _ _ _ _ h id)

-- a bank and a number name a record that keeps a critical event
pub record NamesCritical (b : BanksState) (bank rec : ℕ) : Type 0 where
  pub id : RecordId
  pub bank_is : bank ≡ bank_number id
  pub rec_is : rec ≡ record_number id
  pub kept : (e : Event) × (critical_event (state_at b id).kept ≡ Some e)

pub first_names : (b : BanksState) (bank rec : ℕ) → first_critical b ≡ Some (bank, rec) → NamesCritical b bank rec
first_names b bank rec h = record { id = one.id; bank_is = one.bank_is; rec_is = one.rec_is; kept = some_critical (state_at b one.id).kept (sym (five_is b one.id) ∙ one.is) }
  where
    one : Names (is_critical b.memory.first.kept) (is_critical b.memory.second.kept) (is_critical b.caches.first.kept) (is_critical b.caches.second.kept) (is_critical b.hart.first.kept) bank rec
    one = one_of _ _ _ _ _ bank rec h

-- so where none is kept and none comes, none is kept after
pub none_stay : (b c : BanksState) → first_critical b ≡ None → BringsNoCritical b c → first_critical c ≡ None
none_stay b c none brings = by_first (first_critical c) refl
  where
    not_kept : (id : RecordId) → (e : Event) × (critical_event (state_at c id).kept ≡ Some e) → ⊥
    not_kept id kept =
        let before = none_kept b none id in
        let after = brings id kept.0 kept.1 in
        cc

    by_first : (o : Option (ℕ × ℕ)) → first_critical c ≡ o → first_critical c ≡ None
    by_first None h = h
    by_first (Some p) h = let one = first_names c p.0 p.1 h in absurd (not_kept one.id one.kept)

-- the beginning of a step
class_of_rank : (c : Class) → (rank c == 2) ≡ true → c ≡ Critical
class_of_rank Corrected h = cc
class_of_rank Deferred h = cc
class_of_rank Critical h = refl

-- an event is that of a critical injection which is due in step n
pub record IsDueEvent (lines : List InjectLine) (n : ℕ) (id : RecordId) (e : Event) : Type 0 where
  pub addr : ℕ
  pub due : IsDue lines n (critical_at addr)
  pub event : due_event n id (critical_at addr) ≡ e

count_brings : (c : Counted) (lines : List InjectLine) (n : ℕ) (id : RecordId) (s : RecState) (e : Event) → counted (staged_in n lines) ≡ c
    → critical_event (state_as c (n + 1) (bank_number id) (record_number id) s).kept ≡ Some e → (critical_event s.kept ≡ Some e) ⊎ IsDueEvent lines (n + 1) id e
count_brings Rests lines n id s e is h = inl h
count_brings (Waits t) lines n id s e is h = inl h
count_brings (Fires t) lines n id s e is h = by_log (logged_critical (state_staged None s) (due_event (n + 1) id (injection_of t)) e h)
  where
    with_class : (i : Injection) → i.class ≡ Critical → i ≡ critical_at i.addr
    with_class i h = ap (λ (c : Class). let j : Injection = record { class = c; addr = i.addr } in j) h

    by_log : (critical_event s.kept ≡ Some e) ⊎ ((due_event (n + 1) id (injection_of t) ≡ e) × (rank t.class == 2 ≡ true)) → (critical_event s.kept ≡ Some e) ⊎ IsDueEvent lines (n + 1) id e
    by_log (inl g) = inl g
    by_log (inr g) =
        let same = with_class (injection_of t) (class_of_rank t.class g.1) in
        inr (record {
          addr = t.addr;
          due = subst (IsDue lines (n + 1)) same (fired_due n lines t is);
          event = ap (due_event (n + 1) id) (sym same) ∙ g.0;
        })

pub begun_brings : (lines : RecordId → List InjectLine) (n : ℕ) (b : BanksState) (id : RecordId) (e : Event) → AreStaged lines n b
    → critical_event (state_at (begun (n + 1) b) id).kept ≡ Some e → (critical_event (state_at b id).kept ≡ Some e) ⊎ IsDueEvent (lines id) (n + 1) id e
begun_brings lines n b Hart e staged h = inl h
begun_brings lines n b Read e staged h = count_brings (counted b.memory.first.staged) (lines Read) n Read b.memory.first e (ap counted (sym (staged Read (omega arith)))) h
begun_brings lines n b Scrub e staged h = count_brings (counted b.memory.second.staged) (lines Scrub) n Scrub b.memory.second e (ap counted (sym (staged Scrub (omega arith)))) h
begun_brings lines n b L1 e staged h = count_brings (counted b.caches.first.staged) (lines L1) n L1 b.caches.first e (ap counted (sym (staged L1 (omega arith)))) h
begun_brings lines n b L2 e staged h = count_brings (counted b.caches.second.staged) (lines L2) n L2 b.caches.second e (ap counted (sym (staged L2 (omega arith)))) h

pub critical_is_due : (lines : RecordId → List InjectLine) (n : ℕ) (b c : BanksState) (bank rec : ℕ) → AreStaged lines n b → first_critical b ≡ None → BringsNoCritical (begun (n + 1) b) c
    → first_critical c ≡ Some (bank, rec) → KeepsDueCritical lines (n + 1) c bank rec
critical_is_due lines n b c bank rec staged none brings first = by_begun (begun_brings lines n b one.id one.kept.0 staged (brings one.id one.kept.0 one.kept.1))
  where
    one : NamesCritical c bank rec
    one = first_names c bank rec first

    by_begun : (critical_event (state_at b one.id).kept ≡ Some one.kept.0) ⊎ IsDueEvent (lines one.id) (n + 1) one.id one.kept.0 → KeepsDueCritical lines (n + 1) c bank rec
    by_begun (inl h) = let no = none_kept b none one.id in cc
    by_begun (inr new) = record {
      id = one.id;
      bank_is = one.bank_is;
      rec_is = one.rec_is;
      addr = new.addr;
      due = new.due;
      keeps = one.kept.1 ∙ ap (λ (e : Event). Some e) (sym new.event);
    }

-- a critical event outranks what a record without one keeps
critical_with : (k : Option RecordView) (e : Event) → critical_event k ≡ None → e.class ≡ Critical → critical_event (Some (with_event k e)) ≡ Some e
unfolding with_event
critical_with None e h is = rw is refl
critical_with (Some v) e h is = by_class v.kept.class refl
  where
    by_class : (c : Class) → v.kept.class ≡ c → critical_event (Some (with_event (Some v) e)) ≡ Some e
    by_class Corrected k = rw (k, is) refl
    by_class Deferred k = rw (k, is) refl
    by_class Critical k = let no : critical_event (Some v) ≡ Some v.kept = rw k refl in cc

pub critical_logged : (s : RecState) (e : Event) → s.control.logging ≡ true → critical_event s.kept ≡ None → e.class ≡ Critical → critical_event (state_logged s e).kept ≡ Some e
critical_logged s e logs none is = rw logs (critical_with s.kept e none is)

-- what is due is kept, where its record logs
pub due_is_kept : (lines : RecordId → List InjectLine) (n : ℕ) (b : BanksState) (id : RecordId) (addr : ℕ) → bank_number id < 2 → AllByRecursion (λ (l : InjectLine). 1 ≤ l.delay) (lines id)
    → AreStaged lines n b → first_critical b ≡ None → (state_at b id).control.logging ≡ true → IsDue (lines id) (n + 1) (critical_at addr)
    → KeepsDueCritical lines (n + 1) (begun (n + 1) b) (bank_number id) (record_number id)
due_is_kept lines n b id addr below delayed staged none logs due = record {
  id = id;
  bank_is = refl;
  rec_is = refl;
  addr = addr;
  due = due;
  keeps = ap (λ (s : RecState). critical_event s.kept) (counted_at id (n + 1) b below)
      ∙ ap (λ (c : Counted). critical_event (state_as c (n + 1) (bank_number id) (record_number id) (state_at b id)).kept)
      (ap counted (staged id below) ∙ due_fired n (lines id) (critical_at addr) delayed due)
      ∙ critical_logged (state_staged None (state_at b id)) (due_event (n + 1) id (critical_at addr)) logs (none_kept b none id) refl;
}

-- where none is due, and where nothing is staged, none comes
pub none_where_not_due : (lines : RecordId → List InjectLine) (n : ℕ) (b c : BanksState) → AreStaged lines n b → first_critical b ≡ None → NoCriticalIsDue lines (n + 1)
    → BringsNoCritical (begun (n + 1) b) c → first_critical c ≡ None
none_where_not_due lines n b c staged none not_due brings = by_first (first_critical c) refl
  where
    by_first : (o : Option (ℕ × ℕ)) → first_critical c ≡ o → first_critical c ≡ None
    by_first None h = h
    by_first (Some p) h = let one = critical_is_due lines n b c p.0 p.1 staged none brings h in absurd (not_due one.id one.addr one.due)

pub unstaged_kept : (id : RecordId) (n : ℕ) (b : BanksState) → (bank_number id < 2 → (state_at b id).staged ≡ None) → (state_at (begun n b) id).kept ≡ (state_at b id).kept
unstaged_kept Read n b h = ap (λ (o : Option Staged). (state_as (counted o) n 0 0 b.memory.first).kept) (h (omega arith))
unstaged_kept Scrub n b h = ap (λ (o : Option Staged). (state_as (counted o) n 0 1 b.memory.second).kept) (h (omega arith))
unstaged_kept L1 n b h = ap (λ (o : Option Staged). (state_as (counted o) n 1 0 b.caches.first).kept) (h (omega arith))
unstaged_kept L2 n b h = ap (λ (o : Option Staged). (state_as (counted o) n 1 1 b.caches.second).kept) (h (omega arith))
unstaged_kept Hart n b h = refl

pub none_where_unstaged : (n : ℕ) (b c : BanksState) → ((id : RecordId) → bank_number id < 2 → (state_at b id).staged ≡ None) → first_critical b ≡ None → BringsNoCritical (begun n b) c
    → first_critical c ≡ None
none_where_unstaged n b c unstaged none brings =
    none_stay b c none (bring_none b (begun n b) c (keeping_brings_none b (begun n b) (λ id. inl (unstaged_kept id n b (unstaged id)))) brings)

-- lines of a step or of later ones make nothing due in it
all_front : {X : Type 0} (P : X → Type 0) (xs ys : List X) → AllByRecursion P (xs ++ ys) → AllByRecursion P xs
all_front P [] ys h = tt
all_front P (x ∷ xs) ys h = (h.0, all_front P xs ys h.1)

behind_one : (l : InjectLine) (lines : List InjectLine) (n : ℕ) (i : Injection) → IsDue lines n i → IsDue (l ∷ lines) n i
behind_one l lines n i is = record {
  before = l ∷ is.before;
  line = is.line;
  behind = is.behind;
  among = ap (λ (ls : List InjectLine). l ∷ ls) is.among;
  due = is.due;
  injects = is.injects;
  last = is.last;
}

due_among : (n : ℕ) (i : Injection) (lines more before : List InjectLine) (line : InjectLine) (behind : List InjectLine) → AllByRecursion (λ (l : InjectLine). n ≤ l.step) more
    → AllByRecursion (λ (l : InjectLine). 1 ≤ l.delay) more → lines ++ more ≡ before ++ line ∷ behind → line.step + line.delay ≡ n → line.injection ≡ i
    → AllByRecursion (λ (l : InjectLine). n ≤ l.step) behind → IsDue lines n i
due_among n i [] more before line behind late delayed among due injects last =
    let step : n ≤ line.step = all_at (λ (l : InjectLine). n ≤ l.step) before line behind (subst (AllByRecursion (λ (l : InjectLine). n ≤ l.step)) among late) in
    let delay : 1 ≤ line.delay = all_at (λ (l : InjectLine). 1 ≤ l.delay) before line behind (subst (AllByRecursion (λ (l : InjectLine). 1 ≤ l.delay)) among delayed) in
    absurd (omega arith)
due_among n i (l ∷ lines) more [] line behind late delayed among due injects last =
    let same : l ≡ line = cc in
    let rest : lines ++ more ≡ behind = cc in
    record {
      before = [];
      line = l;
      behind = lines;
      among = refl;
      due = subst (λ (k : InjectLine). k.step + k.delay ≡ n) (sym same) due;
      injects = ap (λ (k : InjectLine). k.injection) same ∙ injects;
      last = all_front (λ (k : InjectLine). n ≤ k.step) lines more (subst (AllByRecursion (λ (k : InjectLine). n ≤ k.step)) (sym rest) last);
    }
due_among n i (l ∷ lines) more (b ∷ before) line behind late delayed among due injects last =
    behind_one l lines n i (due_among n i lines more before line behind late delayed (cc) due injects last)

pub later_not_due : (lines more : RecordId → List InjectLine) (n : ℕ) → ((id : RecordId) → AllByRecursion (λ (l : InjectLine). n ≤ l.step) (more id))
    → ((id : RecordId) → AllByRecursion (λ (l : InjectLine). 1 ≤ l.delay) (more id)) → NoCriticalIsDue lines n → NoCriticalIsDue (λ id. lines id ++ more id) n
later_not_due lines more n late delayed not_due id addr is =
    not_due id addr (due_among n (critical_at addr) (lines id) (more id) is.before is.line is.behind (late id) (delayed id) is.among is.due is.injects is.last)
