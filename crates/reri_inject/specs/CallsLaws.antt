-- What waits for each record, and what is logged to it, goes by its lines.
use Rattle.std.proofs.Common.{◌≡◌, ℕ, ◌+◌, ◌-◌, ◌<◌, ◌≤◌, Bool, true, false, nat_lt, cond, List, [], ◌∷◌, ◌++◌, Option, Some, None, refl, sym, subst, ap, ◌∙◌, arith}
use Rattle.std.specs.List.{AllByRecursion}
use Rattle.poison_mem.specs.declared.event.Event.{Event}
use Rattle.poison_mem.specs.RecordId.{bank_number, record_number}
use Rattle.poison_mem.specs.declared.record_id.RecordId.{RecordId}
use Rattle.poison_mem.specs.declared.record_id.RecordId.TheVariants.{Read, Scrub, L1, L2, Hart}
use Rattle.reri_bank.specs.declared.state.RecState.{RecState}
use Rattle.reri_bank.specs.declared.state.Staged.{Staged}
use Rattle.reri_bank.specs.Record.{with_event}
use Rattle.reri_bank.specs.State.{state_logged}
use Rattle.reri_bank.specs.StateLaws.{logged_staged, written_staged}
use Rattle.reri_bank.specs.Bank.{state_staged}
use Rattle.reri_bank.specs.BanksState.{BanksState}
use Rattle.reri_bank.specs.Banks.{banks_logged, banks_written, banks_staged, stamped}
use Rattle.reri_bank.specs.StateAt.{state_at, is_record}
use Rattle.reri_bank.specs.StateAtLaws.{staged_at, each_logged, each_written}
use Rattle.reri_inject.specs.Due.{Injection, InjectLine, staged_in}
use Rattle.reri_inject.specs.DueLaws.{injection_of, left_staged, line_staged, step_counts, fired_due, due_fired}
use Rattle.reri_inject.specs.Inject.{Counted, counted, Rests, Waits, Fires, staged_now, state_as, state_counted, begun}
use Rattle.reri_inject.specs.Calls.{KeepsStaged, AreStaged, due_event, apart, IsCounted, LogsDue, LogsNothing}

-- a log and a write of a register stage nothing and take nothing away
pub log_keeps : (b : BanksState) (e : Event) → KeepsStaged b (banks_logged b e)
log_keeps b e = each_logged (λ s t. t.staged ≡ s.staged) b e (record { itself = λ s. refl; changed = λ s. logged_staged s (stamped b.step e) })

pub write_keeps : (b : BanksState) (bank offset v : ℕ) → KeepsStaged b (banks_written b bank offset v)
write_keeps b bank offset v = each_written (λ s t. t.staged ≡ s.staged) (λ always v. record { itself = λ s. refl; changed = λ s. written_staged always s v }) b bank offset v

-- the beginning of a step, for one record
pub counted_at : (id : RecordId) (n : ℕ) (b : BanksState) → bank_number id < 2 → state_at (begun n b) id ≡ state_counted n (bank_number id) (record_number id) (state_at b id)
counted_at Read n b h = refl
counted_at Scrub n b h = refl
counted_at L1 n b h = refl
counted_at L2 n b h = refl
counted_at Hart n b h = absurd (omega arith)

rests_none : (o : Option Staged) → counted o ≡ Rests → o ≡ None
rests_none None h = refl
rests_none (Some s) h = rests_by (nat_lt 1 s.left) (record { class = s.class; addr = s.addr; left = s.left - 1 }) s h
  where
    rests_by : (b : Bool) (x y : Staged) → cond b (Waits x) (Fires y) ≡ Rests → Some s ≡ None
    rests_by true x y e = cc
    rests_by false x y e = cc

as_staged : (c : Counted) (n : ℕ) (id : RecordId) (s : RecState) → counted s.staged ≡ c → (state_as c n (bank_number id) (record_number id) s).staged ≡ left_staged c
as_staged Rests n id s h = rests_none s.staged h
as_staged (Waits t) n id s h = refl
as_staged (Fires t) n id s h = logged_staged (state_staged None s) (due_event n id (injection_of t))

pub begun_staged : (id : RecordId) (n : ℕ) (b : BanksState) → bank_number id < 2 → (state_at (begun n b) id).staged ≡ left_staged (counted (state_at b id).staged)
begun_staged id n b h = ap (λ (s : RecState). s.staged) (counted_at id n b h) ∙ as_staged (counted (state_at b id).staged) n id (state_at b id) refl

logged_apart : (s : RecState) (e : Event) → apart (state_logged (apart s) e) ≡ apart (state_logged s e)
logged_apart s e = by_logging s.control.logging
  where
    by_logging : (b : Bool) → apart (cond b (record { kept = Some (with_event s.kept e); rdip = false; control = s.control; staged = None }) (apart s))
        ≡ apart (cond b (record { kept = Some (with_event s.kept e); rdip = false; control = s.control; staged = s.staged }) s)
    by_logging true = refl
    by_logging false = refl

as_counted : (c : Counted) (lines : List InjectLine) (n : ℕ) (id : RecordId) (s : RecState) → AllByRecursion (λ (l : InjectLine). 1 ≤ l.delay) lines → counted (staged_in n lines) ≡ c
    → IsCounted lines (n + 1) id s (state_as c (n + 1) (bank_number id) (record_number id) s)
as_counted Rests lines n id s delayed h = LogsNothing (λ i is. let fires = due_fired n lines i delayed is in cc) refl
as_counted (Waits t) lines n id s delayed h = LogsNothing (λ i is. let fires = due_fired n lines i delayed is in cc) refl
as_counted (Fires t) lines n id s delayed h = LogsDue (injection_of t) (fired_due n lines t h) (logged_apart s (due_event (n + 1) id (injection_of t)))

pub begun_counts : (lines : List InjectLine) (n : ℕ) (id : RecordId) (b : BanksState) → bank_number id < 2 → AllByRecursion (λ (l : InjectLine). 1 ≤ l.delay) lines
    → (state_at b id).staged ≡ staged_in n lines → IsCounted lines (n + 1) id (state_at b id) (state_at (begun (n + 1) b) id)
begun_counts lines n id b below delayed staged =
    subst (IsCounted lines (n + 1) id (state_at b id)) (sym (counted_at id (n + 1) b below))
    (as_counted (counted (state_at b id).staged) lines n id (state_at b id) delayed (ap counted (sym staged)))

-- what is staged of all records: by a line, and by the beginning of a step
pub staged_line : (lines : RecordId → List InjectLine) (n delay : ℕ) (i : Injection) (other : RecordId) (b : BanksState) → 1 ≤ delay → AreStaged lines n b
    → AreStaged (λ id. cond (is_record (bank_number other) (record_number other) id) (lines id ++ record { step = n; delay = delay; injection = i } ∷ []) (lines id)) n
    (banks_staged b (bank_number other) (record_number other) (Some (staged_now i.class delay i.addr)))
staged_line lines n delay i other b some staged id below =
    ap (λ (s : RecState). s.staged) (staged_at other id (Some (staged_now i.class delay i.addr)) b) ∙ by_record (is_record (bank_number other) (record_number other) id)
  where
    by_record : (same : Bool) → (cond same (state_staged (Some (staged_now i.class delay i.addr)) (state_at b id)) (state_at b id)).staged
        ≡ staged_in n (cond same (lines id ++ record { step = n; delay = delay; injection = i } ∷ []) (lines id))
    by_record true = sym (line_staged n delay i (lines id) some)
    by_record false = staged id below

pub staged_begun : (lines : RecordId → List InjectLine) (n : ℕ) (b : BanksState) → ((id : RecordId) → AllByRecursion (λ (l : InjectLine). l.step ≤ n) (lines id)) → AreStaged lines n b
    → AreStaged lines (n + 1) (begun (n + 1) b)
staged_begun lines n b past staged id below =
    begun_staged id (n + 1) b below ∙ ap (λ (o : Option Staged). left_staged (counted o)) (staged id below) ∙ sym (step_counts n (lines id) (past id))
