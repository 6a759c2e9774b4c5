-- What the calls of the banks do to each record.
use Rattle.std.proofs.Common.{◌≡◌, ℕ, zero, suc, ◌+◌, ◌*◌, ◌==◌, Bool, true, false, not, ◌&&◌, nat_lt, cond, Option, refl, ap, ◌∙◌, arith}
use Rattle.poison_mem.specs.declared.event.Event.{Event}
use Rattle.reri_bank.specs.declared.state.RecState.{RecState}
use Rattle.reri_bank.specs.declared.state.Staged.{Staged}
use Rattle.reri_bank.specs.State.{state_logged, state_written}
use Rattle.reri_bank.specs.declared.layout.TheConstants.{CONTROL, STRIDE}
use Rattle.reri_bank.specs.BankState.{BankState}
use Rattle.reri_bank.specs.BanksState.{BanksState}
use Rattle.reri_bank.specs.Bank.{is_hart, with_record, state_staged, bank_written}
use Rattle.reri_bank.specs.Banks.{with_bank, with_record_of, stamped, banks_logged, banks_written, banks_staged}
use Rattle.poison_mem.specs.RecordId.{bank_number, record_number, names_record}
use Rattle.poison_mem.specs.declared.record_id.RecordId.{RecordId}
use Rattle.poison_mem.specs.declared.record_id.RecordId.TheVariants.{Read, Scrub, L1, L2, Hart}
use Rattle.reri_bank.specs.StateAt.{state_at, EachRecord, is_record, HaveKinds}

-- a change of one record
pub changed_at : (q p : RecordId) (f : RecState → RecState) (b : BanksState)
    → state_at (with_bank b (bank_number q) (λ k. with_record k (record_number q) f)) p ≡ cond (is_record (bank_number q) (record_number q) p) (f (state_at b p)) (state_at b p)
changed_at Read Read f b = refl
changed_at Read Scrub f b = refl
changed_at Read L1 f b = refl
changed_at Read L2 f b = refl
changed_at Read Hart f b = refl
changed_at Scrub Read f b = refl
changed_at Scrub Scrub f b = refl
changed_at Scrub L1 f b = refl
changed_at Scrub L2 f b = refl
changed_at Scrub Hart f b = refl
changed_at L1 Read f b = refl
changed_at L1 Scrub f b = refl
changed_at L1 L1 f b = refl
changed_at L1 L2 f b = refl
changed_at L1 Hart f b = refl
changed_at L2 Read f b = refl
changed_at L2 Scrub f b = refl
changed_at L2 L1 f b = refl
changed_at L2 L2 f b = refl
changed_at L2 Hart f b = refl
changed_at Hart Read f b = refl
changed_at Hart Scrub f b = refl
changed_at Hart L1 f b = refl
changed_at Hart L2 f b = refl
changed_at Hart Hart f b = refl

pub staged_at : (q p : RecordId) (t : Option Staged) (b : BanksState)
    → state_at (banks_staged b (bank_number q) (record_number q) t) p ≡ cond (is_record (bank_number q) (record_number q) p) (state_staged t (state_at b p)) (state_at b p)
staged_at q p t b = changed_at q p (state_staged t) b

-- a write to the control register of a record
written_by : Bool → BankState → ℕ → ℕ → BankState
written_by hart k offset v =
    cond (offset == CONTROL) (with_record k 0 (λ s. state_written hart s v))
    (cond ((offset == CONTROL + STRIDE) && not hart) (with_record k 1 (λ s. state_written hart s v)) k)

pub one_written : (q : RecordId) (v : ℕ) (b : BanksState) → HaveKinds b
    → banks_written b (bank_number q) (CONTROL + STRIDE * record_number q) v ≡ with_bank b (bank_number q) (λ k. with_record k (record_number q) (λ s. state_written (bank_number q == 2) s v))
unfolding written_by
one_written Read v b h = ap (λ k. with_bank b 0 (λ l. written_by (is_hart k) l CONTROL v)) h.memory
one_written Scrub v b h = ap (λ k. with_bank b 0 (λ l. written_by (is_hart k) l (CONTROL + STRIDE) v)) h.memory
one_written L1 v b h = ap (λ k. with_bank b 1 (λ l. written_by (is_hart k) l CONTROL v)) h.caches
one_written L2 v b h = ap (λ k. with_bank b 1 (λ l. written_by (is_hart k) l (CONTROL + STRIDE) v)) h.caches
one_written Hart v b h = ap (λ k. with_bank b 2 (λ l. written_by (is_hart k) l CONTROL v)) h.hart

pub written_at : (q p : RecordId) (v : ℕ) (b : BanksState) → HaveKinds b
    → state_at (banks_written b (bank_number q) (CONTROL + STRIDE * record_number q) v) p ≡ cond (is_record (bank_number q) (record_number q) p) (state_written (bank_number q == 2) (state_at b p) v) (state_at b p)
written_at q p v b h = ap (λ (c : BanksState). state_at c p) (one_written q v b h) ∙ changed_at q p (λ s. state_written (bank_number q == 2) s v) b

-- numbers that name a record are those of one, and others of none
pub record_named : (bank rec : ℕ) → names_record bank rec ≡ true → (q : RecordId) × ((bank ≡ bank_number q) × (rec ≡ record_number q))
record_named zero zero h = (Read, (refl, refl))
record_named zero (suc zero) h = (Scrub, (refl, refl))
record_named zero (suc (suc n)) h = absurd (grind arith)
record_named (suc zero) zero h = (L1, (refl, refl))
record_named (suc zero) (suc zero) h = (L2, (refl, refl))
record_named (suc zero) (suc (suc n)) h = absurd (grind arith)
record_named (suc (suc zero)) zero h = (Hart, (refl, refl))
record_named (suc (suc zero)) (suc n) h = absurd (grind arith)
record_named (suc (suc (suc m))) n h = absurd (grind arith)

no_record : (bank rec : ℕ) (p : RecordId) → names_record bank rec ≡ false → is_record bank rec p ≡ false
no_record bank rec Read h = grind arith
no_record bank rec Scrub h = grind arith
no_record bank rec L1 h = grind arith
no_record bank rec L2 h = grind arith
no_record bank rec Hart h = grind arith

named_with : (bank rec : ℕ) (q p : RecordId) (f : RecState → RecState) (b : BanksState) → bank ≡ bank_number q → rec ≡ record_number q
    → state_at (with_bank b bank (λ k. with_record k rec f)) p ≡ cond (is_record bank rec p) (f (state_at b p)) (state_at b p)
named_with bank rec q p f b bank_is rec_is = rw (bank_is, rec_is) (changed_at q p f b)

named_at : (bank rec : ℕ) (p : RecordId) (f : RecState → RecState) (b : BanksState) → names_record bank rec ≡ true
    → state_at (with_bank b bank (λ k. with_record k rec f)) p ≡ cond (is_record bank rec p) (f (state_at b p)) (state_at b p)
named_at bank rec p f b h =
    let q = record_named bank rec h in
    named_with bank rec q.0 p f b q.1.0 q.1.1

pub logged_at : (e : Event) (p : RecordId) (b : BanksState)
    → state_at (banks_logged b e) p ≡ cond (not (nat_lt 3 e.pri) && is_record e.bank e.rec p) (state_logged (state_at b p) (stamped b.step e)) (state_at b p)
logged_at e p b = by_pri (nat_lt 3 e.pri)
  where
    to : BanksState
    to = with_bank b e.bank (λ k. with_record k e.rec (λ s. state_logged s (stamped b.step e)))

    by_name : (named : Bool) → names_record e.bank e.rec ≡ named → state_at (cond named to b) p ≡ cond (is_record e.bank e.rec p) (state_logged (state_at b p) (stamped b.step e)) (state_at b p)
    by_name true h = named_at e.bank e.rec p (λ s. state_logged s (stamped b.step e)) b h
    by_name false h = rw (no_record e.bank e.rec p h) refl

    by_pri : (high : Bool) → state_at (cond high b (cond (names_record e.bank e.rec) to b)) p ≡ cond (not high && is_record e.bank e.rec p) (state_logged (state_at b p) (stamped b.step e)) (state_at b p)
    by_pri true = refl
    by_pri false = by_name (names_record e.bank e.rec) refl

-- what holds of every state and itself, and of every state and its change, holds of each record where one is changed
record BothRecords (Holds : RecState → RecState → Type 0) (before after : BankState) : Type 0 where
  first : Holds before.first after.first
  second : Holds before.second after.second

pub record HoldsOfChange (Holds : RecState → RecState → Type 0) (change : RecState → RecState) : Type 0 where
  pub itself : (s : RecState) → Holds s s
  pub changed : (s : RecState) → Holds s (change s)

in_record : (Holds : RecState → RecState → Type 0) (change : RecState → RecState) → HoldsOfChange Holds change → (first : Bool) (k : BankState)
    → BothRecords Holds k (cond first (record { kind = k.kind; first = change k.first; second = k.second }) (record { kind = k.kind; first = k.first; second = change k.second }))
in_record Holds change h true k = record { first = h.changed k.first; second = h.itself k.second }
in_record Holds change h false k = record { first = h.itself k.first; second = h.changed k.second }

in_bank : (Holds : RecState → RecState → Type 0) (change : BankState → BankState) → ((s : RecState) → Holds s s) → ((k : BankState) → BothRecords Holds k (change k)) → (memory caches : Bool) (b : BanksState)
    → EachRecord Holds b (cond memory (record { memory = change b.memory; caches = b.caches; hart = b.hart; step = b.step })
    (cond caches (record { memory = b.memory; caches = change b.caches; hart = b.hart; step = b.step }) (record { memory = b.memory; caches = b.caches; hart = change b.hart; step = b.step })))
in_bank Holds change itself h true caches b Read = (h b.memory).first
in_bank Holds change itself h true caches b Scrub = (h b.memory).second
in_bank Holds change itself h true caches b L1 = itself _
in_bank Holds change itself h true caches b L2 = itself _
in_bank Holds change itself h true caches b Hart = itself _
in_bank Holds change itself h false true b Read = itself _
in_bank Holds change itself h false true b Scrub = itself _
in_bank Holds change itself h false true b L1 = (h b.caches).first
in_bank Holds change itself h false true b L2 = (h b.caches).second
in_bank Holds change itself h false true b Hart = itself _
in_bank Holds change itself h false false b Read = itself _
in_bank Holds change itself h false false b Scrub = itself _
in_bank Holds change itself h false false b L1 = itself _
in_bank Holds change itself h false false b L2 = itself _
in_bank Holds change itself h false false b Hart = (h b.hart).first

pub each_changed : (Holds : RecState → RecState → Type 0) (change : RecState → RecState) → HoldsOfChange Holds change → (b : BanksState) (bank rec : ℕ)
    → EachRecord Holds b (with_record_of b bank rec change)
each_changed Holds change h b bank rec =
    in_bank Holds (λ k. with_record k rec change) h.itself (in_record Holds change h (rec == 0)) (bank == 0) (bank == 1) b

pub each_logged : (Holds : RecState → RecState → Type 0) (b : BanksState) (e : Event) → HoldsOfChange Holds (λ s. state_logged s (stamped b.step e)) → EachRecord Holds b (banks_logged b e)
each_logged Holds b e h id = by_pri (nat_lt 3 e.pri) (names_record e.bank e.rec)
  where
    by_pri : (high named : Bool) → Holds (state_at b id) (state_at (cond high b (cond named (with_record_of b e.bank e.rec (λ s. state_logged s (stamped b.step e))) b)) id)
    by_pri true named = h.itself _
    by_pri false true = each_changed Holds (λ s. state_logged s (stamped b.step e)) h b e.bank e.rec id
    by_pri false false = h.itself _

pub each_written : (Holds : RecState → RecState → Type 0) → ((always_logs : Bool) (v : ℕ) → HoldsOfChange Holds (λ s. state_written always_logs s v)) → (b : BanksState) (bank offset v : ℕ)
    → EachRecord Holds b (banks_written b bank offset v)
each_written Holds h b bank offset v =
    in_bank Holds (λ k. bank_written k offset v) (h true v).itself (λ k. by_offset k (offset == CONTROL) ((offset == CONTROL + STRIDE) && not (is_hart k.kind))) (bank == 0) (bank == 1) b
  where
    by_offset : (k : BankState) (is_first is_second : Bool)
        → BothRecords Holds k (cond is_first (with_record k 0 (λ s. state_written (is_hart k.kind) s v)) (cond is_second (with_record k 1 (λ s. state_written (is_hart k.kind) s v)) k))
    by_offset k true is_second = record { first = (h (is_hart k.kind) v).changed k.first; second = (h true v).itself k.second }
    by_offset k false true = record { first = (h true v).itself k.first; second = (h (is_hart k.kind) v).changed k.second }
    by_offset k false false = record { first = (h true v).itself k.first; second = (h true v).itself k.second }
