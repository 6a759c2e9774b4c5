-- What the drain's steps and the calls of the banks leave, and what they do to each record.
use Rattle.std.proofs.Common.{◌≡◌, ℕ, ◌/◌, ◌%◌, ◌^◌, ◌==◌, Bool, true, false, cond, nat_lt, None, refl, ap, ◌∙◌, arith}
use Rattle.poison_mem.specs.declared.event.Event.{Event}
use Rattle.poison_mem.specs.declared.record_id.RecordId.{RecordId}
use Rattle.poison_mem.specs.declared.record_id.RecordId.TheVariants.{Read, Scrub, L1, L2, Hart}
use Rattle.poison_mem.specs.RecordId.{names_record}
use Rattle.ras_bits.specs.Bits.{has_bit}
use Rattle.reri_bank.specs.declared.layout.Control.{Control}
use Rattle.reri_bank.specs.declared.layout.TheConstants.{SINV, SRDP}
use Rattle.reri_bank.specs.declared.state.RecState.{RecState}
use Rattle.reri_bank.specs.Bank.{with_record}
use Rattle.reri_bank.specs.Banks.{with_bank, banks_logged, stamped}
use Rattle.reri_bank.specs.BankState.{BankState}
use Rattle.reri_bank.specs.BanksState.{BanksState}
use Rattle.reri_bank.specs.State.{state_logged, state_written, control_after}
use Rattle.reri_bank.specs.StateAt.{state_at, HaveKinds}
use Rattle.ras_firmware.specs.Drain.{note_of, marked, cleared, notes_of, marked_banks, cleared_banks}
use Rattle.ras_firmware.specs.Notes.{Notes, no_notes, note_at}

-- a change of one record leaves the step and the kinds
kind_stays : (first : Bool) (k : BankState) (s t : RecState)
    → (let l : BankState = cond first (record { kind = k.kind; first = s; second = k.second }) (record { kind = k.kind; first = k.first; second = t }) in l).kind ≡ k.kind
kind_stays true k s t = refl
kind_stays false k s t = refl

-- the step and the kinds stay
pub record Stays (b c : BanksState) : Type 0 where
  pub step : c.step ≡ b.step
  pub memory : c.memory.kind ≡ b.memory.kind
  pub caches : c.caches.kind ≡ b.caches.kind
  pub hart : c.hart.kind ≡ b.hart.kind

stays_by : (c d : Bool) (b : BanksState) (f : BankState → BankState) → ((k : BankState) → (f k).kind ≡ k.kind)
    → Stays b (cond c (record { memory = f b.memory; caches = b.caches; hart = b.hart; step = b.step })
    (cond d (record { memory = b.memory; caches = f b.caches; hart = b.hart; step = b.step }) (record { memory = b.memory; caches = b.caches; hart = f b.hart; step = b.step })))
stays_by true d b f h = record { step = refl; memory = h b.memory; caches = refl; hart = refl }
stays_by false true b f h = record { step = refl; memory = refl; caches = h b.caches; hart = refl }
stays_by false false b f h = record { step = refl; memory = refl; caches = refl; hart = h b.hart }

pub one_stays : (b : BanksState) (bank rec : ℕ) (f : RecState → RecState) → Stays b (with_bank b bank (λ k. with_record k rec f))
one_stays b bank rec f = stays_by (bank == 0) (bank == 1) b (λ k. with_record k rec f) (λ k. kind_stays (rec == 0) k (f k.first) (f k.second))

pub none_stays : (b : BanksState) → Stays b b
none_stays b = record { step = refl; memory = refl; caches = refl; hart = refl }

pub log_stays : (e : Event) (b : BanksState) → Stays b (banks_logged b e)
log_stays e b = by_pri (nat_lt 3 e.pri) (names_record e.bank e.rec)
  where
    to : BanksState
    to = with_bank b e.bank (λ k. with_record k e.rec (λ s. state_logged s (stamped b.step e)))

    by_pri : (high named : Bool) → Stays b (cond high b (cond named to b))
    by_pri true named = none_stays b
    by_pri false true = one_stays b e.bank e.rec (λ s. state_logged s (stamped b.step e))
    by_pri false false = none_stays b

pub still_kinds : (b c : BanksState) → Stays b c → HaveKinds b → HaveKinds c
still_kinds b c h k = record { memory = h.memory ∙ k.memory; caches = h.caches ∙ k.caches; hart = h.hart ∙ k.hart }

-- the drain's steps of a record
pub marked_at : (p : RecordId) (b : BanksState) → state_at (marked_banks b) p ≡ marked (state_at b p)
marked_at Read b = refl
marked_at Scrub b = refl
marked_at L1 b = refl
marked_at L2 b = refl
marked_at Hart b = refl

pub noted_at : (p : RecordId) (b : BanksState) → note_at (notes_of b) p ≡ note_of (state_at b p)
noted_at Read b = refl
noted_at Scrub b = refl
noted_at L1 b = refl
noted_at L2 b = refl
noted_at Hart b = refl

pub cleared_at : (p : RecordId) (n : Notes) (b : BanksState) → state_at (cleared_banks n b) p ≡ cleared (note_at n p) (state_at b p)
cleared_at Read n b = refl
cleared_at Scrub n b = refl
cleared_at L1 n b = refl
cleared_at L2 n b = refl
cleared_at Hart n b = refl

pub unnoted_at : (p : RecordId) → note_at no_notes p ≡ None
unnoted_at Read = refl
unnoted_at Scrub = refl
unnoted_at L1 = refl
unnoted_at L2 = refl
unnoted_at Hart = refl

-- a write whose upper half is 0 sets the control alone
abbrev pub controlled : Control → RecState → RecState
controlled control s = record { kept = s.kept; rdip = s.rdip; control = control; staged = s.staged }

pub plain_written : (hart : Bool) (s : RecState) (v : ℕ) → state_written hart s (v % 2 ^ 32) ≡ controlled (control_after hart (v % 2 ^ 32)) s
plain_written hart s v =
    let no_sinv : has_bit (v % 2 ^ 32) SINV ≡ false = clear SINV (omega arith) in
    let no_srdp : has_bit (v % 2 ^ 32) SRDP ≡ false = clear SRDP (omega arith) in
    rw (no_sinv, no_srdp) refl
  where
    clear : (id : ℕ) → v % 2 ^ 32 / 2 ^ id % 2 ^ 1 ≡ 0 → has_bit (v % 2 ^ 32) id ≡ false
    clear id h = ap (λ n. n == 1) h
