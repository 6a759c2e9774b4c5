-- What the drain reads and writes of a record's registers.
use Rattle.std.proofs.Common.{◌≡◌, ℕ, zero, suc, ◌+◌, ◌*◌, ◌==◌, ◌<◌, ◌⊎◌, inl, inr, Bool, true, false, ◌||◌, cond, Option, Some, None, IfSome, refl, subst, sym, ap, ◌∙◌, arith}
use Rattle.poison_mem.specs.declared.event.RecordView.{RecordView}
use Rattle.ras_bits.specs.Fields.{with_field}
use Rattle.reri_bank.specs.declared.bank.BankKind.{BankKind}
use Rattle.reri_bank.specs.declared.bank.BankKind.TheVariants.{Memory, Caches, Hart}
use Rattle.reri_bank.specs.declared.layout.Control.{Control}
use Rattle.reri_bank.specs.declared.state.RecState.{RecState}
use Rattle.reri_bank.specs.Layout.{control_word, control_value, status_word}
use Rattle.reri_bank.specs.State.{IsRecordHeld, control_after, state_marked, state_emptied, state_written}
use Rattle.reri_bank.specs.Views.{IsReachable, PriFits}
use Rattle.reri_bank.specs.BankState.{BankState, AreHeld, kind_number}
use Rattle.reri_bank.specs.BanksState.{BanksState}
use Rattle.reri_bank.specs.Bank.{record_count, is_hart, record_at, with_record, eid_of, record_register, register_at, bank_written}
use Rattle.reri_bank.specs.Banks.{bank_at, with_bank, records_of, banks_written}
use Rattle.ras_bits.specs.Bits.{has_bit}
use Rattle.std.specs.Int.{from_bool}
use Rattle.ras_bits.specs.BitsLaws.{flag_small}
use Rattle.reri_bank.specs.declared.layout.TheConstants.{CONTROL, STRIDE, STATUS, SINV, SRDP, RDIP}
use Rattle.reri_bank.specs.ControlFields.{ControlFields}
use Rattle.reri_bank.specs.LayoutLaws.{srdp_fields, sinv_fields, control_by_fields, control_back, rdip_shown}

-- the registers of a record of a bank
register_of : (kind : BankKind) (first second : RecState) (rec offset : ℕ) → rec < record_count kind → (offset ≡ 0) ⊎ (offset ≡ STATUS)
    → (let b : BankState = record { kind = kind; first = first; second = second } in register_at b (CONTROL + STRIDE * rec + offset) ≡ record_register (record_at b rec) offset)
register_of kind first second zero offset h (inl p) = rw p refl
register_of kind first second zero offset h (inr p) = rw p refl
register_of Memory first second (suc zero) offset h (inl p) = rw p refl
register_of Memory first second (suc zero) offset h (inr p) = rw p refl
register_of Caches first second (suc zero) offset h (inl p) = rw p refl
register_of Caches first second (suc zero) offset h (inr p) = rw p refl
register_of Hart first second (suc zero) offset h p = absurd (omega arith)
register_of Memory first second (suc (suc n)) offset h p = absurd (omega arith)
register_of Caches first second (suc (suc n)) offset h p = absurd (omega arith)
register_of Hart first second (suc (suc n)) offset h p = absurd (omega arith)

pub status_read : (b : BankState) (rec : ℕ) → rec < record_count b.kind → register_at b (CONTROL + STRIDE * rec + STATUS) ≡ Some (status_word (record_at b rec).kept (record_at b rec).control.cece (record_at b rec).rdip)
status_read b rec h = register_of b.kind b.first b.second rec STATUS h (inr refl)

pub held_at : (b : BankState) (rec : ℕ) → AreHeld b → rec < record_count b.kind → IsRecordHeld (kind_number b.kind) rec (record_at b rec)
held_at b zero h below = h.first
held_at b (suc zero) h below = h.second
held_at b (suc (suc n)) h below = absurd (too_many b.kind n below)
  where
    too_many : (kind : BankKind) (n : ℕ) → suc (suc n) < record_count kind → ⊥
    too_many Memory n h = omega arith
    too_many Caches n h = omega arith
    too_many Hart n h = omega arith

-- `rdip` of the status register
pub rdip_read : (bank rec : ℕ) (s : RecState) → IsRecordHeld bank rec s → has_bit (status_word s.kept s.control.cece s.rdip) RDIP ≡ s.rdip
rdip_read bank rec s h = rdip_shown s.kept s.control.cece s.rdip (fits s.kept h.reachable) h.rdip
  where
    fits : (k : Option RecordView) → IfSome k IsReachable → PriFits k
    fits None reachable = tt
    fits (Some v) reachable = reachable.sound.pri_fits

logs_still : (logging always : Bool) → (always ≡ true → logging ≡ true) → (logging || always) ≡ logging
logs_still true always h = refl
logs_still false true h = sym (h refl)
logs_still false false h = refl

control_same : (c : Control) (always : Bool) (w x y : ℕ) → (always ≡ true → c.logging ≡ true) → ControlFields w (from_bool c.logging) (from_bool c.cece) c.ces c.ueds c.uecs x y → control_after always w ≡ c
control_same c always w x y logs f =
    ap (λ (d : Control). let l : Control = record { logging = d.logging || always; cece = d.cece; ces = d.ces; ueds = d.ueds; uecs = d.uecs } in l) (control_by_fields c w x y f)
    ∙ ap (λ (b : Bool). let l : Control = record { logging = b; cece = c.cece; ces = c.ces; ueds = c.ueds; uecs = c.uecs } in l) (logs_still c.logging always logs)

-- such a write sets or empties and leaves the control
written_by : (s : RecState) (control : Control) (sinv srdp : Bool) → control ≡ s.control
    → (let set : RecState = record { kept = s.kept; rdip = s.rdip; control = control; staged = s.staged } in
    cond srdp (state_marked (cond sinv (state_emptied set) set)) (cond sinv (state_emptied set) set))
    ≡ cond srdp (state_marked (cond sinv (state_emptied s) s)) (cond sinv (state_emptied s) s)
written_by s control sinv srdp is = ap (λ (c : Control). let set : RecState = record { kept = s.kept; rdip = s.rdip; control = c; staged = s.staged } in
    cond srdp (state_marked (cond sinv (state_emptied set) set)) (cond sinv (state_emptied set) set)) is

always_logs : (kind : BankKind) (rec : ℕ) (s : RecState) → IsRecordHeld (kind_number kind) rec s → is_hart kind ≡ true → s.control.logging ≡ true
always_logs Memory rec s h is = cc
always_logs Caches rec s h is = cc
always_logs Hart rec s h is = h.logs refl

srdp_marks : (kind : BankKind) (rec : ℕ) (s : RecState) → IsRecordHeld (kind_number kind) rec s
    → state_written (is_hart kind) s (with_field (control_word s.control (eid_of s.staged)) SRDP 1 1) ≡ state_marked s
srdp_marks kind rec s h =
    let c = s.control in
    let w = with_field (control_word c (eid_of s.staged)) SRDP 1 1 in
    let f : ControlFields w (from_bool c.logging) (from_bool c.cece) c.ces c.ueds c.uecs 0 1 = srdp_fields (from_bool c.logging) (from_bool c.cece) c.ces c.ueds c.uecs (eid_of s.staged) (flag_small _) (flag_small _) h.ces h.ueds h.uecs in
    written_by s (control_after (is_hart kind) w) (has_bit w SINV) (has_bit w SRDP) (control_same c (is_hart kind) w 0 1 (always_logs kind rec s h) f)
    ∙ rw (f.sinv, f.srdp) refl

sinv_empties : (kind : BankKind) (rec : ℕ) (s : RecState) → IsRecordHeld (kind_number kind) rec s
    → state_written (is_hart kind) s (with_field (control_word s.control (eid_of s.staged)) SINV 1 1) ≡ state_emptied s
sinv_empties kind rec s h =
    let c = s.control in
    let w = with_field (control_word c (eid_of s.staged)) SINV 1 1 in
    let f : ControlFields w (from_bool c.logging) (from_bool c.cece) c.ces c.ueds c.uecs 1 0 = sinv_fields (from_bool c.logging) (from_bool c.cece) c.ces c.ueds c.uecs (eid_of s.staged) (flag_small _) (flag_small _) h.ces h.ueds h.uecs in
    written_by s (control_after (is_hart kind) w) (has_bit w SINV) (has_bit w SRDP) (control_same c (is_hart kind) w 1 0 (always_logs kind rec s h) f)
    ∙ rw (f.sinv, f.srdp) refl

-- a write of the control register changes its record
written_at : (kind : BankKind) (first second : RecState) (rec v : ℕ) → rec < record_count kind
    → (let b : BankState = record { kind = kind; first = first; second = second } in bank_written b (CONTROL + STRIDE * rec) v ≡ with_record b rec (λ s. state_written (is_hart kind) s v))
written_at kind first second zero v h = refl
written_at Memory first second (suc zero) v h = refl
written_at Caches first second (suc zero) v h = refl
written_at Hart first second (suc zero) v h = absurd (omega arith)
written_at Memory first second (suc (suc n)) v h = absurd (omega arith)
written_at Caches first second (suc (suc n)) v h = absurd (omega arith)
written_at Hart first second (suc (suc n)) v h = absurd (omega arith)

with_record_same : (b : BankState) (rec : ℕ) (f g : RecState → RecState) → f (record_at b rec) ≡ g (record_at b rec) → with_record b rec f ≡ with_record b rec g
with_record_same b rec f g h = by_first (rec == 0) h
  where
    by_first : (c : Bool) → f (cond c b.first b.second) ≡ g (cond c b.first b.second)
        → (let left : BankState = cond c (record { kind = b.kind; first = f b.first; second = b.second }) (record { kind = b.kind; first = b.first; second = f b.second }) in left)
        ≡ cond c (record { kind = b.kind; first = g b.first; second = b.second }) (record { kind = b.kind; first = b.first; second = g b.second })
    by_first true same = ap (λ (s : RecState). let k : BankState = record { kind = b.kind; first = s; second = b.second } in k) same
    by_first false same = ap (λ (s : RecState). let k : BankState = record { kind = b.kind; first = b.first; second = s } in k) same

pub with_bank_same : (b : BanksState) (bank : ℕ) (f g : BankState → BankState) → f (bank_at b bank) ≡ g (bank_at b bank) → with_bank b bank f ≡ with_bank b bank g
with_bank_same b bank f g h = by_bank (bank == 0) (bank == 1) h
  where
    by_bank : (c d : Bool) → f (cond c b.memory (cond d b.caches b.hart)) ≡ g (cond c b.memory (cond d b.caches b.hart))
        → (let left : BanksState = cond c (record { memory = f b.memory; caches = b.caches; hart = b.hart; step = b.step })
        (cond d (record { memory = b.memory; caches = f b.caches; hart = b.hart; step = b.step }) (record { memory = b.memory; caches = b.caches; hart = f b.hart; step = b.step })) in left)
        ≡ cond c (record { memory = g b.memory; caches = b.caches; hart = b.hart; step = b.step })
        (cond d (record { memory = b.memory; caches = g b.caches; hart = b.hart; step = b.step }) (record { memory = b.memory; caches = b.caches; hart = g b.hart; step = b.step }))
    by_bank true d same = ap (λ (k : BankState). let l : BanksState = record { memory = k; caches = b.caches; hart = b.hart; step = b.step } in l) same
    by_bank false true same = ap (λ (k : BankState). let l : BanksState = record { memory = b.memory; caches = k; hart = b.hart; step = b.step } in l) same
    by_bank false false same = ap (λ (k : BankState). let l : BanksState = record { memory = b.memory; caches = b.caches; hart = k; step = b.step } in l) same

pub srdp_written : (b : BankState) (rec : ℕ) → AreHeld b → rec < record_count b.kind
    → bank_written b (CONTROL + STRIDE * rec) (with_field (control_word (record_at b rec).control (eid_of (record_at b rec).staged)) SRDP 1 1) ≡ with_record b rec state_marked
srdp_written b rec held below =
    written_at b.kind b.first b.second rec (with_field (control_word (record_at b rec).control (eid_of (record_at b rec).staged)) SRDP 1 1) below
    ∙ with_record_same b rec (λ s. state_written (is_hart b.kind) s (with_field (control_word (record_at b rec).control (eid_of (record_at b rec).staged)) SRDP 1 1)) state_marked (srdp_marks b.kind rec (record_at b rec) (held_at b rec held below))

pub sinv_written : (b : BankState) (rec : ℕ) → AreHeld b → rec < record_count b.kind
    → bank_written b (CONTROL + STRIDE * rec) (with_field (control_word (record_at b rec).control (eid_of (record_at b rec).staged)) SINV 1 1) ≡ with_record b rec state_emptied
sinv_written b rec held below =
    written_at b.kind b.first b.second rec (with_field (control_word (record_at b rec).control (eid_of (record_at b rec).staged)) SINV 1 1) below
    ∙ with_record_same b rec (λ s. state_written (is_hart b.kind) s (with_field (control_word (record_at b rec).control (eid_of (record_at b rec).staged)) SINV 1 1)) state_emptied (sinv_empties b.kind rec (record_at b rec) (held_at b rec held below))

-- the same with what the code reads and writes
unwrapped : Option ℕ → ℕ
unwrapped None = 0
unwrapped (Some n) = n

some_same : (n m : ℕ) → Some n ≡ Some m → n ≡ m
unfolding unwrapped
some_same n m h = ap unwrapped h

pub rdip_effect : (b : BankState) (rec offset value : ℕ) (got : Bool) (reading : Option ℕ) → AreHeld b → rec < record_count b.kind → offset ≡ CONTROL + STRIDE * rec
    → reading ≡ register_at b (offset + STATUS) → reading ≡ Some value → got ≡ has_bit value RDIP → got ≡ (record_at b rec).rdip
rdip_effect b rec offset value got reading held below at read is gets =
    let status = status_word (record_at b rec).kept (record_at b rec).control.cece (record_at b rec).rdip in
    let same : value ≡ status = some_same value status (sym is ∙ read ∙ ap (λ o. register_at b (o + STATUS)) at ∙ status_read b rec below) in
    gets ∙ ap (λ v. has_bit v RDIP) same ∙ rdip_read (kind_number b.kind) rec (record_at b rec) (held_at b rec held below)

pub control_effect : (b : BankState) (rec word : ℕ) → AreHeld b → rec < record_count b.kind
    → word ≡ control_word (record_at b rec).control (eid_of (record_at b rec).staged) → control_value word ≡ (record_at b rec).control
control_effect b rec value held below is =
    let c = (record_at b rec).control in
    let h = held_at b rec held below in
    ap control_value is ∙ control_back c (eid_of (record_at b rec).staged) h.ces h.ueds h.uecs

effect : (n : ℕ) (f : RecState → RecState) (b : BanksState) (bank rec offset value word : ℕ) (k : BankState)
    → ((j : BankState) → AreHeld j → rec < record_count j.kind → bank_written j (CONTROL + STRIDE * rec) (with_field (control_word (record_at j rec).control (eid_of (record_at j rec).staged)) n 1 1) ≡ with_record j rec f)
    → k ≡ bank_at b bank → AreHeld k → record_count k.kind ≡ records_of bank → rec < records_of bank → offset ≡ CONTROL + STRIDE * rec
    → word ≡ control_word (record_at k rec).control (eid_of (record_at k rec).staged) → value ≡ with_field word n 1 1
    → banks_written b bank offset value ≡ with_bank b bank (λ j. with_record j rec f)
effect n f b bank rec offset value word k written is held count below at reads sets =
    with_bank_same b bank (λ j. bank_written j offset value) (λ j. with_record j rec f)
    (subst (λ (j : BankState). bank_written j offset value ≡ with_record j rec f) is
    (ap (λ o. bank_written k o value) at ∙ ap (λ v. bank_written k (CONTROL + STRIDE * rec) v) (sets ∙ ap (λ w. with_field w n 1 1) reads) ∙ written k held (subst (λ m. rec < m) (sym count) below)))

pub srdp_effect : (b : BanksState) (bank rec offset value word : ℕ) (k : BankState)
    → k ≡ bank_at b bank → AreHeld k → record_count k.kind ≡ records_of bank → rec < records_of bank → offset ≡ CONTROL + STRIDE * rec
    → word ≡ control_word (record_at k rec).control (eid_of (record_at k rec).staged) → value ≡ with_field word SRDP 1 1
    → banks_written b bank offset value ≡ with_bank b bank (λ j. with_record j rec state_marked)
srdp_effect b bank rec offset value word k = effect SRDP state_marked b bank rec offset value word k (λ j. srdp_written j rec)

pub sinv_effect : (b : BanksState) (bank rec offset value word : ℕ) (k : BankState)
    → k ≡ bank_at b bank → AreHeld k → record_count k.kind ≡ records_of bank → rec < records_of bank → offset ≡ CONTROL + STRIDE * rec
    → word ≡ control_word (record_at k rec).control (eid_of (record_at k rec).staged) → value ≡ with_field word SINV 1 1
    → banks_written b bank offset value ≡ with_bank b bank (λ j. with_record j rec state_emptied)
sinv_effect b bank rec offset value word k = effect SINV state_emptied b bank rec offset value word k (λ j. sinv_written j rec)
