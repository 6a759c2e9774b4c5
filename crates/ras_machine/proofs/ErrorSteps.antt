-- What the error side keeps through the actions of a step: a critical event is kept only where an injection is due, by the script's
-- lines of the steps before.
use Rattle.std.proofs.Common.{◌≡◌, ◌≢◌, ℕ, zero, suc, ◌+◌, ◌≤◌, ◌<◌, Bool, true, false, cond, List, [], ◌∷◌, ◌++◌, Option, Some, None, ◌⊎◌, inl, inr, refl, sym, subst, ap, ◌∙◌, arith, add-one, append_assoc}
use Rattle.std.specs.Prelude.{◌==◌}
use Rattle.std.specs.List.{AllByRecursion, filter}
use Rattle.std.proofs.lemmas.List.{append-nil}
use Rattle.poison_mem.specs.declared.cell.UseKind.{UseKind}
use Rattle.poison_mem.specs.declared.event.Class.{Class}
use Rattle.poison_mem.specs.declared.event.Class.TheVariants.{Critical}
use Rattle.poison_mem.specs.declared.event.Event.{Event}
use Rattle.poison_mem.specs.declared.event.RecordView.{RecordView}
use Rattle.poison_mem.specs.declared.record_id.RecordId.{RecordId}
use Rattle.poison_mem.specs.declared.record_id.RecordId.TheVariants as ids
use Rattle.poison_mem.specs.Bus.{BusMeaning}
use Rattle.poison_mem.specs.Event.{consumption_of}
use Rattle.poison_mem.specs.Flips.{FlipMeaning}
use Rattle.poison_mem.specs.RecordIdLaws.{named_by_own}
use Rattle.poison_mem.specs.RecordId.{bank_number, record_number, record_id}
use Rattle.reri_bank.specs.Banks.{first_critical, new_banks, stamped}
use Rattle.reri_bank.specs.BanksState.{BanksState}
use Rattle.reri_bank.specs.Record.{rank}
use Rattle.reri_bank.specs.StateAt.{state_at, is_record}
use Rattle.reri_bank.specs.declared.state.Staged.{Staged}
use Rattle.reri_inject.specs.Calls.{due_event}
use Rattle.reri_inject.specs.CallsLaws.{begun_staged, staged_line, staged_begun}
use Rattle.reri_inject.specs.Critical.{critical_event, critical_at}
use Rattle.reri_inject.specs.CriticalLaws.{IsDueEvent, begun_brings, unstaged_kept, none_kept, first_names, critical_logged}
use Rattle.reri_inject.specs.Due.{Injection, InjectLine, IsDue, staged_in}
use Rattle.reri_inject.specs.DueLaws.{all_append, all_at, left_staged}
use Rattle.reri_inject.specs.Inject.{counted, staged_now, begun}
use Rattle.ras_firmware.specs.Drain.{kept_by, fatal_view}
use Rattle.ras_firmware.specs.Firmware.{SetNow, SetStaged, WriteControl, new_firmware, firmware_after, firmware_run, firmware_stopped}
use Rattle.ras_firmware.specs.declared.firmware.Firmware.{Firmware}
use Rattle.ras_firmware.proofs.Shown.{region_shown}
use Rattle.mem_stack.specs.EventsLaws.{LogsMildly}
use Rattle.fault_script.specs.declared.lines.Act.{Act}
use Rattle.fault_script.specs.declared.lines.Act.TheVariants.{Flip, Scrub, Inject, Control}
use Rattle.fault_script.specs.declared.lines.ScriptLine.{ScriptLine}
use Rattle.fault_script.specs.Fits.{FitsRam, FitsRamAct}
use Rattle.fault_script.specs.Steps.{at_step}
use Rattle.scrubber.specs.Patrol.{due_at}
use Rattle.ras_machine.specs.declared.state.MachineState.{MachineState}
use Rattle.ras_machine.specs.Actions.{logs, calls_for, act_calls, act_done, lines_acted, patrolled_at, patrolled}
use Rattle.ras_machine.specs.CountDowns.{count_calls}
use Rattle.ras_machine.specs.Due.{injected_by, injected_in, inject_lines}
use Rattle.ras_machine.specs.Errors.{ErrorsAre, IsQuiet, waiting}
use Rattle.ras_machine.specs.Ways.{InjectsMildly, InjectNoCritical}
use Rattle.ras_machine.proofs.CountDownCalls.{run_count}
use Rattle.ras_machine.proofs.ErrorCalls.{logged_errors, written_errors, staged_errors}

-- ---- the inject lines

pub all_filtered : {X : Type 0} (P : X → Type 0) (p : X → Bool) (xs : List X) → AllByRecursion P xs → AllByRecursion P (filter p xs)
all_filtered P p [] all = tt
all_filtered P p (x ∷ xs) all = by_test (p x) (all_filtered P p xs all.1)
  where
    by_test : (b : Bool) → AllByRecursion P (filter p xs) → AllByRecursion P (cond b (x ∷ filter p xs) (filter p xs))
    by_test true rest = (all.0, rest)
    by_test false rest = rest

weaker : {X : Type 0} (P Q : X → Type 0) → ((x : X) → P x → Q x) → (xs : List X) → AllByRecursion P xs → AllByRecursion Q xs
weaker P Q more [] all = tt
weaker P Q more (x ∷ xs) all = (more x all.0, weaker P Q more xs all.1)

-- what holds of each line of step n holds of its inject lines, and so of all of them
module _ (P : InjectLine → Type 0) (id : RecordId) where
  by_act : (n : ℕ) (act : Act)
      → ((bank rec : ℕ) (class : Class) (delay addr : ℕ) → act ≡ Inject bank rec class delay addr → P (record { step = n; delay = delay; injection = record { class = class; addr = addr } }))
      → AllByRecursion P (injected_by id n act)
  by_act n (Flip w bit) each = tt
  by_act n (Scrub w) each = tt
  by_act n (Inject bank rec class delay addr) each = by_record (is_record bank rec id)
    where
      by_record : (same : Bool) → AllByRecursion P (cond same (record { step = n; delay = delay; injection = record { class = class; addr = addr } } ∷ []) [])
      by_record true = (each bank rec class delay addr refl, tt)
      by_record false = tt
  by_act n (Control bank rec value) each = tt

-- the inject lines of the steps below n are of such steps
lines_past : (lines : List ScriptLine) (id : RecordId) (n : ℕ) → AllByRecursion (λ (l : InjectLine). l.step < n) (inject_lines lines id n)
unfolding inject_lines
lines_past lines id zero = tt
lines_past lines id (suc n) =
    all_append (λ (l : InjectLine). l.step < suc n) (inject_lines lines id n) (injected_in id n (at_step n lines))
    (weaker (λ (l : InjectLine). l.step < n) (λ (l : InjectLine). l.step < suc n) (λ l low. omega arith) (inject_lines lines id n) (lines_past lines id n))
    (now (at_step n lines))
  where
    now : (lines : List ScriptLine) → AllByRecursion (λ (l : InjectLine). l.step < suc n) (injected_in id n lines)
    now [] = tt
    now (line ∷ lines) =
        all_append (λ (l : InjectLine). l.step < suc n) (injected_by id n line.act) (injected_in id n lines)
        (by_act (λ (l : InjectLine). l.step < suc n) id n line.act (λ bank rec class delay addr is. omega arith)) (now lines)

-- where no line injects a critical error, none is due
mild_lines : (lines : List ScriptLine) (id : RecordId) (n : ℕ) → InjectNoCritical lines → AllByRecursion (λ (l : InjectLine). l.injection.class ≢ Critical) (inject_lines lines id n)
unfolding inject_lines
mild_lines lines id zero none = tt
mild_lines lines id (suc n) none =
    all_append (λ (l : InjectLine). l.injection.class ≢ Critical) (inject_lines lines id n) (injected_in id n (at_step n lines)) (mild_lines lines id n none)
    (now (at_step n lines) (all_filtered (λ (line : ScriptLine). InjectsMildly line.act) _ lines none.each))
  where
    mild_act : (act : Act) → InjectsMildly act → (bank rec : ℕ) (class : Class) (delay addr : ℕ) → act ≡ Inject bank rec class delay addr → class ≢ Critical
    mild_act act mild bank rec class delay addr is = subst InjectsMildly is mild

    now : (lines : List ScriptLine) → AllByRecursion (λ (line : ScriptLine). InjectsMildly line.act) lines
        → AllByRecursion (λ (l : InjectLine). l.injection.class ≢ Critical) (injected_in id n lines)
    now [] mild = tt
    now (line ∷ lines) mild =
        all_append (λ (l : InjectLine). l.injection.class ≢ Critical) (injected_by id n line.act) (injected_in id n lines)
        (by_act (λ (l : InjectLine). l.injection.class ≢ Critical) id n line.act (mild_act line.act mild.0)) (now lines mild.1)

pub no_injection_due : (lines : List ScriptLine) (id : RecordId) (n address : ℕ) → InjectNoCritical lines
    → IsDue (inject_lines lines id n) n (record { class = Critical; addr = address }) → ⊥
no_injection_due lines id n address none due =
    let mild : due.line.injection.class ≢ Critical =
    all_at (λ (l : InjectLine). l.injection.class ≢ Critical) due.before due.line due.behind
    (subst (AllByRecursion (λ (l : InjectLine). l.injection.class ≢ Critical)) due.among (mild_lines lines id n none)) in
    mild (ap (λ (i : Injection). i.class) due.injects)

-- lines of the same steps have the same inject lines
pub same_inject_lines : (lines read : List ScriptLine) → ((step : ℕ) → at_step step lines ≡ at_step step read) → (id : RecordId) (n : ℕ)
    → inject_lines lines id n ≡ inject_lines read id n
unfolding inject_lines
same_inject_lines lines read same id zero = refl
same_inject_lines lines read same id (suc n) =
    ap (λ ls. ls ++ injected_in id n (at_step n lines)) (same_inject_lines lines read same id n) ∙ ap (λ ls. inject_lines read id n ++ injected_in id n ls) (same n)

-- ---- the start

pub quiet_first : (lines : List ScriptLine) → IsQuiet lines 0 new_firmware
quiet_first lines = record {
  kinds = record { memory = refl; caches = refl; hart = refl };
  stamps = refl;
  logging = refl;
  critically = λ id e h. no_event (new_kept id) h;
  staged = λ id below. new_staged id;
  region = refl;
}
  where
    no_event : {k : Option RecordView} {e : Event} → k ≡ None → critical_event k ≡ Some e → ⊥
    no_event none h = let empty = ap critical_event none in cc

    new_kept : (id : RecordId) → (state_at new_banks id).kept ≡ None
    new_kept ids.Read = refl
    new_kept ids.Scrub = refl
    new_kept ids.L1 = refl
    new_kept ids.L2 = refl
    new_kept ids.Hart = refl

    new_staged : (id : RecordId) → (state_at new_banks id).staged ≡ None
    new_staged ids.Read = refl
    new_staged ids.Scrub = refl
    new_staged ids.L1 = refl
    new_staged ids.L2 = refl
    new_staged ids.Hart = refl

-- ---- the count-down

module _ (lines : List ScriptLine) where
  -- the critical events that are kept after it
  counted_brings : (n : ℕ) (b : BanksState) → ((id : RecordId) (e : Event) → critical_event (state_at b id).kept ≡ Some e → ⊥)
      → ((id : RecordId) → bank_number id < 2 → (state_at b id).staged ≡ waiting lines id n) → (id : RecordId) (e : Event)
      → critical_event (state_at (begun n b) id).kept ≡ Some e → IsDueEvent (inject_lines lines id n) n id e
  counted_brings zero b none staged id e h = absurd (none id e (sym (ap critical_event (unstaged_kept id 0 b (staged id))) ∙ h))
  counted_brings (suc m) b none staged id e h =
      subst (λ k. IsDueEvent (inject_lines lines id (suc m)) k id e) (add-one m)
      (by_begun (begun_brings (λ id. inject_lines lines id (suc m)) m b id e staged (subst (λ k. critical_event (state_at (begun k b) id).kept ≡ Some e) (sym (add-one m)) h)))
    where
      by_begun : (critical_event (state_at b id).kept ≡ Some e) ⊎ IsDueEvent (inject_lines lines id (suc m)) (m + 1) id e → IsDueEvent (inject_lines lines id (suc m)) (m + 1) id e
      by_begun (inl before) = absurd (none id e before)
      by_begun (inr due) = due

  -- and what waits then
  counted_waits : (n : ℕ) (b : BanksState) → ((id : RecordId) → bank_number id < 2 → (state_at b id).staged ≡ waiting lines id n) → (id : RecordId) → bank_number id < 2
      → (state_at (begun n b) id).staged ≡ staged_in n (inject_lines lines id n)
  unfolding inject_lines
  counted_waits zero b staged id below = begun_staged id 0 b below ∙ ap (λ (o : Option Staged). left_staged (counted o)) (staged id below)
  counted_waits (suc m) b staged id below =
      subst (λ k. (state_at (begun k b) id).staged ≡ staged_in k (inject_lines lines id (suc m))) (add-one m)
      (staged_begun (λ id. inject_lines lines id (suc m)) m b
      (λ id. weaker (λ (l : InjectLine). l.step < suc m) (λ (l : InjectLine). l.step ≤ m) (λ l low. omega arith) (inject_lines lines id (suc m)) (lines_past lines id (suc m))) staged id below)

  pub begun_errors : (n : ℕ) (f : Firmware) → IsQuiet lines n f
      → ErrorsAre (λ id. IsDueEvent (inject_lines lines id n) n id) (λ id. staged_in n (inject_lines lines id n)) n (firmware_run f (SetNow n ∷ count_calls f.banks))
  begun_errors n f it =
      subst (ErrorsAre (λ id. IsDueEvent (inject_lines lines id n) n id) (λ id. staged_in n (inject_lines lines id n)) n) (sym (run_count (firmware_after f (SetNow n))))
      (record {
        kinds = record { memory = it.kinds.memory; caches = it.kinds.caches; hart = it.kinds.hart };
        stamps = refl;
        logging = it.logging;
        critically = counted_brings n f.banks it.critically it.staged;
        staged = counted_waits n f.banks it.staged;
        region = it.region;
      })

-- ---- the script's lines

-- the record that two such numbers name
record NamedRecord (bank rec : ℕ) : Type 0 where
  id : RecordId
  bank_is : bank ≡ bank_number id
  rec_is : rec ≡ record_number id
  is : record_id bank rec ≡ Some id

named_record : (bank rec : ℕ) → bank ≤ 1 → rec ≤ 1 → NamedRecord bank rec
named_record zero zero low few = record { id = ids.Read; bank_is = refl; rec_is = refl; is = refl }
named_record zero (suc zero) low few = record { id = ids.Scrub; bank_is = refl; rec_is = refl; is = refl }
named_record zero (suc (suc n)) low few = absurd (omega arith)
named_record (suc zero) zero low few = record { id = ids.L1; bank_is = refl; rec_is = refl; is = refl }
named_record (suc zero) (suc zero) low few = record { id = ids.L2; bank_is = refl; rec_is = refl; is = refl }
named_record (suc zero) (suc (suc n)) low few = absurd (omega arith)
named_record (suc (suc m)) n low few = absurd (omega arith)

module _ {B : Type 0} (bus : BusMeaning B) (flips : FlipMeaning B) (mild : LogsMildly bus flips) (words : ℕ) (P : RecordId → Event → Type 0) (n : ℕ) where
  -- what an injection's line leaves staged
  line_waits : (lines : RecordId → List InjectLine) (line : InjectLine) (same : RecordId → Bool) (id : RecordId)
      → staged_in n (cond (same id) (lines id ++ line ∷ []) (lines id)) ≡ staged_in n (lines id ++ cond (same id) (line ∷ []) [])
  line_waits lines line same id = by_record (same id)
    where
      by_record : (b : Bool) → staged_in n (cond b (lines id ++ line ∷ []) (lines id)) ≡ staged_in n (lines id ++ cond b (line ∷ []) [])
      by_record true = refl
      by_record false = ap (staged_in n) (sym (append-nil (lines id)))

  -- other words for what waits
  same_waits : (W V : RecordId → Option Staged) (f : Firmware) → ((id : RecordId) → W id ≡ V id) → ErrorsAre P W n f → ErrorsAre P V n f
  same_waits W V f same it = record {
    kinds = it.kinds;
    stamps = it.stamps;
    logging = it.logging;
    critically = it.critically;
    staged = λ id below. it.staged id below ∙ same id;
    region = it.region;
  }

  -- an act that injects nothing
  no_line : (lines : RecordId → List InjectLine) (f : Firmware) → ErrorsAre P (λ id. staged_in n (lines id)) n f → ErrorsAre P (λ id. staged_in n (lines id ++ [])) n f
  no_line lines f it = same_waits (λ id. staged_in n (lines id)) (λ id. staged_in n (lines id ++ [])) f (λ id. ap (staged_in n) (sym (append-nil (lines id)))) it

  injected_errors : (lines : RecordId → List InjectLine) (bank rec delay : ℕ) (i : Injection) (f : Firmware) → NamedRecord bank rec → 1 ≤ delay
      → ErrorsAre P (λ id. staged_in n (lines id)) n f
      → ErrorsAre P (λ id. staged_in n (lines id ++ cond (is_record bank rec id) (record { step = n; delay = delay; injection = i } ∷ []) [])) n
      (firmware_run f (calls_for (record_id bank rec) (λ id. SetStaged id (Some (staged_now i.class delay i.addr)))))
  injected_errors lines bank rec delay i f named some it = rw (named.is, named.bank_is, named.rec_is) now
    where
      q : RecordId
      q = named.id

      line : InjectLine
      line = record { step = n; delay = delay; injection = i }

      now : ErrorsAre P (λ id. staged_in n (lines id ++ cond (is_record (bank_number q) (record_number q) id) (line ∷ []) [])) n
          (firmware_after f (SetStaged q (Some (staged_now i.class delay i.addr))))
      now =
          staged_errors P (λ id. staged_in n (lines id)) (λ id. staged_in n (lines id ++ cond (is_record (bank_number q) (record_number q) id) (line ∷ []) [])) n q
          (Some (staged_now i.class delay i.addr)) f
          (λ id below. staged_line lines n delay i q f.banks some it.staged id below ∙ line_waits lines line (is_record (bank_number q) (record_number q)) id) it

  controlled_errors : (lines : RecordId → List InjectLine) (named : Option RecordId) (value : ℕ) (f : Firmware) → ErrorsAre P (λ id. staged_in n (lines id)) n f
      → ErrorsAre P (λ id. staged_in n (lines id)) n (firmware_run f (calls_for named (λ id. WriteControl id value)))
  controlled_errors lines None value f it = it
  controlled_errors lines (Some q) value f it = written_errors P (λ id. staged_in n (lines id)) n q value f it

  act_errors : (lines : RecordId → List InjectLine) (act : Act) (b : B) (f : Firmware) → FitsRamAct words act → ErrorsAre P (λ id. staged_in n (lines id)) n f
      → ErrorsAre P (λ id. staged_in n (lines id ++ injected_by id n act)) n (firmware_run f (act_calls flips act b))
  act_errors lines (Flip w bit) b f fits it = no_line lines f it
  act_errors lines (Scrub w) b f fits it =
      no_line lines (firmware_run f (logs (flips.cells.scrub b w).events)) (logged_errors P (λ id. staged_in n (lines id)) n (flips.cells.scrub b w).events f (mild.scrub b w) it)
  act_errors lines (Inject bank rec class delay addr) b f fits it =
      injected_errors lines bank rec delay (record { class = class; addr = addr }) f (named_record bank rec fits.0 fits.1) fits.2 it
  act_errors lines (Control bank rec value) b f fits it =
      no_line lines (firmware_run f (calls_for (record_id bank rec) (λ id. WriteControl id value))) (controlled_errors lines (record_id bank rec) value f it)

  lines_errors : (acts : List ScriptLine) (lines : RecordId → List InjectLine) (s : MachineState B) → AllByRecursion (FitsRam words) acts
      → ErrorsAre P (λ id. staged_in n (lines id)) n s.firmware → ErrorsAre P (λ id. staged_in n (lines id ++ injected_in id n acts)) n (lines_acted flips acts s).after.firmware
  lines_errors [] lines s fits it = no_line lines s.firmware it
  lines_errors (line ∷ acts) lines s fits it =
      let acted : MachineState B = (act_done flips line.act s).after in
      same_waits (λ id. staged_in n ((lines id ++ injected_by id n line.act) ++ injected_in id n acts)) (λ id. staged_in n (lines id ++ injected_in id n (line ∷ acts)))
      (lines_acted flips acts acted).after.firmware (λ id. ap (staged_in n) (append_assoc (lines id) (injected_by id n line.act) (injected_in id n acts)))
      (lines_errors acts (λ id. lines id ++ injected_by id n line.act) acted fits.1 (act_errors lines line.act s.shared.memory s.firmware fits.0.1 it))

pub acted_errors : {B : Type 0} (bus : BusMeaning B) (flips : FlipMeaning B) → LogsMildly bus flips
    → (words : ℕ) (lines : List ScriptLine) (P : RecordId → Event → Type 0) (n : ℕ) (s : MachineState B) → AllByRecursion (FitsRam words) (at_step n lines)
    → ErrorsAre P (λ id. staged_in n (inject_lines lines id n)) n s.firmware
    → ErrorsAre P (λ id. waiting lines id (n + 1)) n (lines_acted flips (at_step n lines) s).after.firmware
unfolding inject_lines
acted_errors bus flips mild words lines P n s fits it =
    subst (λ k. ErrorsAre P (λ id. waiting lines id k) n (lines_acted flips (at_step n lines) s).after.firmware) (sym (add-one n))
    (lines_errors bus flips mild words P n (at_step n lines) (λ id. inject_lines lines id n) s fits it)

-- ---- the patrol, and the look for a fatal error

pub patrolled_errors : {B : Type 0} (bus : BusMeaning B) (flips : FlipMeaning B) → LogsMildly bus flips
    → (P : RecordId → Event → Type 0) (W : RecordId → Option Staged) (n : ℕ) (s : MachineState B)
    → ErrorsAre P W n s.firmware → ErrorsAre P W n (patrolled flips s).after.firmware
patrolled_errors bus flips mild P W n s it = by_due (due_at s.patrol s.steps)
  where
    by_due : (due : Option ℕ) → ErrorsAre P W n (patrolled_at flips due s).after.firmware
    by_due None = it
    by_due (Some w) = logged_errors P W n (flips.cells.scrub s.shared.memory w).events s.firmware (mild.scrub s.shared.memory w) it

pub none_fatal : (P : RecordId → Event → Type 0) (W : RecordId → Option Staged) (n : ℕ) (f : Firmware)
    → first_critical f.banks ≡ None → ErrorsAre P W n f → ErrorsAre (λ id e. ⊥) W n f
none_fatal P W n f none it = record {
  kinds = it.kinds;
  stamps = it.stamps;
  logging = it.logging;
  critically = λ id e h. let no = none_kept f.banks none id in cc;
  staged = it.staged;
  region = it.region;
}

-- the record of a bank and a number keeps a critical injection that is due in step n, and a stop shows it
pub record IsFatal (lines : List ScriptLine) (n : ℕ) (f : Firmware) (bank rec : ℕ) : Type 0 where
  pub id : RecordId
  pub address : ℕ
  pub bank_is : bank ≡ bank_number id
  pub rec_is : rec ≡ record_number id
  pub due : IsDue (inject_lines lines id n) n (record { class = Critical; addr = address })
  pub shows : (v : RecordView) × ((firmware_stopped (Some (bank, rec)) f).memory.region ≡ Some v) × (v.kept ≡ due_event n id (critical_at address))

-- a critical event that is kept stands in a view
viewed : (kept : Option RecordView) (e : Event) → critical_event kept ≡ Some e → (v : RecordView) × (kept ≡ Some v) × (v.kept ≡ e)
viewed None e h = cc
viewed (Some v) e h = (v, refl, by_class (rank v.kept.class == 2) h)
  where
    by_class : (critical : Bool) → (let event : Option Event = cond critical (Some v.kept) None in event) ≡ Some e → v.kept ≡ e
    by_class true h = cc
    by_class false h = cc

-- the region that a stop with this record leaves
region_of : (f : Firmware) (bank rec : ℕ) (id : RecordId) → record_id bank rec ≡ Some id → f.memory.region ≡ None
    → (firmware_stopped (Some (bank, rec)) f).memory.region ≡ (state_at f.banks id).kept
region_of f bank rec id named none = region_shown f.memory (fatal_view f.banks (Some (bank, rec))) none ∙ ap (kept_by f.banks) named

numbers_name : (bank rec : ℕ) (id : RecordId) → bank ≡ bank_number id → rec ≡ record_number id → record_id bank rec ≡ Some id
numbers_name bank rec id bank_is rec_is = rw (bank_is, rec_is) (named_by_own id)

pub some_fatal : (lines : List ScriptLine) (W : RecordId → Option Staged) (n : ℕ) (f : Firmware) (bank rec : ℕ)
    → first_critical f.banks ≡ Some (bank, rec) → ErrorsAre (λ id. IsDueEvent (inject_lines lines id n) n id) W n f → IsFatal lines n f bank rec
some_fatal lines W n f bank rec found it =
    let one = first_names f.banks bank rec found in
    let due = it.critically one.id one.kept.0 one.kept.1 in
    let view = viewed (state_at f.banks one.id).kept one.kept.0 one.kept.1 in
    let event : view.0.kept ≡ due_event n one.id (critical_at due.addr) = view.2 ∙ sym due.event in
    record {
      id = one.id;
      address = due.addr;
      bank_is = one.bank_is;
      rec_is = one.rec_is;
      due = due.due;
      shows = (
        view.0,
        region_of f bank rec one.id (numbers_name bank rec one.id one.bank_is one.rec_is) it.region ∙ view.1,
        event,
      );
    }

-- ---- the end of a step

pub next_quiet : (lines : List ScriptLine) (n : ℕ) (f : Firmware)
    → ErrorsAre (λ id e. ⊥) (λ id. waiting lines id (n + 1)) n f → IsQuiet lines (n + 1) f
next_quiet lines n f it = record { kinds = it.kinds; stamps = refl; logging = it.logging; critically = it.critically; staged = it.staged; region = it.region }

-- a consumption is kept by the hart's record, and a stop for it shows it
pub consumed_region : (W : RecordId → Option Staged) (n : ℕ) (f : Firmware) (use_kind : UseKind) (hart address pc : ℕ) → ErrorsAre (λ id e. ⊥) W n f
    → (v : RecordView) × ((firmware_stopped (Some (2, 0)) (firmware_run f (logs (consumption_of use_kind hart address pc ∷ [])))).memory.region ≡ Some v)
    × (v.kept ≡ stamped n (consumption_of use_kind hart address pc))
consumed_region W n f use_kind hart address pc it =
    let view =
    viewed (state_at after.banks ids.Hart).kept (stamped f.banks.step event)
    (critical_logged (state_at f.banks ids.Hart) (stamped f.banks.step event) it.logging (no_event (critical_event (state_at f.banks ids.Hart).kept) refl) refl) in
    (view.0, region_of after 2 0 ids.Hart refl it.region ∙ view.1, view.2 ∙ ap (λ k. stamped k event) it.stamps)
  where
    event : Event
    event = consumption_of use_kind hart address pc

    after : Firmware
    after = firmware_run f (logs (event ∷ []))

    no_event : (o : Option Event) → critical_event (state_at f.banks ids.Hart).kept ≡ o → critical_event (state_at f.banks ids.Hart).kept ≡ None
    no_event None h = h
    no_event (Some e) h = absurd (it.critically ids.Hart e h)
