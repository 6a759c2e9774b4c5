-- What calls of the error side keep of it.
use Rattle.std.proofs.Common.{◌≡◌, ◌≢◌, ℕ, ◌+◌, ◌*◌, ◌%◌, ◌^◌, ◌==◌, ◌<◌, Bool, true, false, cond, List, [], ◌∷◌, Option, Some, None, ◌⊎◌, inl, refl, sym, subst, ap, ◌∙◌}
use Rattle.std.proofs.Math.Bool.{or-true}
use Rattle.poison_mem.specs.declared.event.Class.{Class}
use Rattle.poison_mem.specs.declared.event.Class.TheVariants.{Corrected, Deferred, Critical}
use Rattle.poison_mem.specs.declared.event.Event.{Event}
use Rattle.poison_mem.specs.declared.event.RecordView.{RecordView}
use Rattle.poison_mem.specs.declared.record_id.RecordId.{RecordId}
use Rattle.poison_mem.specs.declared.record_id.RecordId.TheVariants.{Read, Scrub, L1, L2, Hart}
use Rattle.poison_mem.specs.RecordId.{bank_number, record_number}
use Rattle.mem_stack.specs.EventsLaws.{IsMild, AreMild}
use Rattle.reri_bank.specs.declared.layout.Control.{Control}
use Rattle.reri_bank.specs.declared.layout.TheConstants.{CONTROL, STRIDE}
use Rattle.reri_bank.specs.declared.state.RecState.{RecState}
use Rattle.reri_bank.specs.declared.state.Staged.{Staged}
use Rattle.reri_bank.specs.Bank.{state_staged}
use Rattle.reri_bank.specs.Banks.{banks_logged, banks_staged, stamped}
use Rattle.reri_bank.specs.BanksState.{BanksState}
use Rattle.reri_bank.specs.Layout.{control_value}
use Rattle.reri_bank.specs.Record.{rank, with_event}
use Rattle.reri_bank.specs.State.{state_marked, state_emptied, state_written, control_after}
use Rattle.reri_bank.specs.StateAt.{state_at, EachRecord, is_record, HaveKinds}
use Rattle.reri_bank.specs.StateAtLaws.{each_changed, each_logged, one_written, written_at}
use Rattle.reri_bank.specs.StateLaws.{emptied_kept, emptied_staged}
use Rattle.reri_inject.specs.Calls.{KeepsStaged}
use Rattle.reri_inject.specs.CallsLaws.{log_keeps, write_keeps}
use Rattle.reri_inject.specs.Critical.{BringsNoCritical}
use Rattle.reri_inject.specs.CriticalLaws.{log_brings_none, staging_brings_none, write_brings_none, keeping_brings_none}
use Rattle.ras_firmware.specs.Drain.{is_signalled, marked, cleared, marked_banks, cleared_banks}
use Rattle.ras_firmware.specs.DrainLaws.{Stays, one_stays, log_stays, still_kinds, marked_at, cleared_at, plain_written}
use Rattle.ras_firmware.specs.Firmware.{LogEvent, WriteControl, SetStaged, MarkAll, ClearAll, firmware_after, firmware_run, control_written, drain_calls}
use Rattle.ras_firmware.specs.Notes.{Notes, note_at}
use Rattle.ras_firmware.specs.declared.firmware.Firmware.{Firmware}
use Rattle.ras_machine.specs.Actions.{logs}
use Rattle.ras_machine.specs.Errors.{ErrorsAre}

-- step and kinds stay, the hart's record still logs, and no critical event comes
pub record BringsNone (b c : BanksState) : Type 0 where
  pub stays : Stays b c
  pub logging : (state_at b Hart).control.logging ≡ true → (state_at c Hart).control.logging ≡ true
  pub none : BringsNoCritical b c

-- such a call leaves what is said of the error side, but for what is staged
pub none_brought : (P : RecordId → Event → Type 0) (W V : RecordId → Option Staged) (n : ℕ) (f g : Firmware) → BringsNone f.banks g.banks → g.memory.region ≡ f.memory.region
    → ((id : RecordId) → bank_number id < 2 → (state_at g.banks id).staged ≡ V id) → ErrorsAre P W n f → ErrorsAre P V n g
none_brought P W V n f g brings region staged it = record {
  kinds = still_kinds f.banks g.banks brings.stays it.kinds;
  stamps = brings.stays.step ∙ it.stamps;
  logging = brings.logging it.logging;
  critically = λ id e h. it.critically id e (brings.none id e h);
  staged = staged;
  region = region ∙ it.region;
}

-- .. and where nothing is staged or taken away, all of it
pub all_kept : (P : RecordId → Event → Type 0) (W : RecordId → Option Staged) (n : ℕ) (f g : Firmware) → BringsNone f.banks g.banks → KeepsStaged f.banks g.banks
    → g.memory.region ≡ f.memory.region → ErrorsAre P W n f → ErrorsAre P W n g
all_kept P W n f g brings keeps region it = none_brought P W W n f g brings region (λ id below. keeps id ∙ it.staged id below) it

-- ---- logs

logged_control : (b : BanksState) (e : Event) → EachRecord (λ s t. t.control ≡ s.control) b (banks_logged b e)
logged_control b e = each_logged (λ s t. t.control ≡ s.control) b e (record { itself = λ s. refl; changed = λ s. by_logging s.control.logging s (stamped b.step e) })
  where
    by_logging : (logging : Bool) (s : RecState) (e : Event)
        → (cond logging (record { kept = Some (with_event s.kept e); rdip = false; control = s.control; staged = s.staged }) s).control ≡ s.control
    by_logging true s e = refl
    by_logging false s e = refl

pub mild_rank : (c : Class) → c ≢ Critical → (rank c == 2) ≡ false
mild_rank Corrected h = refl
mild_rank Deferred h = refl
mild_rank Critical h = absurd (h refl)

log_brings : (b : BanksState) (e : Event) → IsMild e → BringsNone b (banks_logged b e)
log_brings b e mild = record {
  stays = log_stays e b;
  logging = λ h. ap (λ (c : Control). c.logging) (logged_control b e Hart) ∙ h;
  none = log_brings_none b e (mild_rank e.class mild);
}

pub logged_errors : (P : RecordId → Event → Type 0) (W : RecordId → Option Staged) (n : ℕ) (events : List Event) (f : Firmware)
    → AreMild events → ErrorsAre P W n f → ErrorsAre P W n (firmware_run f (logs events))
logged_errors P W n [] f mild it = it
logged_errors P W n (e ∷ events) f mild it =
    logged_errors P W n events (firmware_after f (LogEvent e)) mild.1
    (all_kept P W n f (firmware_after f (LogEvent e)) (log_brings f.banks e mild.0) (log_keeps f.banks e) refl it)

-- ---- writes of controls

always_logs : (always : Bool) (v : ℕ) → always ≡ true → (control_after always v).logging ≡ true
always_logs true v h = or-true (control_value v).logging
always_logs false v h = cc

written_logging : (q : RecordId) (v : ℕ) (b : BanksState) → HaveKinds b → (state_at b Hart).control.logging ≡ true → (state_at (control_written b q v) Hart).control.logging ≡ true
written_logging q v b kinds h = ap (λ (s : RecState). s.control.logging) (written_at q Hart (v % 2 ^ 32) b kinds) ∙ by_record q
  where
    by_record : (q : RecordId) → (cond (is_record (bank_number q) (record_number q) Hart) (state_written (bank_number q == 2) (state_at b Hart) (v % 2 ^ 32)) (state_at b Hart)).control.logging ≡ true
    by_record Read = h
    by_record Scrub = h
    by_record L1 = h
    by_record L2 = h
    by_record Hart = ap (λ (s : RecState). s.control.logging) (plain_written true (state_at b Hart) v) ∙ always_logs true (v % 2 ^ 32) refl

write_brings : (q : RecordId) (v : ℕ) (b : BanksState) → HaveKinds b → BringsNone b (control_written b q v)
write_brings q v b kinds = record {
  stays = subst (Stays b) (sym (one_written q (v % 2 ^ 32) b kinds)) (one_stays b (bank_number q) (record_number q) (λ s. state_written (bank_number q == 2) s (v % 2 ^ 32)));
  logging = written_logging q v b kinds;
  none = write_brings_none b (bank_number q) (CONTROL + STRIDE * record_number q) (v % 2 ^ 32);
}

pub written_errors : (P : RecordId → Event → Type 0) (W : RecordId → Option Staged) (n : ℕ) (q : RecordId) (v : ℕ) (f : Firmware) → ErrorsAre P W n f
    → ErrorsAre P W n (firmware_after f (WriteControl q v))
written_errors P W n q v f it =
    all_kept P W n f (firmware_after f (WriteControl q v)) (write_brings q v f.banks it.kinds) (write_keeps f.banks (bank_number q) (CONTROL + STRIDE * record_number q) (v % 2 ^ 32)) refl it

-- ---- stagings

stage_brings : (q : RecordId) (t : Option Staged) (b : BanksState) → BringsNone b (banks_staged b (bank_number q) (record_number q) t)
stage_brings q t b = record {
  stays = one_stays b (bank_number q) (record_number q) (state_staged t);
  logging = λ h.
      ap (λ (c : Control). c.logging)
      (each_changed (λ s u. u.control ≡ s.control) (state_staged t) (record { itself = λ s. refl; changed = λ s. refl }) b (bank_number q) (record_number q) Hart) ∙ h;
  none = staging_brings_none b (bank_number q) (record_number q) t;
}

pub staged_errors : (P : RecordId → Event → Type 0) (W V : RecordId → Option Staged) (n : ℕ) (q : RecordId) (t : Option Staged) (f : Firmware)
    → ((id : RecordId) → bank_number id < 2 → (state_at (banks_staged f.banks (bank_number q) (record_number q) t) id).staged ≡ V id) → ErrorsAre P W n f
    → ErrorsAre P V n (firmware_after f (SetStaged q t))
staged_errors P W V n q t f staged it = none_brought P W V n f (firmware_after f (SetStaged q t)) (stage_brings q t f.banks) refl staged it

-- ---- the drain

-- what a mark and a clear leave of a record
record LeavesOf (s t : RecState) : Type 0 where
  kept : (t.kept ≡ s.kept) ⊎ (t.kept ≡ None)
  control : t.control ≡ s.control
  staged : t.staged ≡ s.staged

marked_leaves : (s : RecState) → LeavesOf s (marked s)
marked_leaves s = by_signal (is_signalled s.kept s.control)
  where
    by_signal : (signalled : Bool) → LeavesOf s (cond signalled (state_marked s) s)
    by_signal true = record { kept = inl refl; control = refl; staged = refl }
    by_signal false = record { kept = inl refl; control = refl; staged = refl }

emptied_control : (s : RecState) → (state_emptied s).control ≡ s.control
emptied_control s = by_rdip s.rdip
  where
    by_rdip : (b : Bool) → (cond b (record { kept = None; rdip = false; control = s.control; staged = s.staged }) s).control ≡ s.control
    by_rdip true = refl
    by_rdip false = refl

cleared_leaves : (note : Option RecordView) (s : RecState) → LeavesOf s (cleared note s)
cleared_leaves None s = record { kept = inl refl; control = refl; staged = refl }
cleared_leaves (Some v) s = record { kept = emptied_kept s; control = emptied_control s; staged = emptied_staged s }

leaves_all : (b c : BanksState) → Stays b c → EachRecord LeavesOf b c → BringsNone b c
leaves_all b c stays leaves = record {
  stays = stays;
  logging = λ h. ap (λ (k : Control). k.logging) (leaves Hart).control ∙ h;
  none = keeping_brings_none b c (λ id. (leaves id).kept);
}

mark_leaves : (b : BanksState) → EachRecord LeavesOf b (marked_banks b)
mark_leaves b id = subst (LeavesOf (state_at b id)) (sym (marked_at id b)) (marked_leaves (state_at b id))

clear_leaves : (notes : Notes) (b : BanksState) → EachRecord LeavesOf b (cleared_banks notes b)
clear_leaves notes b id = subst (LeavesOf (state_at b id)) (sym (cleared_at id notes b)) (cleared_leaves (note_at notes id) (state_at b id))

pub drained_errors : (P : RecordId → Event → Type 0) (W : RecordId → Option Staged) (n step interval : ℕ) (f : Firmware)
    → ErrorsAre P W n f → ErrorsAre P W n (firmware_run f (drain_calls step interval))
drained_errors P W n step interval f it = by_tests (interval == 0) (step % interval + 2 == interval) (step % interval + 1 == interval)
  where
    marks : ErrorsAre P W n (firmware_after f MarkAll)
    marks =
        all_kept P W n f (firmware_after f MarkAll)
        (leaves_all f.banks (marked_banks f.banks) (record { step = refl; memory = refl; caches = refl; hart = refl }) (mark_leaves f.banks))
        (λ id. (mark_leaves f.banks id).staged) refl it

    clears : ErrorsAre P W n (firmware_after f ClearAll)
    clears =
        all_kept P W n f (firmware_after f ClearAll)
        (leaves_all f.banks (cleared_banks f.drain f.banks) (record { step = refl; memory = refl; caches = refl; hart = refl }) (clear_leaves f.drain f.banks))
        (λ id. (clear_leaves f.drain f.banks id).staged) refl it

    by_tests : (none marked drained : Bool) → ErrorsAre P W n (firmware_run f (cond none [] (cond marked (MarkAll ∷ []) (cond drained (ClearAll ∷ []) []))))
    by_tests true marked drained = it
    by_tests false true drained = marks
    by_tests false false true = clears
    by_tests false false false = it
