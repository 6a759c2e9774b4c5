-- Over any schedule each record is drained as alone.
use Rattle.std.proofs.Common.{◌+◌, ◌≡◌, ℕ, ◌%◌, ◌^◌, ◌==◌, Bool, true, false, cond, List, [], ◌∷◌, ◌++◌, length, map, Option, Some, None, refl, subst, sym, ap, ◌∙◌, arith, min, ◌-◌, ◌*◌, ◌<◌, ◌≤◌, append_assoc, length-append}
use Rattle.std.proofs.lemmas.List.{append-nil, length-map, length-take}
use Rattle.std.proofs.lemmas.List.Sums.{sum_by-cons}
use Rattle.std.specs.Option.{option_to_list}
use Rattle.poison_mem.specs.declared.event.Event.{Event}
use Rattle.poison_mem.specs.declared.event.RecordView.{RecordView}
use Rattle.reri_bank.specs.declared.state.RecState.{RecState}
use Rattle.reri_bank.specs.Views.{IsOf}
use Rattle.reri_bank.specs.State.{state_logged, state_marked, state_written, control_after}
use Rattle.reri_bank.specs.Record.{rec_of, with_event}
use Rattle.reri_bank.specs.BanksState.{BanksState}
use Rattle.reri_bank.specs.Bank.{state_staged, first_control}
use Rattle.reri_bank.specs.Banks.{banks_logged, with_now, stamped, new_banks}
use Rattle.reri_bank.specs.StateAt.{state_at, is_record, HaveKinds}
use Rattle.reri_bank.specs.StateAtLaws.{logged_at, written_at, staged_at, one_written}
use Rattle.reri_bank.specs.ViewsLaws.{next_names}
use Rattle.ras_firmware.specs.Notes.{Notes, note_at}
use Rattle.ras_firmware.specs.Drain.{is_signalled, note_of, marked, emission, cleared, emissions, all_kept}
use Rattle.ras_firmware.specs.Records.{KeptState, with_all, first_views}
use Rattle.ras_firmware.specs.declared.firmware.Firmware.{Firmware}
use Rattle.ras_firmware.proofs.Cells.{RecordCell, cell_after, cell_run, new_cell}
use Rattle.ras_firmware.specs.Pieces.{RecordAction, Log, Write, Stage, Mark, Clear, rest}
use Rattle.ras_firmware.specs.Firmware.{FirmwareCall, LogEvent, SetNow, WriteControl, SetStaged, MarkAll, ClearAll, new_firmware, firmware_after, firmware_run}
use Rattle.ras_firmware.specs.Sent.{after_calls, stopped, rounds, joined_rounds, sent, is_clear, clears, is_let_in, actions_of, pieces_at, pieces_of, those_of, piece_count}
use Rattle.ras_firmware.specs.DrainLaws.{one_stays, log_stays, still_kinds, marked_at, noted_at, cleared_at, unnoted_at, controlled, plain_written}
use Rattle.ras_firmware.proofs.Emitting.{all_emitted, pieces_stand, rest_is}
use Rattle.ras_firmware.proofs.Sent.{Named, NamesOne, each_at, each_placed, few_given, those_of-append, count_by_record, with_first}
use Rattle.poison_mem.specs.RecordId.{bank_number, record_number, all_records}
use Rattle.poison_mem.specs.declared.record_id.RecordId.{RecordId}
use Rattle.poison_mem.specs.declared.record_id.RecordId.TheVariants.{Read, Scrub, L1, L2, Hart}
use Rattle.std.specs.List.{AllByRecursion, fold}
use Rattle.ras_firmware.specs.declared.records.TheConstants.{MOST_RECORDS}
use Rattle.ras_firmware.proofs.Views.{all-append}

-- the firmware, and all views that it ever emitted
pub record Along : Type 0 where
  pub firmware : Firmware
  pub sent : List RecordView

abbrev new_along : Along
new_along = record { firmware = new_firmware; sent = [] }

-- a clear alone emits
abbrev pub along_after : Along → FirmwareCall → Along
along_after w (LogEvent e) = record { firmware = firmware_after w.firmware (LogEvent e); sent = w.sent }
along_after w (SetNow n) = record { firmware = firmware_after w.firmware (SetNow n); sent = w.sent }
along_after w (WriteControl p v) = record { firmware = firmware_after w.firmware (WriteControl p v); sent = w.sent }
along_after w (SetStaged p t) = record { firmware = firmware_after w.firmware (SetStaged p t); sent = w.sent }
along_after w MarkAll = record { firmware = firmware_after w.firmware MarkAll; sent = w.sent }
along_after w ClearAll = record { firmware = firmware_after w.firmware ClearAll; sent = w.sent ++ emissions w.firmware.drain w.firmware.banks }

abbrev pub along_run : Along → List FirmwareCall → Along
along_run w calls = fold along_after w calls

-- what holds of the whole after any calls
record AlongInvariant (w : Along) : Type 0 where
  kinds : HaveKinds w.firmware.banks
  kept : (q : RecordId) → Named q (state_at w.firmware.banks q).kept
  note : (q : RecordId) → Named q (note_at w.firmware.drain q)
  placed : AllByRecursion NamesOne w.sent
  out : w.firmware.records ≡ first_views w.sent

is_of_record : (q : RecordId) (e : Event) (step : ℕ) → is_let_in q e ≡ true → IsOf (bank_number q) (record_number q) (stamped step e)
is_of_record q e step h = record { bank_is = grind (arith, h); rec_is = grind (arith, h) }

named_by : (logs : Bool) (q : RecordId) (s : RecState) (e : Event) → IsOf (bank_number q) (record_number q) e → Named q s.kept
    → Named q (cond logs (record { kept = Some (with_event s.kept e); rdip = false; control = s.control; staged = s.staged }) s).kept
named_by true q s e is named = next_names (bank_number q) (record_number q) s.kept e named is
named_by false q s e is named = named

logged_named : (b : Bool) (q : RecordId) (s : RecState) (e : Event) → (b ≡ true → IsOf (bank_number q) (record_number q) e) → Named q s.kept → Named q (cond b (state_logged s e) s).kept
logged_named false q s e h named = named
logged_named true q s e h named = named_by s.control.logging q s e (h refl) named

kept_same : (b : Bool) (q : RecordId) (s t : RecState) → t.kept ≡ s.kept → Named q s.kept → Named q (cond b t s).kept
kept_same true q s t h named = subst (Named q) (sym h) named
kept_same false q s t h named = named

noted_named : (b : Bool) (q : RecordId) (k : Option RecordView) → Named q k → Named q (cond b k None)
noted_named true q k h = h
noted_named false q k h = tt

cleared_named : (note : Option RecordView) (q : RecordId) (s : RecState) → Named q s.kept → Named q (cleared note s).kept
cleared_named None q s h = h
cleared_named (Some v) q s h = by_rdip s.rdip
  where
    by_rdip : (b : Bool) → Named q (cond b (record { kept = None; rdip = false; control = s.control; staged = s.staged }) s).kept
    by_rdip true = tt
    by_rdip false = h

emission_named : (note : Option RecordView) (q : RecordId) (s : RecState) → Named q note → Named q (emission note s)
emission_named None q s h = tt
emission_named (Some v) q s h = by_rdip s.rdip
  where
    by_rdip : (b : Bool) → Named q (cond b (Some v) None)
    by_rdip true = h
    by_rdip false = tt

now_at : (q : RecordId) (b : BanksState) (n : ℕ) → state_at (with_now b n) q ≡ state_at b q
now_at Read b n = refl
now_at Scrub b n = refl
now_at L1 b n = refl
now_at L2 b n = refl
now_at Hart b n = refl

named_state : (q : RecordId) (s t : RecState) → t ≡ s → Named q s.kept → Named q t.kept
named_state q s t h named = subst (λ (u : RecState). Named q u.kept) (sym h) named

emissions_named : (w : Along) → AlongInvariant w → (q : RecordId) → Named q (emission (note_at w.firmware.drain q) (state_at w.firmware.banks q))
emissions_named w h q = emission_named (note_at w.firmware.drain q) q (state_at w.firmware.banks q) (h.note q)

after_holds : (w : Along) (call : FirmwareCall) → AlongInvariant w → AlongInvariant (along_after w call)
after_holds w (LogEvent e) h = record {
  kinds = still_kinds w.firmware.banks (banks_logged w.firmware.banks e) (log_stays e w.firmware.banks) h.kinds;
  kept = λ q. named_state q _ _ (logged_at e q w.firmware.banks) (logged_named (is_let_in q e) q (state_at w.firmware.banks q) (stamped w.firmware.banks.step e) (is_of_record q e w.firmware.banks.step) (h.kept q));
  note = h.note;
  placed = h.placed;
  out = h.out;
}
after_holds w (SetNow n) h = record {
  kinds = record { memory = h.kinds.memory; caches = h.kinds.caches; hart = h.kinds.hart };
  kept = λ q. named_state q _ _ (now_at q w.firmware.banks n) (h.kept q);
  note = h.note;
  placed = h.placed;
  out = h.out;
}
after_holds w (WriteControl p v) h = record {
  kinds = subst HaveKinds (sym (one_written p (v % 2 ^ 32) w.firmware.banks h.kinds))
      (still_kinds w.firmware.banks _ (one_stays w.firmware.banks (bank_number p) (record_number p) (λ s. state_written (bank_number p == 2) s (v % 2 ^ 32))) h.kinds);
  kept = λ q. named_state q _ _ (written_at p q (v % 2 ^ 32) w.firmware.banks h.kinds)
      (kept_same (is_record (bank_number p) (record_number p) q) q (state_at w.firmware.banks q) _ (ap (λ (s : RecState). s.kept) (plain_written (bank_number p == 2) (state_at w.firmware.banks q) v)) (h.kept q));
  note = h.note;
  placed = h.placed;
  out = h.out;
}
after_holds w (SetStaged p t) h = record {
  kinds = still_kinds w.firmware.banks _ (one_stays w.firmware.banks (bank_number p) (record_number p) (state_staged t)) h.kinds;
  kept = λ q. named_state q _ _ (staged_at p q t w.firmware.banks) (kept_same (is_record (bank_number p) (record_number p) q) q (state_at w.firmware.banks q) (state_staged t (state_at w.firmware.banks q)) refl (h.kept q));
  note = h.note;
  placed = h.placed;
  out = h.out;
}
after_holds w MarkAll h = record {
  kinds = record { memory = h.kinds.memory; caches = h.kinds.caches; hart = h.kinds.hart };
  kept = λ q. named_state q _ _ (marked_at q w.firmware.banks)
      (kept_same (is_signalled (state_at w.firmware.banks q).kept (state_at w.firmware.banks q).control) q (state_at w.firmware.banks q) (state_marked (state_at w.firmware.banks q)) refl (h.kept q));
  note = λ q. subst (Named q) (sym (noted_at q w.firmware.banks)) (noted_named (is_signalled (state_at w.firmware.banks q).kept (state_at w.firmware.banks q).control) q (state_at w.firmware.banks q).kept (h.kept q));
  placed = h.placed;
  out = h.out;
}
after_holds w ClearAll h = record {
  kinds = record { memory = h.kinds.memory; caches = h.kinds.caches; hart = h.kinds.hart };
  kept = λ q. named_state q _ _ (cleared_at q w.firmware.drain w.firmware.banks) (cleared_named (note_at w.firmware.drain q) q (state_at w.firmware.banks q) (h.kept q));
  note = λ q. subst (Named q) (sym (unnoted_at q)) tt;
  placed = all-append NamesOne w.sent (emissions w.firmware.drain w.firmware.banks) h.placed (each_placed (λ q. emission (note_at w.firmware.drain q) (state_at w.firmware.banks q)) (emissions_named w h) all_records);
  out = ap (λ (r : KeptState). with_all r (emissions w.firmware.drain w.firmware.banks)) h.out ∙ with_first (emissions w.firmware.drain w.firmware.banks) w.sent;
}

run_holds : (calls : List FirmwareCall) (w : Along) → AlongInvariant w → AlongInvariant (along_run w calls)
run_holds [] w h = h
run_holds (call ∷ calls) w h = run_holds calls (along_after w call) (after_holds w call h)

new_kept : (q : RecordId) → (state_at new_banks q).kept ≡ None
new_kept Read = refl
new_kept Scrub = refl
new_kept L1 = refl
new_kept L2 = refl
new_kept Hart = refl

new_holds : AlongInvariant new_along
new_holds = record {
  kinds = record { memory = refl; caches = refl; hart = refl };
  kept = λ q. subst (Named q) (sym (new_kept q)) tt;
  note = λ q. subst (Named q) (sym (unnoted_at q)) tt;
  placed = tt;
  out = refl;
}

-- a record, and its note and views, go as alone
record Agrees (p : RecordId) (w : Along) (c : RecordCell) : Type 0 where
  state : state_at w.firmware.banks p ≡ c.state
  note : note_at w.firmware.drain p ≡ c.note
  sent : those_of p w.sent ≡ c.emitted

-- a call that changes a record or not
agrees_by : (b : Bool) (f : RecState → RecState) (p : RecordId) (w w' : Along) (c d : RecordCell) → d.state ≡ f c.state → d.note ≡ c.note → d.emitted ≡ c.emitted
    → state_at w'.firmware.banks p ≡ cond b (f (state_at w.firmware.banks p)) (state_at w.firmware.banks p) → w'.firmware.drain ≡ w.firmware.drain → w'.sent ≡ w.sent → Agrees p w c → Agrees p w' (cond b d c)
agrees_by true f p w w' c d is note sent at notes views h = record {
  state = at ∙ ap f h.state ∙ sym is;
  note = ap (λ (n : Notes). note_at n p) notes ∙ h.note ∙ sym note;
  sent = ap (those_of p) views ∙ h.sent ∙ sym sent;
}
agrees_by false f p w w' c d is note sent at notes views h = record {
  state = at ∙ h.state;
  note = ap (λ (n : Notes). note_at n p) notes ∙ h.note;
  sent = ap (those_of p) views ∙ h.sent;
}

run_by : (b : Bool) (a : RecordAction) (actions : List RecordAction) (c : RecordCell) → cell_run (cond b (cell_after c a) c) actions ≡ cell_run c (cond b (a ∷ actions) actions)
run_by true a actions c = refl
run_by false a actions c = refl

alone : (p : RecordId) (calls : List FirmwareCall) (w : Along) (c : RecordCell) (step : ℕ) → w.firmware.banks.step ≡ step → AlongInvariant w → Agrees p w c
    → Agrees p (along_run w calls) (cell_run c (actions_of p step calls))
alone p [] w c step at holds h = h
alone p (LogEvent e ∷ calls) w c step at holds h =
    let b = is_let_in p e in
    let d = cell_after c (Log (stamped step e)) in
    let next : Agrees p (along_after w (LogEvent e)) (cond b d c) =
    agrees_by b (λ s. state_logged s (stamped step e)) p w (along_after w (LogEvent e)) c d refl refl refl
    (logged_at e p w.firmware.banks ∙ ap (λ n. cond b (state_logged (state_at w.firmware.banks p) (stamped n e)) (state_at w.firmware.banks p)) at) refl refl h in
    subst (Agrees p (along_run w (LogEvent e ∷ calls))) (run_by b (Log (stamped step e)) (actions_of p step calls) c)
    (alone p calls (along_after w (LogEvent e)) (cond b d c) step ((log_stays e w.firmware.banks).step ∙ at) (after_holds w (LogEvent e) holds) next)
alone p (SetNow n ∷ calls) w c step at holds h =
    alone p calls (along_after w (SetNow n)) c n refl (after_holds w (SetNow n) holds) (record { state = now_at p w.firmware.banks n ∙ h.state; note = h.note; sent = h.sent })
alone p (WriteControl q v ∷ calls) w c step at holds h =
    let b = is_record (bank_number q) (record_number q) p in
    let a = Write (control_after (bank_number q == 2) (v % 2 ^ 32)) in
    let d = cell_after c a in
    let next : Agrees p (along_after w (WriteControl q v)) (cond b d c) =
    agrees_by b (controlled (control_after (bank_number q == 2) (v % 2 ^ 32))) p w (along_after w (WriteControl q v)) c d refl refl refl
    (written_at q p (v % 2 ^ 32) w.firmware.banks holds.kinds ∙ ap (λ (s : RecState). cond b s (state_at w.firmware.banks p)) (plain_written (bank_number q == 2) (state_at w.firmware.banks p) v)) refl refl h in
    subst (Agrees p (along_run w (WriteControl q v ∷ calls))) (run_by b a (actions_of p step calls) c)
    (alone p calls (along_after w (WriteControl q v)) (cond b d c) step
    (ap (λ (k : BanksState). k.step) (one_written q (v % 2 ^ 32) w.firmware.banks holds.kinds) ∙ (one_stays w.firmware.banks (bank_number q) (record_number q) (λ s. state_written (bank_number q == 2) s (v % 2 ^ 32))).step ∙ at)
    (after_holds w (WriteControl q v) holds) next)
alone p (SetStaged q t ∷ calls) w c step at holds h =
    let b = is_record (bank_number q) (record_number q) p in
    let d = cell_after c (Stage t) in
    let next : Agrees p (along_after w (SetStaged q t)) (cond b d c) =
    agrees_by b (state_staged t) p w (along_after w (SetStaged q t)) c d refl refl refl (staged_at q p t w.firmware.banks) refl refl h in
    subst (Agrees p (along_run w (SetStaged q t ∷ calls))) (run_by b (Stage t) (actions_of p step calls) c)
    (alone p calls (along_after w (SetStaged q t)) (cond b d c) step ((one_stays w.firmware.banks (bank_number q) (record_number q) (state_staged t)).step ∙ at) (after_holds w (SetStaged q t) holds) next)
alone p (MarkAll ∷ calls) w c step at holds h =
    alone p calls (along_after w MarkAll) (cell_after c Mark) step at (after_holds w MarkAll holds)
    (record { state = marked_at p w.firmware.banks ∙ ap marked h.state; note = noted_at p w.firmware.banks ∙ ap note_of h.state; sent = h.sent })
alone p (ClearAll ∷ calls) w c step at holds h =
    alone p calls (along_after w ClearAll) (cell_after c Clear) step at (after_holds w ClearAll holds)
    (record {
      state = cleared_at p w.firmware.drain w.firmware.banks ∙ same_cleared (note_at w.firmware.drain p) c.note (state_at w.firmware.banks p) c.state h.note h.state;
      note = unnoted_at p;
      sent = those_of-append p w.sent (emissions w.firmware.drain w.firmware.banks)
          ∙ same_sent (those_of p w.sent) c.emitted (those_of p (emissions w.firmware.drain w.firmware.banks)) (option_to_list (emission c.note c.state)) h.sent
          (each_at (λ q. emission (note_at w.firmware.drain q) (state_at w.firmware.banks q)) (emissions_named w holds) p
          ∙ ap option_to_list (same_emission (note_at w.firmware.drain p) c.note (state_at w.firmware.banks p) c.state h.note h.state));
    })
  where
    same_cleared : (n m : Option RecordView) (s t : RecState) → n ≡ m → s ≡ t → cleared n s ≡ cleared m t
    same_cleared n m s t e f = cc

    same_emission : (n m : Option RecordView) (s t : RecState) → n ≡ m → s ≡ t → emission n s ≡ emission m t
    same_emission n m s t e f = cc

    same_sent : (xs ys us vs : List RecordView) → xs ≡ ys → us ≡ vs → xs ++ us ≡ ys ++ vs
    same_sent xs ys us vs e f = cc

new_state_at : (p : RecordId) → state_at new_banks p ≡ (new_cell first_control).state
new_state_at Read = refl
new_state_at Scrub = refl
new_state_at L1 = refl
new_state_at L2 = refl
new_state_at Hart = refl

run_firmware : (calls : List FirmwareCall) (w : Along) → (along_run w calls).firmware ≡ firmware_run w.firmware calls
run_firmware [] w = refl
run_firmware (LogEvent e ∷ calls) w = run_firmware calls (along_after w (LogEvent e))
run_firmware (SetNow n ∷ calls) w = run_firmware calls (along_after w (SetNow n))
run_firmware (WriteControl p v ∷ calls) w = run_firmware calls (along_after w (WriteControl p v))
run_firmware (SetStaged p t ∷ calls) w = run_firmware calls (along_after w (SetStaged p t))
run_firmware (MarkAll ∷ calls) w = run_firmware calls (along_after w MarkAll)
run_firmware (ClearAll ∷ calls) w = run_firmware calls (along_after w ClearAll)

run_sent : (calls : List FirmwareCall) (w : Along) → (along_run w calls).sent ≡ w.sent ++ joined_rounds (rounds w.firmware calls)
run_sent [] w = sym (append-nil w.sent)
run_sent (LogEvent e ∷ calls) w = run_sent calls (along_after w (LogEvent e))
run_sent (SetNow n ∷ calls) w = run_sent calls (along_after w (SetNow n))
run_sent (WriteControl p v ∷ calls) w = run_sent calls (along_after w (WriteControl p v))
run_sent (SetStaged p t ∷ calls) w = run_sent calls (along_after w (SetStaged p t))
run_sent (MarkAll ∷ calls) w = run_sent calls (along_after w MarkAll)
run_sent (ClearAll ∷ calls) w =
    run_sent calls (along_after w ClearAll)
    ∙ append_assoc w.sent (emissions w.firmware.drain w.firmware.banks) (joined_rounds (rounds (firmware_after w.firmware ClearAll) calls))

-- all that was emitted, the last views at the stop
all_sent : (calls : List FirmwareCall) → sent calls ≡ (along_run new_along calls).sent ++ all_kept (along_run new_along calls).firmware.banks
all_sent calls =
    ap (λ l. l ++ all_kept (after_calls calls).banks) (sym (run_sent calls new_along))
    ∙ ap (λ (f : Firmware). (along_run new_along calls).sent ++ all_kept f.banks) (sym (run_firmware calls new_along))

-- over any calls a record goes as alone
goes_alone : (p : RecordId) (calls : List FirmwareCall) → Agrees p (along_run new_along calls) (cell_run (new_cell first_control) (actions_of p 0 calls))
goes_alone p calls = alone p calls new_along (new_cell first_control) 0 refl new_holds (record { state = new_state_at p; note = unnoted_at p; sent = refl })

-- the clears emit the pieces so far
pub clears_emitted : (p : RecordId) (calls : List FirmwareCall) → map Some (those_of p (joined_rounds (rounds new_firmware calls))) ≡ map rec_of (pieces_at p calls).pieces
clears_emitted p calls =
    ap (λ l. map Some (those_of p l)) (sym (run_sent calls new_along))
    ∙ ap (map Some) (goes_alone p calls).sent
    ∙ (pieces_stand first_control (actions_of p 0 calls)).emitted

-- what a record shows at the stop
shown_at_stop : (p : RecordId) (calls : List FirmwareCall) →
    those_of p (all_kept (along_run new_along calls).firmware.banks) ≡ option_to_list (cell_run (new_cell first_control) (actions_of p 0 calls)).state.kept
shown_at_stop p calls =
    let w = along_run new_along calls in
    let holds : AlongInvariant w = run_holds calls new_along new_holds in
    each_at (λ q. (state_at w.firmware.banks q).kept) holds.kept p ∙ ap (λ (s : RecState). option_to_list s.kept) (goes_alone p calls).state

-- the stop emits the last piece
pub stop_emitted : (p : RecordId) (calls : List FirmwareCall) → map Some (those_of p (all_kept (after_calls calls).banks)) ≡ map rec_of (rest (pieces_at p calls).events)
stop_emitted p calls =
    let c = cell_run (new_cell first_control) (actions_of p 0 calls) in
    ap (λ (f : Firmware). map Some (those_of p (all_kept f.banks))) (sym (run_firmware calls new_along))
    ∙ ap (map Some) (shown_at_stop p calls)
    ∙ rest_is c.state.kept (pieces_at p calls).events (pieces_stand first_control (actions_of p 0 calls)).kept

-- the views of a record at the stop
sent_of : (p : RecordId) (calls : List FirmwareCall) → (let c = cell_run (new_cell first_control) (actions_of p 0 calls) in those_of p (sent calls) ≡ c.emitted ++ option_to_list c.state.kept)
sent_of p calls =
    let w = along_run new_along calls in
    let c = cell_run (new_cell first_control) (actions_of p 0 calls) in
    ap (those_of p) (all_sent calls)
    ∙ those_of-append p w.sent (all_kept w.firmware.banks)
    ∙ ap (λ l. l ++ those_of p (all_kept w.firmware.banks)) (goes_alone p calls).sent
    ∙ ap (λ l. c.emitted ++ l) (shown_at_stop p calls)

pub each_emitted : (p : RecordId) (calls : List FirmwareCall) → map Some (those_of p (sent calls)) ≡ map rec_of (pieces_of p calls)
each_emitted p calls = ap (map Some) (sent_of p calls) ∙ all_emitted first_control (actions_of p 0 calls)

pub all_kept_first : (fatal : Option (ℕ × ℕ)) (calls : List FirmwareCall) → (stopped fatal calls).records ≡ first_views (sent calls)
all_kept_first fatal calls =
    let w = along_run new_along calls in
    let holds : AlongInvariant w = run_holds calls new_along new_holds in
    ap (λ (f : Firmware). with_all f.records (all_kept f.banks)) (sym (run_firmware calls new_along))
    ∙ ap (λ (r : KeptState). with_all r (all_kept w.firmware.banks)) holds.out
    ∙ with_first (all_kept w.firmware.banks) w.sent
    ∙ ap first_views (sym (all_sent calls))

as_many : (p : RecordId) (calls : List FirmwareCall) → length (those_of p (sent calls)) ≡ length (pieces_of p calls)
as_many p calls = sym (length-map (those_of p (sent calls)) Some) ∙ ap length (each_emitted p calls) ∙ length-map (pieces_of p calls) rec_of

pub all_counted : (calls : List FirmwareCall) → length (sent calls) ≡ piece_count calls
all_counted calls =
    let w = along_run new_along calls in
    let holds : AlongInvariant w = run_holds calls new_along new_holds in
    let placed : AllByRecursion NamesOne (sent calls) =
    subst (AllByRecursion NamesOne) (sym (all_sent calls))
    (all-append NamesOne w.sent (all_kept w.firmware.banks) holds.placed (each_placed (λ q. (state_at w.firmware.banks q).kept) holds.kept all_records)) in
    omega (arith, count_by_record (sent calls) placed, as_many Read calls, as_many Scrub calls, as_many L1 calls, as_many L2 calls, as_many Hart calls)

one_more_round : (n k m c c' : ℕ) → n ≡ k + m → k ≤ 5 → m ≤ 5 * c → c' ≡ 1 + c → n ≤ 5 * c'
one_more_round n k m c c' h few bound more = omega (arith, h, few, bound, more)

-- a clear emits five views at most
rounds_bounded : (calls : List FirmwareCall) (f : Firmware) → length (joined_rounds (rounds f calls)) ≤ 5 * clears calls
rounds_bounded [] f = omega arith
rounds_bounded (LogEvent e ∷ calls) f = omega (arith, rounds_bounded calls (firmware_after f (LogEvent e)))
rounds_bounded (SetNow n ∷ calls) f = omega (arith, rounds_bounded calls (firmware_after f (SetNow n)))
rounds_bounded (WriteControl p v ∷ calls) f = omega (arith, rounds_bounded calls (firmware_after f (WriteControl p v)))
rounds_bounded (SetStaged p t ∷ calls) f = omega (arith, rounds_bounded calls (firmware_after f (SetStaged p t)))
rounds_bounded (MarkAll ∷ calls) f = omega (arith, rounds_bounded calls (firmware_after f MarkAll))
rounds_bounded (ClearAll ∷ calls) f =
    let more = joined_rounds (rounds (firmware_after f ClearAll) calls) in
    one_more_round (length (joined_rounds (rounds f (ClearAll ∷ calls)))) (length (emissions f.drain f.banks)) (length more) (clears calls) (clears (ClearAll ∷ calls))
    (length-append (emissions f.drain f.banks) more) (few_given (λ id. emission (note_at f.drain id) (state_at f.banks id)) all_records)
    (rounds_bounded calls (firmware_after f ClearAll)) (sum_by-cons (λ call. cond (is_clear call) 1 0) ClearAll calls)

pub all_bounded : (calls : List FirmwareCall) → length (sent calls) ≤ 5 * clears calls + 5
all_bounded calls =
    let b = (after_calls calls).banks in
    let both : length (sent calls) ≡ length (joined_rounds (rounds new_firmware calls)) + length (all_kept b) = length-append (joined_rounds (rounds new_firmware calls)) (all_kept b) in
    omega (arith, both, few_given (λ id. (state_at b id).kept) all_records, rounds_bounded calls new_firmware)

first_and_others : (n views others most pieces : ℕ) → views ≡ min MOST_RECORDS n → others ≡ min (n - MOST_RECORDS) (2 ^ 64 - 1) → n ≤ most → most < 2 ^ 64 → n ≡ pieces → views + others ≡ pieces
first_and_others n views others most pieces h k few below is = omega (arith, h, k, few, below, is)

pub all_add_up : (fatal : Option (ℕ × ℕ)) (calls : List FirmwareCall) → 5 * clears calls + 5 < 2 ^ 64 → length (stopped fatal calls).records.views + (stopped fatal calls).records.left_out ≡ piece_count calls
all_add_up fatal calls below =
    let xs = sent calls in
    first_and_others (length xs) (length (stopped fatal calls).records.views) (stopped fatal calls).records.left_out (5 * clears calls + 5) (piece_count calls)
    (ap (λ (r : KeptState). length r.views) (all_kept_first fatal calls) ∙ length-take MOST_RECORDS xs) (ap (λ (r : KeptState). r.left_out) (all_kept_first fatal calls)) (all_bounded calls) below (all_counted calls)
