-- What a hart's step over the banks makes of the machine.
use Rattle.std.proofs.Common.{ℕ, ◌≡◌, ◌∙◌, Bool, true, false, List, [], ◌∷◌, ◌++◌, Option, Some, length, refl, ap, sym, subst}
use Rattle.poison_mem.specs.declared.cell.UseKind.{UseKind}
use Rattle.poison_mem.specs.declared.event.Event.{Event}
use Rattle.poison_mem.specs.Event.{consumption_of}
use Rattle.poison_mem.specs.Bus.{BusMeaning, KeepsWords, logged_all}
use Rattle.poison_mem.specs.BusLaws.{logged_append}
use Rattle.poison_mem.specs.Asking.{Played, Ended, Poisoned, play, bus_of}
use Rattle.poison_mem.specs.AskingLaws.{play_keeps_words}
use Rattle.ras_bits.specs.Map.{word_address}
use Rattle.reri_bank.specs.Banks.{banks_logged}
use Rattle.reri_bank.specs.BanksState.{BanksState}
use Rattle.ras_firmware.specs.Firmware.{firmware_run}
use Rattle.ras_firmware.specs.declared.firmware.Firmware.{Firmware}
use Rattle.rv64_hart.specs.Outcome.{Outcome, has_room}
use Rattle.rv64_hart.specs.StepLaws.{stored_keeps_words}
use Rattle.rv64_hart.specs.Around.{around_at}
use Rattle.rv64_hart.specs.Turn.{turn}
use Rattle.rv64_hart.specs.Harts.{peers_of, HartsScene, HartsStepped, hart_at, harts_scene, harts_stepped, harts_finished_by, harts_finished, harts_step_of}
use Rattle.rv64_hart.specs.declared.ends.TurnEnd.TheVariants as ends
use Rattle.ras_machine.specs.declared.ending.Stop.{Stop}
use Rattle.ras_machine.specs.declared.ending.Stop.TheVariants as stops
use Rattle.ras_machine.specs.declared.state.MachineState.{MachineState}
use Rattle.ras_machine.specs.Actions.{logs, consumption_in, hart_step, hart_acted, at_stop}
use Rattle.ras_machine.specs.CountDowns.{with_banks}
use Rattle.ras_machine.specs.Ends.{turn_stop, turn_steps}
use Rattle.ras_machine.specs.Schedule.{Given, given_by, pick}
use Rattle.ras_machine.specs.Flat.{acting, turn_of}
use Rattle.ras_machine.proofs.HartCount.{step_count}
use Rattle.ras_machine.proofs.Actions.{left}
use Rattle.ras_machine.proofs.Logging.{step_by_events}

-- firmware that is told events has them in its banks
pub run_logs : (events : List Event) (f : Firmware) → firmware_run f (logs events) ≡ with_banks f (logged_all banks_logged f.banks events)
run_logs [] f = refl
run_logs (event ∷ events) f = run_logs events (with_banks f (banks_logged f.banks event))

-- and events after others
pub run_more : (before events : List Event) (f : Firmware) → firmware_run f (logs (before ++ events)) ≡ firmware_run (firmware_run f (logs before)) (logs events)
run_more [] events f = refl
run_more (event ∷ before) events f = run_more before events (with_banks f (banks_logged f.banks event))

-- the hart whose turn it is
abbrev pub whose : {B : Type 0} → Given → MachineState B → ℕ
whose given s = acting given s.steps s.shared.harts

-- the machine after a step of hart i that left this
abbrev pub left_with : {B : Type 0} → ℕ → MachineState B → HartsStepped B BanksState → MachineState B
left_with i s t =
    record s {
      shared = record { harts = t.after.harts; memory = t.after.bus };
      place = t.after.place;
      firmware = with_banks s.firmware (logged_all banks_logged t.after.log (consumption_in i t.answer (hart_at s.shared.harts i).pc));
      console = t.after.console;
      steps = turn_steps t.answer s.steps;
    }

-- and the stop that it brings
abbrev pub stop_with : {B : Type 0} → ℕ → MachineState B → HartsStepped B BanksState → Option Stop
stop_with i s t = turn_stop t.answer (hart_at s.shared.harts i).pc

-- what the step of the hart whose turn it is works on
abbrev pub bank_scene : {B : Type 0} → MachineState B → HartsScene B BanksState
bank_scene s = harts_scene s.shared.harts s.place s.console s.shared.memory s.firmware.banks

-- that step leaves this
abbrev pub LeavesAt : {B : Type 0} → BusMeaning B → Given → MachineState B → HartsStepped B BanksState → Type 0
LeavesAt bus given s t =
    harts_step_of bus banks_logged (whose given s) (turn_of given s.steps (bus.words s.shared.memory) s.shared.harts s.place) (bank_scene s) ≡ t

-- as it is known of a hart that was picked
pub turn_taken : {B : Type 0} (bus : BusMeaning B) (input schedule : List ℕ) (s : MachineState B) (t : HartsStepped B BanksState) (i count : ℕ) → i ≡ pick schedule count s.steps
    → count ≡ length s.shared.harts
    → (let around = around_at (bus.words s.shared.memory) (peers_of s.shared.harts) s.steps input s.place in
    harts_step_of bus banks_logged i (turn around (hart_at s.shared.harts i)) (bank_scene s) ≡ t)
    → LeavesAt bus (given_by input schedule) s t
turn_taken bus input schedule s t i count picked counted step =
    subst (λ k. harts_step_of bus banks_logged k (turn (around_at (bus.words s.shared.memory) (peers_of s.shared.harts) s.steps input s.place) (hart_at s.shared.harts k)) (bank_scene s) ≡ t)
    (picked ∙ ap (λ count. pick schedule count s.steps) counted) step

told_all : {B : Type 0} (s : MachineState B) (events : List Event) (t : HartsStepped B (List Event))
    → firmware_run s.firmware (logs (t.after.log ++ events)) ≡ with_banks s.firmware (logged_all banks_logged (logged_all banks_logged s.firmware.banks t.after.log) events)
told_all s events t =
    run_logs (t.after.log ++ events) s.firmware
    ∙ ap (with_banks s.firmware) (logged_append banks_logged s.firmware.banks t.after.log events)

pub hart_acts : {B : Type 0} (bus : BusMeaning B) (given : Given) (s : MachineState B) (t : HartsStepped B BanksState)
    → LeavesAt bus given s t → (left_with (whose given s) s t, stop_with (whose given s) s t) ≡ left (hart_acted bus given s)
hart_acts bus given s t is =
    let e = hart_step bus given s in
    let i = whose given s in
    let pc = (hart_at s.shared.harts i).pc in
    ap (λ (t : HartsStepped _ BanksState). (left_with i s t, stop_with i s t))
    (sym is ∙ step_by_events bus banks_logged i (bank_scene s) (turn_of given s.steps (bus.words s.shared.memory) s.shared.harts s.place))
    ∙ ap (λ (f : Firmware). (
      record s {
        shared = record { harts = e.after.harts; memory = e.after.bus };
        place = e.after.place;
        firmware = f;
        console = e.after.console;
        steps = turn_steps e.answer s.steps;
      },
      turn_stop e.answer pc,
    ))
    (sym (told_all s (consumption_in i e.answer pc) e))

-- a stop at poison, whose consumption the banks logged
pub stops_at_poison : {B : Type 0} (i : ℕ) (s : MachineState B) (w : ℕ) (use_kind : UseKind) (after : HartsScene B BanksState) (banks : BanksState) (event : Event) (address pc : ℕ)
    → banks ≡ banks_logged after.log event → event ≡ consumption_of use_kind i address pc → address ≡ word_address w → pc ≡ (hart_at s.shared.harts i).pc
    → at_stop (Some (stops.Consumed w use_kind pc)) (record s {
      shared = record { harts = after.harts; memory = after.bus };
      place = after.place;
      firmware = with_banks s.firmware banks;
      console = after.console;
    }) ≡ at_stop (stop_with i s (harts_stepped (ends.Poisoned w use_kind) after)) (left_with i s (harts_stepped (ends.Poisoned w use_kind) after))
stops_at_poison i s w use_kind after banks event address pc logged is address_is pc_is = rw (logged, is, address_is, pc_is) refl

-- ---- it keeps the number of words

module _ {B L : Type 0} (bus : BusMeaning B) (logged : L → Event → L) (keeps : KeepsWords bus) where
  by_room_words : (fits : Bool) (at : ℕ) (s : HartsScene B L) (o : Outcome) (b : B) (log : L) → bus.words (harts_finished_by fits bus logged at s o b log).after.bus ≡ bus.words b
  by_room_words true at s o b log = stored_keeps_words bus logged o.stores b log keeps
  by_room_words false at s o b log = refl

  finished_words : (at : ℕ) (s : HartsScene B L) (P : Played Outcome B L) → bus.words (harts_finished bus logged at s P).after.bus ≡ bus.words (bus_of P)
  unfolding harts_finished
  finished_words at s (Ended o b log) = by_room_words (has_room s.console o.bytes) at s o b log
  finished_words at s (Poisoned w use_kind b log) = refl

pub hart_keeps_words : {B : Type 0} (bus : BusMeaning B) → KeepsWords bus → (given : Given) (s : MachineState B) (t : HartsStepped B BanksState)
    → LeavesAt bus given s t → bus.words t.after.bus ≡ bus.words s.shared.memory
hart_keeps_words bus keeps given s t is =
    let turn = turn_of given s.steps (bus.words s.shared.memory) s.shared.harts s.place in
    ap (λ (t : HartsStepped _ BanksState). bus.words t.after.bus) (sym is)
    ∙ finished_words bus banks_logged keeps (whose given s) (bank_scene s) (play bus banks_logged turn s.shared.memory s.firmware.banks)
    ∙ play_keeps_words bus banks_logged turn s.shared.memory s.firmware.banks keeps

-- ---- and the number of harts

pub hart_keeps_harts : {B : Type 0} (bus : BusMeaning B) (given : Given) (s : MachineState B) (t : HartsStepped B BanksState)
    → LeavesAt bus given s t → length t.after.harts ≡ length s.shared.harts
hart_keeps_harts bus given s t is =
    ap (λ (t : HartsStepped _ BanksState). length t.after.harts) (sym is)
    ∙ step_count bus banks_logged (whose given s) (bank_scene s) (turn_of given s.steps (bus.words s.shared.memory) s.shared.harts s.place)
