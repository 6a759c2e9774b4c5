-- A step changes the error side by the calls that it tells alone, so over a run no event is lost or doubled.
use Rattle.std.proofs.Common.{◌≡◌, ℕ, zero, suc, ◌+◌, ◌-◌, ◌*◌, ◌%◌, ◌^◌, ◌<◌, ◌≤◌, Bool, true, false, List, [], ◌∷◌, ◌++◌, Option, Some, None, refl, sym, subst, ap, ◌∙◌, arith, append_assoc}
use Rattle.std.specs.Prelude.{◌==◌, if◌then◌else◌}
use Rattle.std.proofs.lemmas.List.{append-nil}
use Rattle.std.proofs.lemmas.List.Sums.{fold-append, sum_by-append}
use Rattle.poison_mem.specs.declared.event.Event.{Event}
use Rattle.poison_mem.specs.declared.record_id.RecordId.{RecordId}
use Rattle.poison_mem.specs.Bus.{BusMeaning}
use Rattle.poison_mem.specs.Flips.{FlipMeaning}
use Rattle.poison_mem.specs.RecordId.{record_id}
use Rattle.poison_mem.specs.declared.record_id.RecordId.TheVariants.{Read, Scrub as ScrubRecord, L1, L2}
use Rattle.ras_bits.specs.declared.map.TheConstants.{LAST_STEP}
use Rattle.reri_bank.specs.Bank.{first_control}
use Rattle.reri_bank.specs.StateAt.{state_at}
use Rattle.reri_bank.specs.Banks.{first_critical}
use Rattle.reri_bank.specs.BanksState.{BanksState}
use Rattle.reri_inject.specs.Inject.{Counted, counted, Rests, Waits, Fires, staged_now}
use Rattle.elf_load.specs.Program.{Program}
use Rattle.fault_script.specs.declared.lines.Act.{Act}
use Rattle.fault_script.specs.declared.lines.Act.TheVariants.{Flip, Scrub, Inject, Control}
use Rattle.fault_script.specs.declared.lines.ScriptLine.{ScriptLine}
use Rattle.fault_script.specs.Steps.{at_step}
use Rattle.mem_stack.specs.Stack.{stack_meaning, stack_flips}
use Rattle.scrubber.specs.Patrol.{due_at}
use Rattle.ras_firmware.specs.Drain.{fatal_view}
use Rattle.ras_firmware.specs.Firmware.{FirmwareCall, SetNow, WriteControl, SetStaged, MarkAll, ClearAll, new_firmware, firmware_after, firmware_run, firmware_stopped, drain_calls}
use Rattle.ras_firmware.specs.Sent.{after_calls, stopped, is_clear, clears, actions_of}
use Rattle.ras_firmware.specs.declared.firmware.Firmware.{Firmware}
use Rattle.ras_firmware.proofs.Alone.{each_emitted, all_kept_first, all_add_up}
use Rattle.ras_firmware.proofs.Emitting.{all_joined, all_some, never_falls}
use Rattle.ras_firmware.proofs.Shown.{last_polled, no_region, polled_stays, region_shown}
use Rattle.rv64_hart.specs.Harts.{hart_at}
use Rattle.ras_machine.specs.declared.ending.Stop.{Stop}
use Rattle.ras_machine.specs.declared.ending.Stop.TheVariants as stops
use Rattle.ras_machine.specs.declared.ending.Ending.{Ending}
use Rattle.ras_machine.specs.declared.settings.Settings.{Settings}
use Rattle.ras_machine.specs.declared.state.MachineState.{MachineState}
use Rattle.ras_machine.specs.Accounted.{run_calls, IsOnRun, EmitsEachOnce}
use Rattle.ras_machine.specs.Acted.{Acted, goes, stops_as, unless_stopped, ◌>>=◌, ending_at}
use Rattle.ras_machine.specs.Actions.{told, logs, budget_looked_at, injections_due, calls_for, act_calls, act_done, lines_acted, patrolled_at, patrolled, stopped_at, fatal_looked_at, drained, hart_step, consumption_in, hart_acted, machine_step, at_stop, step_ending}
use Rattle.ras_machine.specs.CountDowns.{calls_as, record_calls, count_calls}
use Rattle.ras_machine.specs.Ends.{fatal_of}
use Rattle.ras_machine.specs.Flat.{acting}
use Rattle.ras_machine.specs.Machine.{StackState, StackMachine, machine_made, stack_step, machine_after, machine_stepped, calls_of_step, machine_steps, machine_run, calls_in, faulty_run}
use Rattle.ras_machine.specs.Schedule.{Given}
use Rattle.ras_machine.specs.Runs.{unless_ended, iterated}

clears_append : (xs ys : List FirmwareCall) → clears (xs ++ ys) ≡ clears xs + clears ys
clears_append xs ys = sum_by-append _ xs ys

-- ---- a step

-- an action changes the error side by the calls that it tells alone, and at most so many of these are clears
record Tells {B : Type 0} (most : ℕ) (s : MachineState B) (a : Acted (MachineState B)) : Type 0 where
  by_calls : a.after.firmware ≡ firmware_run s.firmware a.calls
  few : clears a.calls ≤ most

then_tells : {B : Type 0} (n k most : ℕ) (s : MachineState B) (a : Acted (MachineState B)) (next : MachineState B → Acted (MachineState B)) → n + k ≤ most → Tells n s a
    → ((t : MachineState B) → Tells k t (next t)) → Tells most s (a >>= next)
then_tells n k most s a next fits it more = by_stop a.stop
  where
    by_stop : (stop : Option Stop) → Tells most s (unless_stopped stop a (next a.after))
    by_stop (Some stop) = record { by_calls = it.by_calls; few = let few = it.few in omega arith }
    by_stop None = record {
      by_calls = (more a.after).by_calls ∙ ap (λ f. firmware_run f (next a.after).calls) it.by_calls ∙ sym (fold-append firmware_after s.firmware a.calls (next a.after).calls);
      few =
          let first = it.few in
          let second = (more a.after).few in
          let both = clears_append a.calls (next a.after).calls in
          omega arith;
    }

tells : {B : Type 0} (calls : List FirmwareCall) (most : ℕ) (s : MachineState B) → clears calls ≤ most → Tells most s (told calls s)
tells calls most s few = record { by_calls = refl; few = few }

goes_on : {B : Type 0} (s : MachineState B) → Tells 0 s (goes s)
goes_on s = record { by_calls = refl; few = omega arith }

stops_here : {B : Type 0} (stop : Stop) (s : MachineState B) → Tells 0 s (stops_as stop s)
stops_here stop s = record { by_calls = refl; few = omega arith }

-- lists of calls without a clear
no_clears : (xs ys : List FirmwareCall) → clears xs ≡ 0 → clears ys ≡ 0 → clears (xs ++ ys) ≡ 0
no_clears xs ys h k = let both = clears_append xs ys in omega arith

logs_no_clear : (events : List Event) → clears (logs events) ≡ 0
logs_no_clear [] = refl
logs_no_clear (e ∷ events) = let rest = logs_no_clear events in omega arith

counted_no_clear : (c : Counted) (id : RecordId) → clears (calls_as c id) ≡ 0
counted_no_clear Rests id = refl
counted_no_clear (Waits t) id = refl
counted_no_clear (Fires t) id = refl

count_no_clear : (b : BanksState) → clears (count_calls b) ≡ 0
count_no_clear b =
    no_clears (record_calls b Read) (record_calls b ScrubRecord ++ (record_calls b L1 ++ record_calls b L2)) (one Read)
    (no_clears (record_calls b ScrubRecord) (record_calls b L1 ++ record_calls b L2) (one ScrubRecord) (no_clears (record_calls b L1) (record_calls b L2) (one L1) (one L2)))
  where
    one : (id : RecordId) → clears (record_calls b id) ≡ 0
    one id = counted_no_clear (counted (state_at b id).staged) id

named_no_clear : (id : Option RecordId) (call : RecordId → FirmwareCall) → ((id : RecordId) → is_clear (call id) ≡ false) → clears (calls_for id call) ≡ 0
named_no_clear None call h = refl
named_no_clear (Some id) call h = rw (h id) refl

act_no_clear : {B : Type 0} (flips : FlipMeaning B) (act : Act) (b : B) → clears (act_calls flips act b) ≡ 0
act_no_clear flips (Flip w bit) b = refl
act_no_clear flips (Scrub w) b = logs_no_clear (flips.cells.scrub b w).events
act_no_clear flips (Inject bank rec class delay addr) b = named_no_clear (record_id bank rec) (λ id. SetStaged id (Some (staged_now class delay addr))) (λ id. refl)
act_no_clear flips (Control bank rec value) b = named_no_clear (record_id bank rec) (λ id. WriteControl id value) (λ id. refl)

budget_tells : {B : Type 0} (settings : Settings) (s : MachineState B) → Tells 0 s (budget_looked_at settings s)
budget_tells settings s = by_test (s.steps == settings.budget)
  where
    by_test : (spent : Bool) → Tells 0 s (if spent then stops_as stops.Budget s else goes s)
    by_test true = stops_here stops.Budget s
    by_test false = goes_on s

injections_tell : {B : Type 0} (s : MachineState B) → Tells 0 s (injections_due s)
injections_tell s = tells (SetNow s.steps ∷ count_calls s.firmware.banks) 0 s (let none = count_no_clear s.firmware.banks in omega arith)

lines_tell : {B : Type 0} (flips : FlipMeaning B) (lines : List ScriptLine) (s : MachineState B) → Tells 0 s (lines_acted flips lines s)
lines_tell flips [] s = goes_on s
lines_tell flips (line ∷ lines) s = then_tells 0 0 0 s (act_done flips line.act s) (lines_acted flips lines) (omega arith) act (lines_tell flips lines)
  where
    act : Tells 0 s (act_done flips line.act s)
    act = record { by_calls = refl; few = (let none = act_no_clear flips line.act s.shared.memory in omega arith) }

patrol_tells : {B : Type 0} (flips : FlipMeaning B) (s : MachineState B) → Tells 0 s (patrolled flips s)
patrol_tells flips s = by_due (due_at s.patrol s.steps)
  where
    by_due : (due : Option ℕ) → Tells 0 s (patrolled_at flips due s)
    by_due None = goes_on s
    by_due (Some w) = record { by_calls = refl; few = (let none = logs_no_clear (flips.cells.scrub s.shared.memory w).events in omega arith) }

fatal_tells : {B : Type 0} (s : MachineState B) → Tells 0 s (fatal_looked_at s)
fatal_tells s = by_found (first_critical s.firmware.banks)
  where
    by_found : (found : Option (ℕ × ℕ)) → Tells 0 s (stopped_at found s)
    by_found None = goes_on s
    by_found (Some found) = stops_here (stops.Injected found.0 found.1) s

drain_clears : (n interval : ℕ) → clears (drain_calls n interval) ≤ 1
drain_clears n interval = by_tests (interval == 0) (n % interval + 2 == interval) (n % interval + 1 == interval)
  where
    by_tests : (none marks drains : Bool) → clears (if none then [] else if marks then MarkAll ∷ [] else if drains then ClearAll ∷ [] else []) ≤ 1
    by_tests true marks drains = omega arith
    by_tests false true drains = omega arith
    by_tests false false true = omega arith
    by_tests false false false = omega arith

drain_tells : {B : Type 0} (s : MachineState B) → Tells 1 s (drained s)
drain_tells s = tells (drain_calls s.steps s.poll) 1 s (drain_clears s.steps s.poll)

hart_tells : {B : Type 0} (bus : BusMeaning B) (given : Given) (s : MachineState B) → Tells 0 s (hart_acted bus given s)
hart_tells bus given s =
    let t = hart_step bus given s in
    let i = acting given s.steps s.shared.harts in
    let events = t.after.log ++ consumption_in i t.answer (hart_at s.shared.harts i).pc in
    record { by_calls = refl; few = (let none = logs_no_clear events in omega arith) }

module _ {B : Type 0} (bus : BusMeaning B) (flips : FlipMeaning B) (settings : Settings) (given : Given) (script : List ScriptLine) where
  step_tells : (s : MachineState B) → Tells 1 s (machine_step bus flips settings given script s)
  unfolding machine_step
  step_tells s =
      then_tells 0 1 1 s (budget_looked_at settings s) _ (omega arith) (budget_tells settings s) (λ a.
      then_tells 0 1 1 a (injections_due a) _ (omega arith) (injections_tell a) (λ b.
      then_tells 0 1 1 b (lines_acted flips (at_step b.steps script) b) _ (omega arith) (lines_tell flips (at_step b.steps script) b) (λ c.
      then_tells 0 1 1 c (patrolled flips c) _ (omega arith) (patrol_tells flips c) (λ d.
      then_tells 0 1 1 d (fatal_looked_at d) _ (omega arith) (fatal_tells d) (λ e.
      then_tells 1 0 1 e (drained e) _ (omega arith) (drain_tells e) (λ f. hart_tells bus given f))))))

-- ---- a run

-- the error side at an ending: it was stopped
abbrev stopped_by : Option Ending → Firmware → Firmware
stopped_by None f = f
stopped_by (Some ending) f = firmware_stopped (fatal_of ending.stop) f

-- a machine's error side is what these calls, and its ending, make of new firmware
abbrev IsAfter : List FirmwareCall → StackMachine → Type 0
IsAfter calls m = m.state.firmware ≡ stopped_by m.ended (after_calls calls)

left_firmware : {B : Type 0} (stop : Option Stop) (s : MachineState B) → (at_stop stop s).firmware ≡ stopped_by (ending_at stop s.steps) s.firmware
left_firmware None s = refl
left_firmware (Some stop) s = refl

module _ (given : Given) (script : List ScriptLine) where
  abbrev step_of : StackMachine → Acted StackState
  step_of m = stack_step m.settings given script m.state

  tells_of : (m : StackMachine) → Tells 1 m.state (step_of m)
  tells_of m = step_tells stack_meaning stack_flips m.settings given script m.state

  stepped_after : (m : StackMachine) (calls : List FirmwareCall) → IsAfter calls m → IsAfter (calls ++ calls_of_step m.ended (step_of m)) (machine_stepped given script m)
  stepped_after m calls it = by_ended m.ended it
    where
      a : Acted StackState
      a = step_of m

      by_ended : (ended : Option Ending) → m.state.firmware ≡ stopped_by ended (after_calls calls) → IsAfter (calls ++ calls_of_step ended a) (unless_ended ended m (machine_after m a))
      by_ended (Some ending) is = subst (λ cs. IsAfter cs m) (sym (append-nil calls)) it
      by_ended None is =
          left_firmware a.stop a.after
          ∙ ap (stopped_by (step_ending a)) ((tells_of m).by_calls ∙ ap (λ f. firmware_run f a.calls) is ∙ sym (fold-append firmware_after new_firmware calls a.calls))

  steps_after : (n : ℕ) (m : StackMachine) (calls : List FirmwareCall) → IsAfter calls m → IsAfter (calls ++ calls_in given script n m) (machine_steps given script n m)
  unfolding iterated calls_in
  steps_after zero m calls it = subst (λ cs. IsAfter cs m) (sym (append-nil calls)) it
  steps_after (suc n) m calls it =
      let now : List FirmwareCall = calls_of_step m.ended (step_of m) in
      subst (λ cs. IsAfter cs (machine_steps given script (suc n) m)) (append_assoc calls now (calls_in given script n (machine_stepped given script m)))
      (steps_after n (machine_stepped given script m) (calls ++ now) (stepped_after m calls it))

  step_clears : (ended : Option Ending) (m : StackMachine) → clears (calls_of_step ended (step_of m)) ≤ 1
  step_clears (Some ending) m = omega arith
  step_clears None m = (tells_of m).few

  steps_clear : (n : ℕ) (m : StackMachine) → clears (calls_in given script n m) ≤ n
  unfolding calls_in
  steps_clear zero m = omega arith
  steps_clear (suc n) m =
      let first = step_clears m.ended m in
      let rest = steps_clear n (machine_stepped given script m) in
      let both = clears_append (calls_of_step m.ended (step_of m)) (calls_in given script n (machine_stepped given script m)) in
      omega arith

-- ---- no event is lost or doubled

-- by any calls, and a stop, where few of the calls are clears
stopped_emits : (calls : List FirmwareCall) (fatal : Option (ℕ × ℕ)) → 5 * clears calls + 5 < 2 ^ 64 → EmitsEachOnce calls fatal (stopped fatal calls)
stopped_emits calls fatal few = record {
  is = refl;
  joined = λ id. all_joined first_control (actions_of id 0 calls);
  some = λ id. all_some first_control (actions_of id 0 calls);
  emitted = λ id. each_emitted id calls;
  kept = all_kept_first fatal calls;
  adds_up = all_add_up fatal calls few;
  class_never_falls = never_falls;
  polled = polled_stays (after_calls calls).memory (fatal_view (after_calls calls).banks fatal) ∙ last_polled calls;
  region = region_shown (after_calls calls).memory (fatal_view (after_calls calls).banks fatal) (no_region calls);
}

run_emits_each_once : (image : Program) (settings : Settings) (given : Given) (script : List ScriptLine) (ending : Ending) → settings.budget ≤ LAST_STEP
    → (faulty_run image settings given script).ended ≡ Some ending
    → EmitsEachOnce (run_calls image settings given script) (fatal_of ending.stop) (faulty_run image settings given script).state.firmware
run_emits_each_once image settings given script ending low ended = subst (EmitsEachOnce calls (fatal_of ending.stop)) (sym is) (stopped_emits calls (fatal_of ending.stop) few)
  where
    made : StackMachine
    made = machine_made image settings

    calls : List FirmwareCall
    calls = run_calls image settings given script

    few : 5 * clears calls + 5 < 2 ^ 64
    few = let clear = steps_clear given script (settings.budget + 1) made in omega arith

    all_steps : settings.budget + 1 - 0 ≡ settings.budget + 1
    all_steps = omega arith

    is : (faulty_run image settings given script).state.firmware ≡ stopped (fatal_of ending.stop) calls
    is =
        steps_after given script (settings.budget + 1 - 0) made [] refl
        ∙ ap (λ (ended : Option Ending). stopped_by ended (after_calls (calls_in given script (settings.budget + 1 - 0) made))) ended
        ∙ ap (λ n. stopped (fatal_of ending.stop) (calls_in given script n made)) all_steps

-- so it is at the end of a machine that is on the run of an image
pub emits_on_run : (image : Program) (given : Given) (script : List ScriptLine) (m after : StackMachine) (ending : Ending) → m.settings.budget ≤ LAST_STEP → IsOnRun image given script m
    → after ≡ machine_run given script m → after.ended ≡ Some ending → EmitsEachOnce (run_calls image m.settings given script) (fatal_of ending.stop) after.state.firmware
emits_on_run image given script m after ending low on is ended =
    let same : after ≡ faulty_run image m.settings given script = is ∙ on.run in
    subst (λ (k : StackMachine). EmitsEachOnce (run_calls image m.settings given script) (fatal_of ending.stop) k.state.firmware) (sym same)
    (run_emits_each_once image m.settings given script ending low (ap (λ (k : StackMachine). k.ended) (sym same) ∙ ended))
