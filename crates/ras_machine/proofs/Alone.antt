-- A step in which nothing but a hart acts, and that the error side stays calm in it.
use Rattle.std.proofs.Common.{is_some, ℕ, zero, suc, ◌^◌, nat_lt, ◌&&◌, if◌then◌else◌, slice_index_or, ◌≡◌, ◌∙◌, ◌+◌, ◌-◌, ◌%◌, ◌<◌, ◌≤◌, ◌==◌, Bool, true, false, not, List, [], ◌∷◌, Option, Some, None, length, drop, refl, sym, subst, ap, arith}
use Rattle.std.specs.List.Sorted.{IsNonDecreasingBy}
use Rattle.poison_mem.specs.Bus.{BusMeaning}
use Rattle.poison_mem.specs.Flips.{FlipMeaning}
use Rattle.poison_mem.specs.declared.record_id.RecordId.TheVariants.{Read, Scrub, L1, L2}
use Rattle.poison_mem.specs.declared.event.Event.{Event}
use Rattle.mem_stack.specs.Stack.{stack_meaning, stack_flips}
use Rattle.mem_stack.specs.EventsLaws.{AreMild, stack_logs_mildly}
use Rattle.reri_bank.specs.BanksState.{BanksState}
use Rattle.reri_bank.specs.Banks.{banks_logged}
use Rattle.reri_bank.specs.StateAt.{state_at}
use Rattle.reri_bank.specs.declared.state.Staged.{Staged}
use Rattle.reri_inject.specs.CallsLaws.{log_keeps}
use Rattle.reri_inject.specs.CriticalLaws.{log_brings_none, none_stay}
use Rattle.reri_inject.specs.Inject.{counted}
use Rattle.scrubber.specs.Patrol.{due_at}
use Rattle.fault_script.specs.declared.lines.ScriptLine.{ScriptLine}
use Rattle.fault_script.specs.Steps.{step_of_line, at_step}
use Rattle.ras_firmware.specs.Firmware.{LogEvent, SetNow, firmware_after, firmware_run}
use Rattle.ras_firmware.specs.declared.firmware.Firmware.{Firmware}
use Rattle.rv64_hart.specs.declared.ends.TurnEnd.{TurnEnd}
use Rattle.rv64_hart.specs.declared.ends.TurnEnd.TheVariants as ends
use Rattle.ras_machine.specs.declared.settings.Settings.{Settings}
use Rattle.ras_machine.specs.declared.state.MachineState.{MachineState}
use Rattle.ras_machine.specs.Acted.{ending_at}
use Rattle.ras_machine.specs.Actions.{logs, injections_due, lines_acted, patrolled_at, prepared, hart_acted, machine_step, left_by, step_ending, at_stop}
use Rattle.ras_machine.specs.CountDowns.{calls_as, count_calls}
use Rattle.ras_machine.specs.Schedule.{Given}
use Rattle.ras_machine.specs.Undisturbed.{AreCalm, IsUndisturbed, step_begun, first_with_few}
use Rattle.ras_machine.specs.FirstLine.{IsFirstLineOf}
use Rattle.ras_machine.specs.Runs.{unless_ended}
use Rattle.ras_machine.specs.declared.ending.Ending.{Ending}
use Rattle.ras_machine.proofs.FirstLines.{no_line, later_too, from_first_line}
use Rattle.scrubber.specs.Interval.{left_in}
use Rattle.scrubber.specs.PatrolState.{PatrolState}
use Rattle.scrubber.proofs.Intervals.{begins, within}
use Rattle.fault_script.proofs.StepLemmas.{at_step_over}
use Rattle.std.proofs.Math.Nat.{mod-le, mod-lt}
use Rattle.std.proofs.Math.ListN.{drop_of_length-le}
use Rattle.std.proofs.lemmas.Bool.Decides.{nat_tests}
use Rattle.std.proofs.lemmas.Grind.{common_steps}
use Rattle.ras_firmware.specs.Firmware.{drain_calls}
use Rattle.ras_machine.proofs.Actions.{left}
use Rattle.ras_machine.specs.Ends.{turn_stop}
use Rattle.ras_machine.specs.Flat.{acting, turn_of}
use Rattle.ras_machine.specs.Machine.{StackMachine, stack_step, machine_stepped, machine_after}
use Rattle.rv64_hart.specs.Harts.{HartsStepped, hart_at, harts_scene}
use Rattle.ras_machine.proofs.ErrorCalls.{mild_rank}
use Rattle.ras_machine.proofs.Made.{step_made}
use Rattle.ras_machine.proofs.Mild.{step_logs_mildly}
use Rattle.ras_machine.specs.Actions.{hart_step, after_turn, consumption_in}
use Rattle.mem_stack.specs.Stack.{StackLines}
use Rattle.std.specs.Prelude.{◌++◌}
use Rattle.std.proofs.lemmas.List.{append-nil}
use Rattle.ras_machine.specs.declared.ending.Stop.{Stop}

-- where nothing is staged, a count-down tells nothing
no_counts : (a b c d : Option Staged) → a ≡ None → b ≡ None → c ≡ None → d ≡ None
    → calls_as (counted a) Read ++ (calls_as (counted b) Scrub ++ (calls_as (counted c) L1 ++ calls_as (counted d) L2)) ≡ []
no_counts a b c d p q r s = rw (p, q, r, s) refl

calm_counts : (b : BanksState) → AreCalm b → count_calls b ≡ []
calm_counts b calm =
    no_counts (state_at b Read).staged (state_at b Scrub).staged (state_at b L1).staged (state_at b L2).staged
    (calm.staged Read (omega arith)) (calm.staged Scrub (omega arith)) (calm.staged L1 (omega arith)) (calm.staged L2 (omega arith))

module _ {B : Type 0} (bus : BusMeaning B) (flips : FlipMeaning B) (given : Given) (settings : Settings) (lines : List ScriptLine) (s : MachineState B) where
  begun_alone : AreCalm s.firmware.banks → (injections_due s).after ≡ step_begun s
  begun_alone calm = ap (λ calls. record s { firmware = firmware_run s.firmware (SetNow s.steps ∷ calls) }) (calm_counts s.firmware.banks calm)

  prepared_alone : IsUndisturbed settings.budget lines s.poll s.patrol s.steps → AreCalm s.firmware.banks → step_begun s ≡ prepared flips lines s
  prepared_alone alone calm =
      sym (ap (λ (b : MachineState B). let acted = (lines_acted flips (at_step b.steps lines) b).after in (patrolled_at flips (due_at acted.patrol acted.steps) acted).after) (begun_alone calm)
      ∙ ap (λ now. let acted = (lines_acted flips now (step_begun s)).after in (patrolled_at flips (due_at acted.patrol acted.steps) acted).after) alone.silent
      ∙ ap (λ due. (patrolled_at flips due (step_begun s)).after) alone.unpatrolled)

  -- such a step is that of the hart
  pub step_alone : IsUndisturbed settings.budget lines s.poll s.patrol s.steps → AreCalm s.firmware.banks
      → left (machine_step bus flips settings given lines s) ≡ left (hart_acted bus given (step_begun s))
  step_alone alone calm =
      step_made bus flips given settings lines s alone.more (step_begun s) (step_begun s) (prepared_alone alone calm) calm.kept
      (ap (λ calls. record (step_begun s) { firmware = firmware_run (step_begun s).firmware calls }) (sym alone.undrained))

-- ---- the error side stays calm

logged_calm : (events : List Event) (f : Firmware) → AreMild events → AreCalm f.banks → AreCalm (firmware_run f (logs events)).banks
logged_calm [] f mild calm = calm
logged_calm (e ∷ events) f mild calm =
    logged_calm events (firmware_after f (LogEvent e)) mild.1 (record {
      staged = λ id below. log_keeps f.banks e id ∙ calm.staged id below;
      kept = none_stay f.banks (banks_logged f.banks e) calm.kept (log_brings_none f.banks e (mild_rank e.class mild.0));
    })

-- in a turn of a hart that doesn't end the run
turn_calm : {B : Type 0} (i : ℕ) (s : MachineState B) (t : HartsStepped B (List Event)) → AreMild t.after.log → AreCalm s.firmware.banks
    → (after_turn i s t).stop ≡ None → AreCalm (after_turn i s t).after.firmware.banks
turn_calm i s t mild calm goes = by_answer t.answer goes
  where
    by_answer : (answer : TurnEnd) → turn_stop answer (hart_at s.shared.harts i).pc ≡ None
        → AreCalm (firmware_run s.firmware (logs (t.after.log ++ consumption_in i answer (hart_at s.shared.harts i).pc))).banks
    by_answer (ends.Went effect) goes = subst (λ events. AreCalm (firmware_run s.firmware (logs events)).banks) (sym (append-nil t.after.log)) (logged_calm t.after.log s.firmware mild calm)
    by_answer (ends.Stop stop) goes = cc goes
    by_answer (ends.Poisoned w use_kind) goes = cc goes

-- over the stack
pub acted_calm : (given : Given) (s : MachineState StackLines) → AreCalm s.firmware.banks → (hart_acted stack_meaning given s).stop ≡ None
    → AreCalm (hart_acted stack_meaning given s).after.firmware.banks
acted_calm given s calm goes =
    turn_calm (acting given s.steps s.shared.harts) s (hart_step stack_meaning given s)
    (step_logs_mildly stack_meaning stack_flips stack_logs_mildly (acting given s.steps s.shared.harts) (turn_of given s.steps (stack_meaning.words s.shared.memory) s.shared.harts s.place)
    (harts_scene s.shared.harts s.place s.console s.shared.memory []) tt)
    calm goes

-- a stop brings an ending
pub no_stop : (stop : Option Stop) (steps : ℕ) → ending_at stop steps ≡ None → stop ≡ None
no_stop None steps h = refl
no_stop (Some stop) steps h = cc h

-- and so after a step that left the machine this state
pub left_calm : (given : Given) (inside m : StackMachine) (after : MachineState StackLines) → inside ≡ m → AreCalm m.state.firmware.banks → after ≡ left_by (hart_acted stack_meaning given (step_begun inside.state))
    → step_ending (hart_acted stack_meaning given (step_begun inside.state)) ≡ None → AreCalm after.firmware.banks
left_calm given inside m after seen calm is none =
    let acted = hart_acted stack_meaning given (step_begun inside.state) in
    let goes = no_stop acted.stop acted.after.steps none in
    let before : AreCalm inside.state.firmware.banks = subst (λ (m : StackMachine). AreCalm m.state.firmware.banks) (sym seen) calm in
    subst (λ (s : MachineState StackLines). AreCalm s.firmware.banks) (sym (is ∙ ap (λ stop. at_stop stop acted.after) goes))
    (acted_calm given (step_begun inside.state) (record { staged = before.staged; kept = before.kept }) goes)

-- a step of the whole machine that is so, seen from the machine inside
pub stepped_alone : (given : Given) (lines : List ScriptLine) (inside m : StackMachine) (state : MachineState StackLines) (ended : Option Ending) → inside ≡ m → m.ended ≡ None
    → IsUndisturbed m.settings.budget lines m.state.poll m.state.patrol m.state.steps → AreCalm m.state.firmware.banks
    → state ≡ left_by (hart_acted stack_meaning given (step_begun inside.state)) → ended ≡ step_ending (hart_acted stack_meaning given (step_begun inside.state))
    → (let after : StackMachine = record { state = state; settings = inside.settings; ended = ended } in after) ≡ machine_stepped given lines m
stepped_alone given lines inside m state ended seen going alone calm is ends =
    let made : (let after : StackMachine = record { state = left_by (hart_acted stack_meaning given (step_begun m.state)); settings = m.settings; ended = step_ending (hart_acted stack_meaning given (step_begun m.state)) } in after)
    ≡ machine_stepped given lines m = stepped_so in
    rw (is, ends, seen) made
  where
    stepped_so : (let after : StackMachine = record { state = left_by (hart_acted stack_meaning given (step_begun m.state)); settings = m.settings; ended = step_ending (hart_acted stack_meaning given (step_begun m.state)) } in after)
        ≡ machine_stepped given lines m
    stepped_so =
        ap (λ p. let after : StackMachine = record { state = at_stop p.1 p.0; settings = m.settings; ended = ending_at p.1 p.0.steps } in after)
        (sym (step_alone stack_meaning stack_flips given m.settings lines m.state alone calm))
        ∙ sym (ap (λ ended. unless_ended ended m (machine_after m (stack_step m.settings given lines m.state))) going)

-- ---- the steps before something else acts

-- how many steps of an interval are left falls by one each step
left_falls : (every n m : ℕ) → n ≤ m → 0 < every → m - n < every - n % every → m % every ≡ n % every + (m - n)
left_falls every n m up some near =
    let below = mod-le n every in
    sym (within m (n - n % every) every some (begins n every) (omega arith) (omega arith)) ∙ omega arith

-- where some are left
few_by : (n left few : ℕ) (none : Bool) → (left == 0) ≡ none → first_with_few n left few ≡ (if none then 2 ^ 64 - 1 else n + (left - few))
few_by n left few none is = ap (λ none. if none then 2 ^ 64 - 1 else n + (left - few)) is

few_is : (n k few : ℕ) → 0 < k → first_with_few n k few ≡ n + (k - few)
few_is n k few some = let test : (k == 0) ≡ false = grind (arith, nat_tests) in few_by n k few false test

left_by_test : (every n : ℕ) (none : Bool) → (every == 0) ≡ none → left_in every n ≡ (if none then 0 else every - n % every)
left_by_test every n none is = ap (λ none. if none then 0 else every - n % every) is

left_is : (every n : ℕ) → 0 < every → left_in every n ≡ every - n % every
left_is every n some = let test : (every == 0) ≡ false = grind (arith, nat_tests) in left_by_test every n false test

few_left : (every n few : ℕ) → 0 < every → first_with_few n (left_in every n) few ≡ n + (every - n % every - few)
few_left every n few some =
    let below = mod-lt n {m = every} some in
    ap (λ k. first_with_few n k few) (left_is every n some) ∙ few_is n (every - n % every) few (omega arith)

-- no patrol is due while more than one is left
rests : (every n m : ℕ) → n ≤ m → m < first_with_few n (left_in every n) 1 → (nat_lt 0 every && m % every == every - 1) ≡ false
rests zero n m up low = refl
rests (suc k) n m up low =
    let below = mod-lt n {m = suc k} (omega arith) in
    let near : m < n + (suc k - n % suc k - 1) = subst (λ step. m < step) (few_left (suc k) n 1 (omega arith)) low in
    let is = left_falls (suc k) n m up (omega arith) (omega arith) in
    let more : m % suc k + 1 < suc k = omega arith in
    grind (arith, common_steps)

pub no_patrol : (p : PatrolState) (n m : ℕ) → n ≤ m → m < first_with_few n (left_in p.every n) 1 → due_at p m ≡ None
no_patrol p n m up low = ap (λ due. if due then Some p.next else None) (rests p.every n m up low)

-- nothing is drained while more than two are
pub no_drain : (every n m : ℕ) → n ≤ m → m < first_with_few n (left_in every n) 2 → drain_calls m every ≡ []
no_drain zero n m up low = refl
no_drain (suc k) n m up low =
    let below = mod-lt n {m = suc k} (omega arith) in
    let near : m < n + (suc k - n % suc k - 2) = subst (λ step. m < step) (few_left (suc k) n 2 (omega arith)) low in
    let is = left_falls (suc k) n m up (omega arith) (omega arith) in
    let more : m % suc k + 2 < suc k = omega arith in
    let marks : (m % suc k + 2 == suc k) ≡ false = grind (arith, common_steps) in
    let clears : (m % suc k + 1 == suc k) ≡ false = grind (arith, common_steps) in
    let some : (suc k == 0) ≡ false = grind (arith, nat_tests) in
    rw (some, marks, clears) refl

-- ---- the lines before the first of a later step

pub still_first : (lines : List ScriptLine) (k n at : ℕ) → IsNonDecreasingBy step_of_line lines → IsFirstLineOf k lines at → k ≤ n
    → (at < length lines → n ≤ (slice_index_or lines at no_line).step) → IsFirstLineOf n lines at
still_first lines k n at up it more low = record {
  inside = it.inside;
  before = λ i d below. let less = it.before i d below in omega arith;
  behind = λ i d above there. later_too lines n at i d no_line up above there (low (omega arith));
}

pub silent_before : (lines : List ScriptLine) (n at : ℕ) → IsNonDecreasingBy step_of_line lines → IsFirstLineOf n lines at
    → (at < length lines → n < (slice_index_or lines at no_line).step) → at_step n lines ≡ []
silent_before lines n at up it low = sym (from_first_line lines n at no_line up it) ∙ by_inside (nat_lt at (length lines)) refl
  where
    by_inside : (b : Bool) → nat_lt at (length lines) ≡ b → at_step n (drop at lines) ≡ []
    by_inside true h = let there : at < length lines = grind (arith, common_steps) in at_step_over n lines at no_line up there (low there)
    by_inside false h = let there : length lines ≤ at = grind (arith, common_steps) in ap (at_step n) (drop_of_length-le lines there)

pub few_later : (n k few step : ℕ) → step < 2 ^ 64 → step ≡ first_with_few n k few → n < 2 ^ 64 → n ≤ step
few_later n k few step fits is low = by_test (k == 0) refl
  where
    by_test : (none : Bool) → (k == 0) ≡ none → n ≤ step
    by_test true h = let last = is ∙ few_by n k few true h in omega arith
    by_test false h = let later = is ∙ few_by n k few false h in omega arith

-- what is undisturbed for the same budget, interval and patrol
pub alone_too : (lines : List ScriptLine) (budget budget' poll poll' : ℕ) (patrol patrol' : PatrolState) (n : ℕ) → budget' ≡ budget → poll' ≡ poll → patrol' ≡ patrol
    → IsUndisturbed budget lines poll patrol n → IsUndisturbed budget' lines poll' patrol' n
alone_too lines budget budget' poll poll' patrol patrol' n p q r it = rw (p, q, r) it

pub not_ended : (ended : Option Ending) (none : Bool) → is_some ended ≡ not none → none ≡ true → ended ≡ None
not_ended None none h is = refl
not_ended (Some ending) none h is = cc
