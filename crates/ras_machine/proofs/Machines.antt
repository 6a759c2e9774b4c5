-- The two-run theorem of the machine over the stack.
use Rattle.std.proofs.Common.{ℕ, ◌+◌, ◌-◌, ◌≡◌, ◌≤◌, ◌∙◌, Bool, true, false, List, Option, Some, None, length, sym, ap, subst, refl, arith, slice_index}
use Rattle.std.specs.Prelude.{◌==◌, if◌then◌else◌}
use Rattle.std.specs.List.{AllByRecursion}
use Rattle.mem_stack.specs.Stack.{stack_meaning, stack_flips, loaded_stack}
use Rattle.mem_stack.specs.EventsLaws.{stack_logs_mildly}
use Rattle.mem_stack.specs.StackStands.{StackStands}
use Rattle.mem_stack.specs.StackLaws.{stack_keeps_words, stack_cells_keep_counts, stack_words_keep_counts, stack_faithful, loaded_words, loaded_counts}
use Rattle.elf_load.specs.Program.{Program}
use Rattle.fault_script.specs.declared.lines.ScriptLine.{ScriptLine}
use Rattle.fault_script.specs.Fits.{FitsRam}
use Rattle.fault_script.specs.Steps.{at_step}
use Rattle.ras_machine.specs.declared.ending.Ending.{Ending}
use Rattle.ras_machine.specs.declared.ending.Stop.{Stop}
use Rattle.ras_machine.specs.declared.ending.Stop.TheVariants as stops
use Rattle.ras_machine.specs.declared.settings.Settings.{Settings}
use Rattle.ras_machine.specs.Runs.{unless_ended, iterated}
use Rattle.ras_machine.specs.RunsLaws.{iterated_same, iterated_keeps, iterated_stays, iterated_next}
use Rattle.ras_machine.specs.Acted.{Acted, goes, stops_as, ending_at, ◌>>=◌}
use Rattle.ras_machine.specs.Actions.{injections_due, lines_acted, machine_step, at_stop}
use Rattle.ras_machine.specs.Flat.{flat_start, flat_made, flat_after}
use Rattle.ras_machine.specs.Machine.{StackState, StackMachine, machine_made, stack_step, machine_after, machine_stepped, machine_run}
use Rattle.ras_machine.specs.Settings.{ram_words}
use Rattle.ras_machine.specs.Since.{since_before}
use Rattle.ras_machine.specs.Ways.{EndsBy, KeepsToFlat}
use Rattle.ras_machine.specs.TwoRuns.{StaysInStep}
use Rattle.ras_machine.proofs.Actions.{ByStop, ComesTo}
use Rattle.ras_machine.proofs.Both.{Stays, Over, step_keeps}
use Rattle.ras_machine.proofs.ErrorSteps.{quiet_first}
use Rattle.ras_machine.proofs.Keeping.{keeps_to_flat, only_as_flat}
use Rattle.ras_machine.specs.Schedule.{Given}
use Rattle.ras_machine.proofs.Made.{after_lines, after_budget}

-- a machine that was made of an image is in step with the flat machine of it
pub made_stays : (image : Program) (given : Given) (lines : List ScriptLine) (settings : Settings) → AllByRecursion (FitsRam (length image.words)) lines
    → length image.words ≡ ram_words settings → 1 ≤ settings.ram_mib
    → ((q : ℕ → ℕ) → StackStands (loaded_stack image.words) (slice_index image.words) q) → StaysInStep image given lines (machine_made image settings)
unfolding flat_after
made_stays image given lines settings fits words some stands = record {
  fits = fits;
  low = λ is. omega arith;
  in_step = λ is none. record {
    harts = refl;
    place = refl;
    console = refl;
    goes_on = λ m below. absurd (omega arith);
    memory = record { words = loaded_words image.words; each = stands (since_before given (flat_start image settings.harts) lines 0) };
  };
  counts = λ is w. let none = loaded_counts image.words w in omega arith;
  third = λ n w is. cc is;
  patrol = λ is. record { all = sym words; inside = omega arith };
  errors = λ is. quiet_first lines;
  over = λ ending is. cc is;
}

module _ (image : Program) (given : Given) (lines : List ScriptLine) where
  -- the machine after actions that keep it so
  after_stays : (m : StackMachine) → AllByRecursion (FitsRam (length image.words)) lines → (a : Acted StackState)
      → ComesTo (Stays stack_meaning stack_flips StackStands stack_keeps_words stack_cells_keep_counts stack_words_keep_counts stack_faithful stack_logs_mildly given (flat_start image m.settings.harts) lines m.settings)
      (Over stack_meaning stack_flips StackStands stack_keeps_words stack_cells_keep_counts stack_words_keep_counts stack_faithful stack_logs_mildly given (flat_start image m.settings.harts) lines m.settings) a
      → StaysInStep image given lines (machine_after m a)
  after_stays m fits a it = by_stop a.stop a.after it
    where
      by_stop : (stop : Option Stop) (s : StackState)
          → ByStop (Stays stack_meaning stack_flips StackStands stack_keeps_words stack_cells_keep_counts stack_words_keep_counts stack_faithful stack_logs_mildly given (flat_start image m.settings.harts) lines m.settings)
          (Over stack_meaning stack_flips StackStands stack_keeps_words stack_cells_keep_counts stack_words_keep_counts stack_faithful stack_logs_mildly given (flat_start image m.settings.harts) lines m.settings) stop s
          → StaysInStep image given lines (record m { state = at_stop stop s; ended = ending_at stop s.steps })
      by_stop None s it = record {
        fits = fits;
        low = λ is. it.low;
        in_step = λ is none. it.in_step none;
        counts = λ is. it.counts;
        third = it.third;
        patrol = λ is. it.patrol;
        errors = λ is. it.errors;
        over = λ ending is. cc is;
      }
      by_stop (Some stop) s it = record {
        fits = fits;
        low = λ is. cc is;
        in_step = λ is none. cc is;
        counts = λ is. cc is;
        third = it.third;
        patrol = λ is. cc is;
        errors = λ is. cc is;
        over = λ ending is.
            let same : record { stop = stop; steps = s.steps } ≡ ending = cc is in
            subst (λ (ending : Ending). KeepsToFlat s.beyond lines (EndsBy given (flat_made image m.settings.budget m.settings.harts) lines ending (at_stop (Some stop) s))) same
            (keeps_to_flat s.beyond lines (EndsBy given (flat_made image m.settings.budget m.settings.harts) lines (record { stop = stop; steps = s.steps }) (at_stop (Some stop) s)) it.ways it.third
            (only_as_flat given (flat_made image m.settings.budget m.settings.harts) lines (record { stop = stop; steps = s.steps }) (at_stop (Some stop) s)));
      }

  -- a step keeps it so
  pub stepped_stays : (m : StackMachine) → StaysInStep image given lines m → StaysInStep image given lines (machine_stepped given lines m)
  stepped_stays m it = by_ended m.ended refl
    where
      by_ended : (ended : Option Ending) → m.ended ≡ ended → StaysInStep image given lines (unless_ended ended m (machine_after m (stack_step m.settings given lines m.state)))
      by_ended (Some ending) is = it
      by_ended None is =
          after_stays m it.fits (stack_step m.settings given lines m.state)
          (step_keeps stack_meaning stack_flips StackStands stack_keeps_words stack_cells_keep_counts stack_words_keep_counts stack_faithful stack_logs_mildly given (flat_start image m.settings.harts) lines m.settings
          it.fits m.state (record {
            low = it.low is;
            in_step = it.in_step is;
            counts = it.counts is;
            third = it.third;
            patrol = it.patrol is;
            errors = it.errors is;
          }))

  -- and so does a run
  pub run_stays : (m : StackMachine) → StaysInStep image given lines m → StaysInStep image given lines (machine_run given lines m)
  run_stays m it = iterated_keeps (StaysInStep image given lines) (machine_stepped given lines) stepped_stays (m.settings.budget + 1 - m.state.steps) m it

module _ (given : Given) (lines : List ScriptLine) where
  stepped_settings : (m : StackMachine) → (machine_stepped given lines m).settings ≡ m.settings
  stepped_settings m = by_ended m.ended
    where
      by_ended : (ended : Option Ending) → (unless_ended ended m (machine_after m (stack_step m.settings given lines m.state))).settings ≡ m.settings
      by_ended (Some ending) = refl
      by_ended None = refl

  pub run_settings : (m : StackMachine) → (machine_run given lines m).settings ≡ m.settings
  run_settings m =
      iterated_keeps (λ (after : StackMachine). after.settings ≡ m.settings) (machine_stepped given lines) (λ after same. stepped_settings after ∙ same) (m.settings.budget + 1 - m.state.steps) m refl

  -- a machine that has ended stays as it is
  stays_ended : (m : StackMachine) (ending : Ending) → m.ended ≡ Some ending → machine_stepped given lines m ≡ m
  stays_ended m ending is = rw is refl

  pub run_ended : (m : StackMachine) (ending : Ending) → m.ended ≡ Some ending → machine_run given lines m ≡ m
  run_ended m ending is = iterated_stays (m.settings.budget + 1 - m.state.steps) (machine_stepped given lines) m (stays_ended m ending is)

  -- a run is its first step, and then the run of what is left
  pub run_next : (m after : StackMachine) → after ≡ machine_stepped given lines m → m.state.steps ≤ m.settings.budget
      → (after.ended ≡ None → after.state.steps ≡ m.state.steps + 1) → machine_run given lines m ≡ machine_run given lines after
  run_next m after is low goes =
      iterated_next (m.settings.budget + 1 - m.state.steps) left (machine_stepped given lines) m (omega arith)
      ∙ ap (iterated left (machine_stepped given lines)) (sym is)
      ∙ by_ended after.ended refl
    where
      left : ℕ
      left = m.settings.budget - m.state.steps

      by_ended : (ended : Option Ending) → after.ended ≡ ended → iterated left (machine_stepped given lines) after ≡ machine_run given lines after
      by_ended (Some ending) same = iterated_stays left (machine_stepped given lines) after (stays_ended after ending same) ∙ sym (run_ended after ending same)
      by_ended None same =
          let steps = goes same in
          let settings : after.settings ≡ m.settings = ap (λ (m : StackMachine). m.settings) is ∙ stepped_settings m in
          let budget = ap (λ (s : Settings). s.budget) settings in
          let rest : m.settings.budget - m.state.steps ≡ after.settings.budget + 1 - after.state.steps = omega arith in
          ap (λ n. iterated n (machine_stepped given lines) after) rest

-- a step, by whether the budget is spent
abbrev step_by : Given → List ScriptLine → StackState → Bool → Acted StackState
step_by given script s spent = (if spent then stops_as stops.Budget s else goes s) >>= after_budget stack_meaning stack_flips given script

same_step_by : (given : Given) (lines read : List ScriptLine) → ((step : ℕ) → at_step step lines ≡ at_step step read) → (s : StackState) (spent : Bool)
    → step_by given lines s spent ≡ step_by given read s spent
same_step_by given lines read h s true = refl
same_step_by given lines read h s false = ap (λ now. injections_due s >>= (λ b. lines_acted stack_flips now b >>= after_lines stack_meaning stack_flips given)) (h s.steps)

-- a step sees only the lines of its step
pub same_step : (given : Given) (lines read : List ScriptLine) → ((step : ℕ) → at_step step lines ≡ at_step step read) → (settings : Settings) (s : StackState)
    → stack_step settings given lines s ≡ stack_step settings given read s
unfolding machine_step
same_step given lines read h settings s = same_step_by given lines read h s (s.steps == settings.budget)

-- and so a run sees of its lines only those of each step
pub same_run : (given : Given) (lines read : List ScriptLine) → ((step : ℕ) → at_step step lines ≡ at_step step read) → (m : StackMachine)
    → machine_run given lines m ≡ machine_run given read m
same_run given lines read h m =
    iterated_same (m.settings.budget + 1 - m.state.steps) (machine_stepped given lines) (machine_stepped given read)
    (λ (m : StackMachine). ap (λ (a : Acted StackState). unless_ended m.ended m (machine_after m a)) (same_step given lines read h m.settings m.state)) m
