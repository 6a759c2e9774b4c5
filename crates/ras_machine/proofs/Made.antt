-- The step by whether the budget is spent, and by whether a record keeps a critical error.
use Rattle.std.proofs.Common.{ℕ, ◌≡◌, ◌≢◌, ◌∙◌, List, [], ◌∷◌, Bool, true, false, Option, Some, None, refl, sym, ap, arith}
use Rattle.std.specs.Prelude.{◌==◌, if◌then◌else◌}
use Rattle.std.proofs.lemmas.Bool.Decides.{nat_tests}
use Rattle.poison_mem.specs.Bus.{BusMeaning}
use Rattle.poison_mem.specs.Flips.{FlipMeaning}
use Rattle.fault_script.specs.declared.lines.ScriptLine.{ScriptLine}
use Rattle.fault_script.specs.Steps.{at_step}
use Rattle.reri_bank.specs.Banks.{first_critical}
use Rattle.scrubber.specs.Patrol.{due_at}
use Rattle.ras_machine.specs.declared.ending.Stop.{Stop}
use Rattle.ras_machine.specs.declared.ending.Stop.TheVariants as stops
use Rattle.ras_machine.specs.declared.settings.Settings.{Settings}
use Rattle.ras_machine.specs.declared.state.MachineState.{MachineState}
use Rattle.ras_machine.specs.Acted.{Acted, goes, stops_as, ◌>>=◌}
use Rattle.ras_machine.specs.Actions.{injections_due, act_done, lines_acted, patrolled_at, patrolled, prepared, stopped_at, fatal_looked_at, drained, hart_acted, machine_step}
use Rattle.ras_machine.specs.Schedule.{Given}
use Rattle.ras_machine.proofs.Actions.{left, left_on}

module _ {B : Type 0} (flips : FlipMeaning B) where
  -- no line stops the run, nor does the patrol
  pub lines_go_on : (lines : List ScriptLine) (s : MachineState B) → (lines_acted flips lines s).stop ≡ None
  lines_go_on [] s = refl
  lines_go_on (line ∷ lines) s = lines_go_on lines (act_done flips line.act s).after

  pub patrol_goes_on : (due : Option ℕ) (s : MachineState B) → (patrolled_at flips due s).stop ≡ None
  patrol_goes_on None s = refl
  patrol_goes_on (Some w) s = refl

module _ {B : Type 0} (bus : BusMeaning B) (flips : FlipMeaning B) (given : Given) where
  -- what comes behind each action
  abbrev pub after_drain : MachineState B → Acted (MachineState B)
  after_drain e = drained e >>= hart_acted bus given

  abbrev pub after_patrol : MachineState B → Acted (MachineState B)
  after_patrol d = fatal_looked_at d >>= after_drain

  abbrev pub after_lines : MachineState B → Acted (MachineState B)
  after_lines c = patrolled flips c >>= after_patrol

  abbrev pub after_begin : List ScriptLine → MachineState B → Acted (MachineState B)
  after_begin script b = lines_acted flips (at_step b.steps script) b >>= after_lines

  abbrev pub after_budget : List ScriptLine → MachineState B → Acted (MachineState B)
  after_budget script a = injections_due a >>= after_begin script

  module _ (settings : Settings) (script : List ScriptLine) (s : MachineState B) where
    -- a step, by whether the budget is spent
    abbrev step_by : Bool → MachineState B × Option Stop
    step_by spent = left ((if spent then stops_as stops.Budget s else goes s) >>= after_budget script)

    pub step_spent : s.steps ≡ settings.budget → left (machine_step bus flips settings given script s) ≡ (s, Some stops.Budget)
    unfolding machine_step
    step_spent spent = let test : (s.steps == settings.budget) ≡ true = grind (arith, nat_tests) in ap step_by test

    step_prepared : s.steps ≢ settings.budget → left (machine_step bus flips settings given script s) ≡ left (after_patrol (prepared flips script s))
    unfolding machine_step
    step_prepared more =
        let test : (s.steps == settings.budget) ≡ false = grind (arith, nat_tests) in
        let begun : MachineState B = (injections_due s).after in
        let acted : Acted (MachineState B) = lines_acted flips (at_step begun.steps script) begun in
        ap step_by test
        ∙ left_on acted after_lines (lines_go_on flips (at_step begun.steps script) begun)
        ∙ left_on (patrolled flips acted.after) after_patrol (patrol_goes_on flips (due_at acted.after.patrol acted.after.steps) acted.after)

    -- a record keeps a critical error, in the state before the hart's turn
    pub step_fatal : s.steps ≢ settings.budget → (p : MachineState B) → p ≡ prepared flips script s → (bank rec : ℕ) → first_critical p.firmware.banks ≡ Some (bank, rec)
        → left (machine_step bus flips settings given script s) ≡ (p, Some (stops.Injected bank rec))
    step_fatal more p is bank rec found =
        step_prepared more
        ∙ ap (λ q. left (after_patrol q)) (sym is)
        ∙ ap (λ found. left (stopped_at found p >>= after_drain)) found

    -- none does, and the drain leaves this state
    pub step_made : s.steps ≢ settings.budget → (p q : MachineState B) → p ≡ prepared flips script s → first_critical p.firmware.banks ≡ None → q ≡ (drained p).after
        → left (machine_step bus flips settings given script s) ≡ left (hart_acted bus given q)
    step_made more p q is none drained_is =
        step_prepared more
        ∙ ap (λ q. left (after_patrol q)) (sym is)
        ∙ ap (λ found. left (stopped_at found p >>= after_drain)) none
        ∙ ap (λ q. left (hart_acted bus given q)) (sym drained_is)
