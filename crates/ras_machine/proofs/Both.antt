-- The two-run theorem of one step, over any memory that stands for words within their flips.
use Rattle.std.proofs.Common.{ℕ, suc, ◌+◌, ◌%◌, ◌≡◌, ◌≤◌, ◌<◌, Bool, true, false, List, [], ◌++◌, Option, Some, None, length, refl, sym, ap, ◌∙◌, subst, arith, add-one}
use Rattle.std.specs.Prelude.{◌==◌, if◌then◌else◌}
use Rattle.std.specs.List.{AllByRecursion, push}
use Rattle.std.proofs.lemmas.Bool.Decides.{nat_tests}
use Rattle.poison_mem.specs.declared.cell.UseKind.{UseKind}
use Rattle.poison_mem.specs.declared.event.Event.{Event}
use Rattle.poison_mem.specs.declared.event.RecordView.{RecordView}
use Rattle.poison_mem.specs.declared.record_id.RecordId.{RecordId}
use Rattle.poison_mem.specs.Event.{consumption_of}
use Rattle.poison_mem.specs.RecordId.{bank_number, record_number}
use Rattle.poison_mem.specs.Bus.{BusMeaning, KeepsWords}
use Rattle.poison_mem.specs.Cells.{CellsKeepCounts}
use Rattle.poison_mem.specs.Flips.{FlipMeaning, IsFaithful, WordsKeepCounts}
use Rattle.mem_stack.specs.EventsLaws.{LogsMildly}
use Rattle.fault_script.specs.declared.lines.ScriptLine.{ScriptLine}
use Rattle.fault_script.specs.Fits.{FitsRam}
use Rattle.fault_script.specs.Steps.{at_step}
use Rattle.ras_bits.specs.Map.{word_address}
use Rattle.reri_bank.specs.Banks.{first_critical, stamped}
use Rattle.reri_inject.specs.CriticalLaws.{IsDueEvent}
use Rattle.reri_inject.specs.Due.{staged_in}
use Rattle.scrubber.specs.Patrol.{is_due}
use Rattle.ras_firmware.specs.Firmware.{firmware_run, firmware_stopped}
use Rattle.ras_firmware.specs.declared.firmware.Firmware.{Firmware}
use Rattle.sbi_calls.specs.declared.stop.GuestStop.{GuestStop}
use Rattle.rv64_hart.specs.Around.{around_at}
use Rattle.rv64_hart.specs.Harts.{HartsStepped, hart_at, harts_scene, harts_step_of, peers_of}
use Rattle.rv64_hart.specs.WithinLaws.{turn_within}
use Rattle.rv64_hart.specs.declared.ends.TurnEnd.{TurnEnd}
use Rattle.rv64_hart.specs.declared.ends.TurnEnd.TheVariants as ends
use Rattle.ras_machine.specs.declared.ending.Ending.{Ending}
use Rattle.ras_machine.specs.declared.ending.Stop.{Stop}
use Rattle.ras_machine.specs.declared.ending.Stop.TheVariants as stops
use Rattle.ras_machine.specs.declared.settings.Settings.{Settings}
use Rattle.ras_machine.specs.declared.state.MachineState.{MachineState}
use Rattle.ras_machine.specs.Acted.{goes, stops_as, ending_at}
use Rattle.ras_machine.specs.Actions.{logs, budget_looked_at, injections_due, lines_acted, patrolled_at, patrolled, stopped_at, fatal_looked_at, drained, consumption_in, hart_step, hart_acted, machine_step, at_stop}
use Rattle.ras_machine.specs.Due.{inject_lines}
use Rattle.ras_machine.specs.Ends.{guest_stop, guest_ending, turn_stop, turn_steps, fatal_of}
use Rattle.ras_machine.specs.Errors.{ErrorsAre, IsQuiet, waiting}
use Rattle.ras_machine.specs.Flat.{FlatState, FlatMachine, acting, turn_of, flat_turn, flat_step, flat_run, flat_after}
use Rattle.ras_machine.specs.Since.{flips_between, stores_in, since, since_before, ThirdTold}
use Rattle.ras_machine.specs.Ways.{GoesOn, Way, AsFlat, AtFlips, AtInjection, EndsBy}
use Rattle.ras_machine.specs.TwoRuns.{StandsFor, InStepWithin, InStep, CountsWithin, CountsToScript, Patrols}
use Rattle.ras_machine.proofs.Actions.{ByStop, ComesTo, and_then}
use Rattle.ras_machine.proofs.Counting.{flips_of, flips_split, since_adds, since_begins}
use Rattle.ras_machine.proofs.Counts.{lines_count, lines_third, step_counts}
use Rattle.ras_machine.proofs.Acts.{lines_harts, lines_place, lines_console, lines_patrol, lines_steps, lines_none, lines_stand, more_flips}
use Rattle.ras_machine.proofs.ErrorCalls.{drained_errors, logged_errors}
use Rattle.ras_machine.proofs.ErrorSteps.{all_filtered, begun_errors, acted_errors, patrolled_errors, none_fatal, some_fatal, next_quiet, consumed_region}
use Rattle.ras_machine.proofs.FlatRuns.{after-length, after_next, goes_on_more, run_ends, run_spent, flat_unpoisoned}
use Rattle.ras_machine.proofs.Made.{lines_go_on, after_drain, after_patrol, after_lines, after_begin, after_budget}
use Rattle.ras_machine.proofs.Mild.{step_logs_mildly}
use Rattle.ras_machine.proofs.Stepping.{run_more}
use Rattle.ras_machine.specs.Schedule.{Given}
use Rattle.ras_machine.proofs.Turns.{StepsAlike, both_step, consumes, scene_of, step_alike}

-- no program's stop names a fatal record
guest_fatal : (stop : GuestStop) → fatal_of (guest_stop stop) ≡ None
guest_fatal (GuestStop.Shutdown reason) = refl
guest_fatal (GuestStop.Reboot reboot_kind) = refl
guest_fatal GuestStop.ConsoleFull = refl

-- at such a stop the boot error region stays as it is
region_stays : (stop : Stop) (f : Firmware) → fatal_of stop ≡ None → f.memory.region ≡ None → (firmware_stopped (fatal_of stop) f).memory.region ≡ None
region_stays stop f none region = ap (λ fatal. (firmware_stopped fatal f).memory.region) none ∙ region

module _ {B : Type 0} (bus : BusMeaning B) (flips : FlipMeaning B) (stands : B → (ℕ → ℕ) → (ℕ → ℕ) → Type 0)
    (keeps : KeepsWords bus) (cells : CellsKeepCounts bus.words flips.cells) (word_counts : WordsKeepCounts bus flips.cells.cell) (faithful : IsFaithful bus flips stands)
    (mild : LogsMildly bus flips) (given : Given) (start : FlatState) (script : List ScriptLine) (settings : Settings) where
  abbrev flat : FlatMachine
  flat = record { state = start; budget = settings.budget; ended = None }

  -- the end of a run that stops here
  abbrev EndsHere : Stop → ℕ → MachineState B → Way → Type 0
  EndsHere stop n s way = EndsBy given flat script (record { stop = stop; steps = n }) (at_stop (Some stop) s) way

  -- between two steps
  pub record Stays (s : MachineState B) : Type 0 where
    pub low : s.steps ≤ settings.budget
    pub in_step : s.beyond ≡ None → InStep bus stands given start script s
    pub counts : CountsToScript flips script s
    pub third : ThirdTold script s.beyond
    pub patrol : Patrols (length start.ram) s.patrol
    pub errors : IsQuiet script s.steps s.firmware

  -- where the run stopped
  pub record Over (stop : Stop) (s : MachineState B) : Type 0 where
    pub ways : s.beyond ≡ None → (way : Way) × EndsHere stop s.steps s way
    pub third : ThirdTold script s.beyond

  -- in step n, before its lines act, and after that: what the error side keeps is as `Errors` says
  record Begins (Errors : Firmware → Type 0) (n : ℕ) (s : MachineState B) : Type 0 where
    steps : s.steps ≡ n
    early : n < settings.budget
    in_step : s.beyond ≡ None → InStepWithin bus stands given start n (since_before given start script n) s
    counts : CountsWithin flips (λ w. flips_between script w 0 n) s.shared.memory
    third : ThirdTold script s.beyond
    patrol : Patrols (length start.ram) s.patrol
    errors : Errors s.firmware

  record Acts (Errors : Firmware → Type 0) (n : ℕ) (s : MachineState B) : Type 0 where
    steps : s.steps ≡ n
    early : n < settings.budget
    in_step : s.beyond ≡ None → InStepWithin bus stands given start n (since given start script n) s
    counts : CountsWithin flips (λ w. flips_between script w 0 (n + 1)) s.shared.memory
    third : ThirdTold script s.beyond
    patrol : Patrols (length start.ram) s.patrol
    errors : Errors s.firmware

  -- critical errors that are shown are due ones, before the lines of step n and after them; and none is shown
  abbrev Due : ℕ → RecordId → Event → Type 0
  Due n id e = IsDueEvent (inject_lines script id n) n id e

  abbrev Counted : ℕ → Firmware → Type 0
  Counted n f = ErrorsAre (Due n) (λ id. staged_in n (inject_lines script id n)) n f

  abbrev Staged : ℕ → Firmware → Type 0
  Staged n f = ErrorsAre (Due n) (λ id. waiting script id (n + 1)) n f

  abbrev Clear : ℕ → Firmware → Type 0
  Clear n f = ErrorsAre (λ id e. ⊥) (λ id. waiting script id (n + 1)) n f

  -- nothing of it is the error side's
  still_within : (n : ℕ) (q : ℕ → ℕ) (s : MachineState B) (f : Firmware) → InStepWithin bus stands given start n q s → InStepWithin bus stands given start n q (record s { firmware = f })
  still_within n q s f it = record { harts = it.harts; place = it.place; console = it.console; goes_on = it.goes_on; memory = it.memory }

  -- 1.
  budget_keeps : (s : MachineState B) → Stays s → ComesTo (Begins (IsQuiet script s.steps) s.steps) Over (budget_looked_at settings s)
  budget_keeps s it = by_test (s.steps == settings.budget) refl
    where
      by_test : (spent : Bool) → (s.steps == settings.budget) ≡ spent
          → ComesTo (Begins (IsQuiet script s.steps) s.steps) Over (if spent then stops_as stops.Budget s else goes s)
      by_test true test = record {
        ways = λ none.
            let spent : settings.budget ≡ s.steps = grind (arith, nat_tests) in
            let here = it.in_step none in
            let same = ap (λ steps. flat_run given steps 0 start) spent ∙ run_spent given start s.steps here.goes_on in (
              AsFlat,
              record {
                is_way = tt;
                same_ending = ap (λ run. run.ending) (sym same);
                harts = here.harts ∙ ap (λ run. run.after.harts) (sym same);
                place = here.place ∙ ap (λ run. run.after.place) (sym same);
                console = here.console ∙ ap (λ run. run.after.console) (sym same);
                region = region_stays stops.Budget s.firmware refl it.errors.region;
              },
            );
        third = it.third;
      }
      by_test false test = record {
        steps = refl;
        early = (let low = it.low in grind (arith, nat_tests));
        in_step = it.in_step;
        counts = it.counts;
        third = it.third;
        patrol = it.patrol;
        errors = it.errors;
      }

  -- 2.
  begin_keeps : (n : ℕ) (s : MachineState B) → Begins (IsQuiet script n) n s → ComesTo (Begins (Counted n) n) Over (injections_due s)
  begin_keeps n s it = record {
    steps = it.steps;
    early = it.early;
    in_step = λ none. still_within n (since_before given start script n) s (injections_due s).after.firmware (it.in_step none);
    counts = it.counts;
    third = it.third;
    patrol = it.patrol;
    errors = subst (λ k. Counted n (injections_due (record s { steps = k })).after.firmware) (sym it.steps) (begun_errors script n s.firmware it.errors);
  }

  -- 3.
  lines_keep : (n : ℕ) (s : MachineState B) → AllByRecursion (FitsRam (length start.ram)) script → Begins (Counted n) n s
      → ByStop (Acts (Staged n) n) Over None (lines_acted flips (at_step n script) s).after
  lines_keep n s fit it = record {
    steps = lines_steps bus flips stands (at_step n script) s ∙ it.steps;
    early = it.early;
    in_step = λ none.
        let here = it.in_step (lines_none bus flips stands (at_step n script) s none) in
        record {
          harts = lines_harts bus flips stands (at_step n script) s ∙ here.harts;
          place = lines_place bus flips stands (at_step n script) s ∙ here.place;
          console = lines_console bus flips stands (at_step n script) s ∙ here.console;
          goes_on = here.goes_on;
          memory =
              more_flips bus flips stands faithful f.ram (λ w. since_before given start script n w + flips_of w (at_step n script)) (since given start script n) after.shared.memory
              (λ w. let e = since_adds given start script n w in omega arith)
              (lines_stand bus flips stands cells faithful (at_step n script) f.ram (since_before given start script n) s fits none here.memory);
        };
    counts = λ w.
        let split = flips_split w 0 n script (omega arith) in
        let acts : (flips.cells.cell after.shared.memory w).count ≤ flips_between script w 0 n + flips_of w (at_step n script) =
        lines_count bus flips cells (at_step n script) (λ w. flips_between script w 0 n) s it.counts w in
        omega arith;
    third =
        lines_third bus flips cells (at_step n script) script (λ w. flips_between script w 0 n) s it.counts
        (λ w. let split = flips_split w 0 n script (omega arith) in let steps = it.steps in subst (λ k. flips_between script w 0 n + flips_of w (at_step n script) ≤ flips_between script w 0 (k + 1)) (sym steps) (omega arith)) it.third;
    patrol = subst (Patrols (length start.ram)) (sym (lines_patrol bus flips stands (at_step n script) s)) it.patrol;
    errors = acted_errors bus flips mild (length start.ram) script (Due n) n s (all_filtered (FitsRam (length start.ram)) _ script fit) it.errors;
  }
    where
      f : FlatState
      f = flat_after given start n

      after : MachineState B
      after = (lines_acted flips (at_step n script) s).after

      fits : AllByRecursion (FitsRam (length f.ram)) (at_step n script)
      fits = all_filtered (FitsRam (length f.ram)) _ script (subst (λ words. AllByRecursion (FitsRam words) script) (sym (after-length given start n)) fit)

  -- 4.
  patrol_keeps : (n : ℕ) (s : MachineState B) → Acts (Staged n) n s → ComesTo (Acts (Staged n) n) Over (patrolled flips s)
  patrol_keeps n s it = by_due (is_due s.patrol s.steps) (patrolled_errors bus flips mild (Due n) (λ id. waiting script id (n + 1)) n s it.errors)
    where
      by_due : (due : Bool) → let w : Option ℕ = if due then Some s.patrol.next else None in
          Staged n (patrolled_at flips w s).after.firmware → ComesTo (Acts (Staged n) n) Over (patrolled_at flips w s)
      by_due false errors = it
      by_due true errors = record {
        steps = it.steps;
        early = it.early;
        in_step = λ none.
            let here = it.in_step none in
            let inside : s.patrol.next < bus.words s.shared.memory = let below = it.patrol.inside in let same = here.memory.words in let long = after-length given start n in omega arith in
            record {
              harts = here.harts;
              place = here.place;
              console = here.console;
              goes_on = here.goes_on;
              memory = record {
                words = cells.scrub_words s.shared.memory s.patrol.next ∙ here.memory.words;
                each = faithful.scrub_keeps s.shared.memory s.patrol.next _ (since given start script n) inside here.memory.each;
              };
            };
        counts = λ w. let scrubbed = cells.scrub s.shared.memory s.patrol.next w in let before = it.counts w in omega arith;
        third = it.third;
        patrol = record {
          all = it.patrol.all;
          inside = moves_on s.patrol.next s.patrol.words (length start.ram) it.patrol.all it.patrol.inside;
        };
        errors = errors;
      }
        where
          moves_on : (next words most : ℕ) → words ≡ most → next < most → (next + 1) % words < most
          moves_on next words most same inside = grind arith

  -- 5.
  fatal_keeps : (n : ℕ) (s : MachineState B) → Acts (Staged n) n s → ComesTo (Acts (Clear n) n) Over (fatal_looked_at s)
  fatal_keeps n s it = by_first (first_critical s.firmware.banks) refl
    where
      by_first : (first : Option (ℕ × ℕ)) → first_critical s.firmware.banks ≡ first → ComesTo (Acts (Clear n) n) Over (stopped_at first s)
      by_first None none = record {
        steps = it.steps;
        early = it.early;
        in_step = it.in_step;
        counts = it.counts;
        third = it.third;
        patrol = it.patrol;
        errors = none_fatal (Due n) (λ id. waiting script id (n + 1)) n s.firmware none it.errors;
      }
      by_first (Some first) found =
          let fatal = some_fatal script (λ id. waiting script id (n + 1)) n s.firmware first.0 first.1 found it.errors in
          record {
            ways = λ none.
                let here = it.in_step none in (
                  AtInjection n fatal.id fatal.address,
                  record {
                    is_way = record { early = record { early = it.early; goes_on = here.goes_on }; due = fatal.due };
                    same_ending = named first.0 first.1 s.steps fatal.id fatal.bank_is fatal.rec_is it.steps;
                    harts = here.harts;
                    place = here.place;
                    console = here.console;
                    region = fatal.shows;
                  },
                );
            third = it.third;
          }
        where
          named : (bank rec steps : ℕ) (id : RecordId) → bank ≡ bank_number id → rec ≡ record_number id → steps ≡ n
              → ◌≡◌ {A = Ending} (record { stop = stops.Injected bank rec; steps = steps }) (record { stop = stops.Injected (bank_number id) (record_number id); steps = n })
          named bank rec steps id bank_is rec_is steps_is = rw (bank_is, rec_is, steps_is) refl

  -- 6.
  drain_keeps : (n : ℕ) (s : MachineState B) → Acts (Clear n) n s → ComesTo (Acts (Clear n) n) Over (drained s)
  drain_keeps n s it = record {
    steps = it.steps;
    early = it.early;
    in_step = λ none. still_within n (since given start script n) s (drained s).after.firmware (it.in_step none);
    counts = it.counts;
    third = it.third;
    patrol = it.patrol;
    errors = drained_errors (λ id e. ⊥) (λ id. waiting script id (n + 1)) n s.steps s.poll s.firmware it.errors;
  }

  -- 7. The step n of the hart whose turn it is, of both.
  abbrev Alike : ℕ → HartsStepped B (List Event) → Type 0
  Alike n t =
      let f = flat_after given start n in
      StepsAlike bus flips push stands n f (since given start script n) (flat_turn given n f) (stores_in given n f) t (flat_step given n f)

  -- the hart whose turn it is, and the one of the flat machine
  abbrev whose : MachineState B → ℕ
  whose s = acting given s.steps s.shared.harts

  abbrev flat_whose : ℕ → ℕ
  flat_whose n = acting given n (flat_after given start n).harts

  -- the ending that it brings
  abbrev ending_of : HartsStepped B (List Event) → ℕ → ℕ → Option Ending
  ending_of t n pc = ending_at (turn_stop t.answer pc) (turn_steps t.answer n)

  -- the state after it
  abbrev left_by : HartsStepped B (List Event) → MachineState B → TurnEnd → MachineState B
  left_by t s answer =
      record s {
        shared = record { harts = t.after.harts; memory = t.after.bus };
        place = t.after.place;
        firmware = firmware_run s.firmware (logs (t.after.log ++ consumption_in (whose s) answer (hart_at s.shared.harts (whose s)).pc));
        console = t.after.console;
        steps = turn_steps answer s.steps;
      }

  -- where it brings no ending
  still_in_step : (n pc : ℕ) (t : HartsStepped B (List Event)) (s : MachineState B) (answer : TurnEnd) → GoesOn given start n
      → ending_of t n pc ≡ None → Alike n t → InStepWithin bus stands given start (n + 1) (since_before given start script (n + 1)) (left_by t s answer)
  still_in_step n pc t s answer goes is (both_step brings harts place console stand) = record {
    harts = harts ∙ ap (λ (s : FlatState). s.harts) (sym (after_next given start n));
    place = place ∙ ap (λ (s : FlatState). s.place) (sym (after_next given start n));
    console = console ∙ ap (λ (s : FlatState). s.console) (sym (after_next given start n));
    goes_on = goes_on_more given start n goes (sym (brings pc) ∙ is);
    memory =
        subst (λ (s : FlatState). StandsFor bus stands s.ram (since_before given start script (n + 1)) t.after.bus) (sym (after_next given start n))
        (more_flips bus flips stands faithful _ _ (since_before given start script (n + 1)) t.after.bus
        (λ w. let anew = since_begins given start script n w in let next : since_before given start script (suc n) w ≡ since_before given start script (n + 1) w = rw (add-one n) refl in omega arith) stand);
  }
  still_in_step n pc t s answer goes is (consumes w use_kind poisoned harts place console asks twice) =
      let some : ending_of t n pc ≡ Some (record { stop = stops.Consumed w use_kind pc; steps = n }) = ap (λ a. ending_at (turn_stop a pc) (turn_steps a n)) poisoned in
      cc

  -- where the program stops
  ends_as_flat : (n pc : ℕ) (t : HartsStepped B (List Event)) (s : MachineState B) (stop : GuestStop) → n < settings.budget → GoesOn given start n
      → t.answer ≡ ends.Stop stop → Alike n t → (firmware_stopped (fatal_of (guest_stop stop)) (left_by t s (ends.Stop stop)).firmware).memory.region ≡ None
      → EndsBy given flat script (guest_ending stop n) (at_stop (Some (guest_stop stop)) (left_by t s (ends.Stop stop))) AsFlat
  ends_as_flat n pc t s stop early goes is (both_step brings harts place console stand) region =
      let ending : ending_of t n pc ≡ Some (guest_ending stop n) = ap (λ a. ending_at (turn_stop a pc) (turn_steps a n)) is in
      let run = run_ends given start settings.budget n (guest_ending stop n) goes early (sym (brings pc) ∙ ending) in
      record {
        is_way = tt;
        same_ending = ap (λ run. run.ending) (sym run);
        harts = harts ∙ ap (λ run. run.after.harts) (sym run);
        place = place ∙ ap (λ run. run.after.place) (sym run);
        console = console ∙ ap (λ run. run.after.console) (sym run);
        region = region;
      }
  ends_as_flat n pc t s stop early goes is (consumes w use_kind poisoned harts place console asks twice) region =
      let other : ends.Stop stop ≡ ends.Poisoned w use_kind = sym is ∙ poisoned in
      cc

  -- where it meets poison
  ends_at_flips : (n i pc : ℕ) (t : HartsStepped B (List Event)) (s : MachineState B) (w : ℕ) (use_kind : UseKind) → n < settings.budget → GoesOn given start n
      → i ≡ flat_whose n → pc ≡ (hart_at (flat_after given start n).harts (flat_whose n)).pc → t.answer ≡ ends.Poisoned w use_kind → Alike n t
      → (v : RecordView) × ((firmware_stopped (Some (2, 0)) (left_by t s (ends.Poisoned w use_kind)).firmware).memory.region ≡ Some v)
      × (v.kept ≡ stamped n (consumption_of use_kind i (word_address w) pc))
      → EndsHere (stops.Consumed w use_kind pc) n (left_by t s (ends.Poisoned w use_kind)) (AtFlips n w use_kind)
  ends_at_flips n i pc t s w use_kind early goes own at is (both_step brings harts place console stand) region =
      let ending : ending_of t n pc ≡ Some (record { stop = stops.Consumed w use_kind pc; steps = n }) = ap (λ a. ending_at (turn_stop a pc) (turn_steps a n)) is in
      absurd (flat_unpoisoned given n (flat_after given start n) w use_kind pc n (sym (brings pc) ∙ ending))
  ends_at_flips n i pc t s w use_kind early goes own at is (consumes u for poisoned harts place console asks twice) region =
      let same : ends.Poisoned u for ≡ ends.Poisoned w use_kind = sym poisoned ∙ is in
      let same_word : u ≡ w = cc same in
      let same_use : for ≡ use_kind = cc same in
      record {
        is_way = record {
          early = record { early = early; goes_on = goes };
          asks = rw (same_word, same_use) at asks;
          flipped_twice = rw same_word at twice;
        };
        same_ending = ap (λ pc. record { stop = stops.Consumed w use_kind pc; steps = n }) at;
        harts = harts;
        place = place;
        console = console;
        region = (
          region.0,
          region.1,
          region.2 ∙ ap (λ i. stamped n (consumption_of use_kind i (word_address w) pc)) own
              ∙ ap (λ pc. stamped n (consumption_of use_kind (flat_whose n) (word_address w) pc)) at,
        );
      }

  hart_keeps : (n : ℕ) (s : MachineState B) → Acts (Clear n) n s → ComesTo Stays Over (hart_acted bus given s)
  hart_keeps n s it = by_answer t.answer refl
    where
      t : HartsStepped B (List Event)
      t = hart_step bus given s

      i : ℕ
      i = whose s

      pc : ℕ
      pc = (hart_at s.shared.harts i).pc

      alike : s.beyond ≡ None → Alike n t
      alike none =
          let here = it.in_step none in
          let f = flat_after given start n in
          let is : t ≡ harts_step_of bus push (flat_whose n) (flat_turn given n f) (scene_of bus flips push stands f s.shared.memory []) =
          rw (here.harts, here.place, here.console, it.steps, here.memory.words) refl in
          subst (λ t. Alike n t) (sym is)
          (step_alike bus flips push stands keeps faithful (flat_whose n) n f (since given start script n) (hart_at f.harts (flat_whose n)) (flat_turn given n f) 600 s.shared.memory [] here.memory
          (turn_within (around_at (length f.ram) (peers_of f.harts) n given.input f.place) (hart_at f.harts (flat_whose n))))

      fewer : CountsWithin flips (λ w. flips_between script w 0 (n + 1)) t.after.bus
      fewer w =
          let before = it.counts w in
          let step = step_counts bus flips push word_counts i (turn_of given s.steps (bus.words s.shared.memory) s.shared.harts s.place)
          (harts_scene s.shared.harts s.place s.console s.shared.memory []) w in
          omega arith

      own : s.beyond ≡ None → i ≡ flat_whose n
      own none = ap (λ k. acting given k s.shared.harts) it.steps ∙ ap (λ harts. acting given n harts) (it.in_step none).harts

      at : s.beyond ≡ None → pc ≡ (hart_at (flat_after given start n).harts (flat_whose n)).pc
      at none = ap (λ k. (hart_at s.shared.harts k).pc) (own none) ∙ ap (λ harts. (hart_at harts (flat_whose n)).pc) (it.in_step none).harts

      -- the events of its reads and stores are told
      told : Firmware
      told = firmware_run s.firmware (logs t.after.log)

      clear : Clear n told
      clear = logged_errors (λ id e. ⊥) (λ id. waiting script id (n + 1)) n t.after.log s.firmware
          (step_logs_mildly bus flips mild i (turn_of given s.steps (bus.words s.shared.memory) s.shared.harts s.place)
          (harts_scene s.shared.harts s.place s.console s.shared.memory []) tt) it.errors

      -- and then the consumption, where there is one
      told_then : (events : List Event) → firmware_run s.firmware (logs (t.after.log ++ events)) ≡ firmware_run told (logs events)
      told_then events = run_more (t.after.log) events s.firmware

      no_more : firmware_run s.firmware (logs (t.after.log ++ [])) ≡ told
      no_more = told_then []

      by_answer : (answer : TurnEnd) → t.answer ≡ answer → ByStop Stays Over (turn_stop answer pc) (left_by t s answer)
      by_answer (ends.Went effect) is = record {
        low = let early = it.early in let steps = it.steps in omega arith;
        in_step = λ none.
            subst (λ k. InStepWithin bus stands given start (k + 1) (since_before given start script (k + 1)) (left_by t s (ends.Went effect))) (sym it.steps)
            (still_in_step n pc t s (ends.Went effect) (it.in_step none).goes_on (ap (λ a. ending_at (turn_stop a pc) (turn_steps a n)) is) (alike none));
        counts = λ w. subst (λ k. (flips.cells.cell t.after.bus w).count ≤ flips_between script w 0 (k + 1)) (sym it.steps) (fewer w);
        third = it.third;
        patrol = it.patrol;
        errors = subst (λ k. IsQuiet script (k + 1) (left_by t s (ends.Went effect)).firmware) (sym it.steps)
            (subst (IsQuiet script (n + 1)) (sym no_more) (next_quiet script n told clear));
      }
      by_answer (ends.Stop stop) is = record {
        ways = λ none. (
          AsFlat,
          subst (λ k. EndsBy given flat script (guest_ending stop k) (at_stop (Some (guest_stop stop)) (left_by t s (ends.Stop stop))) AsFlat) (sym it.steps)
              (ends_as_flat n pc t s stop it.early (it.in_step none).goes_on is (alike none)
              (region_stays (guest_stop stop) (left_by t s (ends.Stop stop)).firmware (guest_fatal stop) (ap (λ (f : Firmware). f.memory.region) no_more ∙ clear.region))),
        );
        third = it.third;
      }
      by_answer (ends.Poisoned w use_kind) is = record {
        ways = λ none. (
          AtFlips n w use_kind,
          subst (λ k. EndsHere (stops.Consumed w use_kind pc) k (left_by t s (ends.Poisoned w use_kind)) (AtFlips n w use_kind)) (sym it.steps)
              (ends_at_flips n i pc t s w use_kind it.early (it.in_step none).goes_on (own none) (at none) is (alike none)
              (subst (λ (f : Firmware). (v : RecordView) × ((firmware_stopped (Some (2, 0)) f).memory.region ≡ Some v) × (v.kept ≡ stamped n (consumption_of use_kind i (word_address w) pc)))
              (sym (told_then (consumption_in i (ends.Poisoned w use_kind) pc)))
              (consumed_region (λ id. waiting script id (n + 1)) n told use_kind i (word_address w) pc clear))),
        );
        third = it.third;
      }

  -- One step: it stays so, or the run ends so.
  pub step_keeps : AllByRecursion (FitsRam (length start.ram)) script → (s : MachineState B) → Stays s
      → ComesTo Stays Over (machine_step bus flips settings given script s)
  unfolding machine_step
  step_keeps fit s it =
      and_then (Begins (IsQuiet script s.steps) s.steps) Stays Over (budget_looked_at settings s) (after_budget bus flips given script) (budget_keeps s it)
      (λ a quiet. and_then (Begins (Counted s.steps) s.steps) Stays Over (injections_due a) (after_begin bus flips given script) (begin_keeps s.steps a quiet)
      (λ b counted. and_then (Acts (Staged s.steps) s.steps) Stays Over (lines_acted flips (at_step b.steps script) b) (after_lines bus flips given) (lines_act b counted)
      (λ c acts. and_then (Acts (Staged s.steps) s.steps) Stays Over (patrolled flips c) (after_patrol bus flips given) (patrol_keeps s.steps c acts)
      (λ d acts. and_then (Acts (Clear s.steps) s.steps) Stays Over (fatal_looked_at d) (after_drain bus flips given) (fatal_keeps s.steps d acts)
      (λ e clear. and_then (Acts (Clear s.steps) s.steps) Stays Over (drained e) (hart_acted bus given) (drain_keeps s.steps e clear)
      (λ f clear. hart_keeps s.steps f clear))))))
    where
      lines_act : (b : MachineState B) → Begins (Counted s.steps) s.steps b → ComesTo (Acts (Staged s.steps) s.steps) Over (lines_acted flips (at_step b.steps script) b)
      lines_act b counted =
          subst (λ k. ComesTo (Acts (Staged s.steps) s.steps) Over (lines_acted flips (at_step k script) b)) (sym counted.steps)
          (subst (λ stop. ByStop (Acts (Staged s.steps) s.steps) Over stop (lines_acted flips (at_step s.steps script) b).after) (sym (lines_go_on flips (at_step s.steps script) b))
          (lines_keep s.steps b fit counted))
