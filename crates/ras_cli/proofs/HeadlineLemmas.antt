-- The headline, out of what was done and the two-run theorem.
use Rattle.std.proofs.Common.{◌≡◌, ◌≢◌, ℕ, ◌≤◌, arith, List, ◌++◌, Option, Some, None, refl, sym, ◌∙◌, ap, subst, inl, inr}
use Rattle.std.specs.Prelude.{IfSome, ◌⊎◌}
use Rattle.elf_load.specs.Program.{Program}
use Rattle.fault_script.specs.Steps.{InRisingSteps}
use Rattle.fault_script.specs.declared.lines.ScriptLine.{ScriptLine}
use Rattle.ras_firmware.specs.declared.firmware.Firmware.{Firmware}
use Rattle.ras_host.specs.Told.{Bytes, File, Outside, HostAction, Performs}
use Rattle.rv64_hart.specs.State.{ArchitecturalState}
use Rattle.ras_machine.specs.declared.ending.Stop.{Stop}
use Rattle.ras_machine.specs.declared.ending.Stop.TheVariants as stops
use Rattle.ras_machine.specs.declared.ending.Ending.{Ending}
use Rattle.ras_machine.specs.declared.settings.Settings.{Settings}
use Rattle.ras_machine.specs.Flat.{FlatState, FlatMachine, flat_of, flat_run}
use Rattle.ras_machine.specs.Schedule.{Given}
use Rattle.ras_machine.specs.Machine.{StackMachine, faulty_run, ending_in}
use Rattle.ras_machine.specs.Ways.{Way, AsFlat, AtFlips, AtInjection, way_ending, EndsBy, KeepsToFlat}
use Rattle.ras_machine.proofs.FlatRuns.{flat_stops}
use Rattle.ras_machine.proofs.Keeping.{clear, at_most_more}
use Rattle.ras_words.specs.Run.{MachineRequest, RunRequest}
use Rattle.ras_cli.specs.declared.status.Exit.TheVariants.{Ended, HostFailed, NoMemory, StoppedAtError}
use Rattle.ras_cli.specs.Status.{code_of}
use Rattle.ras_cli.specs.Plan.{Planned, calls_then, carried_out, run_plan, settings_of, exit_of, outputs, results_of}
use Rattle.ras_cli.specs.Accepted.{IsAccepted, AreReadInputs, reads_of}
use Rattle.ras_cli.specs.Follows.{Follows}
use Rattle.ras_cli.specs.Headline.{way_exit, WritesBy, Headline}
use Rattle.ras_cli.proofs.AcceptedLemmas.{planned_accepted, accepted_once}

-- ---- statuses

-- a run of the flat machine never stops at an error
flat_exit : (given : Given) (left n : ℕ) (s : FlatState) → exit_of (flat_run given left n s).ending.stop ≡ Ended
flat_exit given left n s = flat_stops (λ stop. exit_of stop ≡ Ended) (λ reason. refl) (λ reboot_kind. refl) refl refl given left n s

pub either_exit : (stop : Stop) → (code_of (exit_of stop) ≡ code_of Ended) ⊎ (code_of (exit_of stop) ≡ code_of StoppedAtError)
either_exit (stops.Shutdown reason) = inl refl
either_exit (stops.Reboot reboot_kind) = inl refl
either_exit stops.Budget = inl refl
either_exit stops.ConsoleFull = inl refl
either_exit (stops.Consumed w use_kind pc) = inr refl
either_exit (stops.Injected bank rec) = inr refl

-- ---- outputs

-- every output of a run is whole: its console, its files and its report were written, and its status says how it stopped
record IsWholeRun (run : RunRequest) (faulty : StackMachine) (before after : Outside) (code : ℕ) : Type 0 where
  either : (code ≡ code_of Ended) ⊎ (code ≡ code_of StoppedAtError)
  status : code ≡ code_of (exit_of (ending_in faulty).stop)
  written : Performs before after (reads_of run.machine ++ (results_of run faulty).actions)

-- what was done is the plan of the accepted files
is_whole : (files : List File) (run : RunRequest) (image : Program) (lines : List ScriptLine) (given : Given) (a b : Outside) (code : ℕ) → IsAccepted files run.machine image lines given
    → Follows a b (carried_out (run_plan run) files) code → code ≢ code_of HostFailed → code ≢ code_of NoMemory
    → IsWholeRun run (faulty_run image (settings_of run.machine) given lines) a b code
is_whole files run image lines given a b code k f no3 no4 =
    let faulty : StackMachine = faulty_run image (settings_of run.machine) given lines in
    let plan : Follows a b (calls_then (reads_of run.machine) (results_of run faulty)) code = subst (λ (p : Planned). Follows a b p code) (sym (planned_accepted files run image lines given k)) f in
    let status : code ≡ code_of (exit_of (ending_in faulty).stop) = plan.status no3 no4 in
    record {
      either = by_status status (either_exit (ending_in faulty).stop);
      status = status;
      written = plan.whole no3 no4;
    }
  where
    by_status : {s : ℕ} → code ≡ s → (s ≡ code_of Ended) ⊎ (s ≡ code_of StoppedAtError) → (code ≡ code_of Ended) ⊎ (code ≡ code_of StoppedAtError)
    by_status e (inl h) = inl (e ∙ h)
    by_status e (inr h) = inr (e ∙ h)

-- ---- the ways

-- how the program ends where a run ends in a way
exit_by : (given : Given) (flat : FlatMachine) (way : Way) → exit_of (way_ending given flat way).stop ≡ way_exit way
exit_by given flat AsFlat = flat_exit given flat.budget 0 flat.state
exit_by given flat (AtFlips n w use_kind) = refl
exit_by given flat (AtInjection n id address) = refl

-- what was written, by what the run shows
outputs_by : (run : RunRequest) (firmware : Firmware) (ending ending' : Ending) (beyond : Option (ℕ × ℕ)) (console console' : Bytes) (harts harts' : List ArchitecturalState)
    → ending ≡ ending' → beyond ≡ None → console ≡ console' → harts ≡ harts' → outputs run ending firmware beyond console harts ≡ outputs run ending' firmware None console' harts'
outputs_by run firmware ending ending' beyond console console' harts harts' e n c h = rw (e, n, c, h) refl

writes_by : (run : RunRequest) (image : Program) (given : Given) (lines : List ScriptLine) (faulty : StackMachine) (a b : Outside) (code : ℕ) → IsWholeRun run faulty a b code → faulty.state.beyond ≡ None
    → (way : Way) → EndsBy given (flat_of image (settings_of run.machine)) lines (ending_in faulty) faulty.state way → WritesBy run image given lines faulty a b code way
writes_by run image given lines faulty a b code w none way it = record {
  ends = it;
  status = w.status ∙ ap (λ (e : Ending). code_of (exit_of e.stop)) it.same_ending ∙ ap code_of (exit_by given (flat_of image (settings_of run.machine)) way);
  written =
      subst (λ (l : List HostAction). Performs a b (reads_of run.machine ++ l))
      (outputs_by run faulty.state.firmware _ _ _ _ _ _ _ it.same_ending none it.console it.harts) w.written;
}

keeps_machine : (run : RunRequest) (image : Program) (lines : List ScriptLine) (given : Given) (a b : Outside) (code : ℕ) (faulty : StackMachine) → IsWholeRun run faulty a b code
    → KeepsToFlat faulty.state.beyond lines (EndsBy given (flat_of image (settings_of run.machine)) lines (ending_in faulty) faulty.state)
    → KeepsToFlat faulty.state.beyond lines (WritesBy run image given lines faulty a b code)
keeps_machine run image lines given a b code faulty w it = record {
  ways = λ none. let way = it.ways none in (way.0, writes none way.0 way.1);
  third = it.third;
  no_three = λ few. let way = it.no_three few in (way.0, writes (clear lines faulty.state.beyond it.third few) way.0 way.1);
  no_two = λ few mild. writes (clear lines faulty.state.beyond it.third (at_most_more lines few)) AsFlat (it.no_two few mild);
}
  where
    writes : faulty.state.beyond ≡ None → (way : Way) → EndsBy given (flat_of image (settings_of run.machine)) lines (ending_in faulty) faulty.state way → WritesBy run image given lines faulty a b code way
    writes none way ends = writes_by run image given lines faulty a b code w none way ends

-- how a run keeps to the flat machine
abbrev pub Keeps : Program → Settings → Given → List ScriptLine → Type 0
Keeps image settings given lines =
    let faulty = faulty_run image settings given lines in
    KeepsToFlat faulty.state.beyond lines (EndsBy given (flat_of image settings) lines (ending_in faulty) faulty.state)

-- the files are accepted in one way
pub same_accepted : (files : List File) (run : MachineRequest) (image other : Program) (lines more : List ScriptLine) (given others : Given) → IsAccepted files run image lines given → IsAccepted files run other more others
    → Keeps image (settings_of run) given lines → Keeps other (settings_of run) others more
same_accepted files run image other lines more given others k h keeps =
    let once = accepted_once files run image other lines more given others k h in
    let settings : Settings = settings_of run in
    subst (λ (x : Program). Keeps x settings others more) once.same_image
    (subst (λ (x : List ScriptLine). Keeps image settings others x) once.same_lines
    (subst (λ (x : Given). Keeps image settings x lines) once.same_given keeps))

-- ---- the run of what was read

pub run_headline : (files : Option (List File)) (run : RunRequest) (settings : Settings) (image : Program) (script : List ScriptLine) (given : Given) (a b : Outside) (code : ℕ) → settings ≡ settings_of run.machine
    → IfSome files (λ fs. AreReadInputs fs run.machine image script given) → IfSome files (λ fs. Follows a b (carried_out (run_plan run) fs) code)
    → ((lines : List ScriptLine) → InRisingSteps lines script → code ≢ code_of NoMemory → Keeps image settings given lines) → IfSome files (λ fs. Headline fs run a b code)
run_headline None run settings image script given a b code e k f keeps = tt
run_headline (Some fs) run settings image script given a b code e k f keeps = λ other more others h no3 no4.
    keeps_machine run other more others a b code (faulty_run other (settings_of run.machine) others more) (is_whole fs run other more others a b code h f no3 no4)
    (same_accepted fs run.machine image other k.lines more given others k.is h
    (subst (λ (s : Settings). Keeps image s given k.lines) e (keeps k.lines k.rising no4)))

-- a run that was refused had no accepted files
pub refused_headline : (files : Option (List File)) (run : RunRequest) (a b : Outside) (code : ℕ) → 2 ≤ code → code ≤ 4
    → IfSome files (λ fs. Follows a b (carried_out (run_plan run) fs) code) → IfSome files (λ fs. Headline fs run a b code)
refused_headline None run a b code low high f = tt
refused_headline (Some fs) run a b code low high f = λ image lines given k no3 no4.
    absurd (impossible (is_whole fs run image lines given a b code k f no3 no4).either no3 no4)
  where
    impossible : (code ≡ code_of Ended) ⊎ (code ≡ code_of StoppedAtError) → code ≢ code_of HostFailed → code ≢ code_of NoMemory → ⊥
    impossible (inl e) no3 no4 = omega arith
    impossible (inr e) no3 no4 = omega arith
