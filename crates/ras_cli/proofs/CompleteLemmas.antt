-- Where all that a plan reads is accepted, what was done is whole.
use Rattle.std.proofs.Common.{◌≡◌, ℕ, ◌≤◌, arith, Bool, true, false, cond, List, [], ◌∷◌, Some, None, refl, sym, ap, subst, inl, inr}
use Rattle.std.specs.Prelude.{Result, Ok}
use Rattle.std.specs.Prelude.{Err as Error}
use Rattle.ras_host.specs.Told.{Bytes, File, Outside, Read, bytes_of}
use Rattle.ras_machine.specs.declared.ending.Stop.{Stop}
use Rattle.ras_machine.specs.declared.ending.Stop.TheVariants as stops
use Rattle.ras_machine.specs.Machine.{ending_in, faulty_run}
use Rattle.ras_read.specs.Files.{file_text}
use Rattle.ras_read.specs.declared.refused.ReadRefused.{ReadRefused}
use Rattle.ras_report.specs.declared.verdicts.Verdict.{Verdict}
use Rattle.ras_report.specs.declared.verdicts.Verdict.TheVariants as verdicts
use Rattle.ras_words.specs.Commands.{Command}
use Rattle.ras_words.specs.Commands as commands
use Rattle.ras_cli.specs.declared.files.FileKind.TheVariants.{Commands, Printed}
use Rattle.ras_cli.specs.declared.status.Exit.TheVariants as exits
use Rattle.ras_cli.specs.Files.{limit_of}
use Rattle.ras_cli.specs.Status.{code_of, IsDone, IsRefusal}
use Rattle.ras_cli.specs.Refusals.{too_long}
use Rattle.ras_cli.specs.Plan.{Plan, Done, Refuse, Reading, Planned, line_written, calls_then, carried_out, is_longer, file_plan, inputs_plan, results_plan, results_of, exit_of, settings_of}
use Rattle.ras_cli.specs.ComparePlan.{ComparisonRequest, verdict_exit, compared, compared_plan, comparison_plan, compare_request}
use Rattle.ras_cli.specs.DebugPlan.{debugged, debugged_plan}
use Rattle.ras_cli.specs.DemoPlan.{demo_request}
use Rattle.ras_cli.specs.PrintPlan.{printed, print_bytes}
use Rattle.ras_cli.specs.Plans.{command_plan}
use Rattle.ras_cli.specs.Reaches.{value_in, reads_in}
use Rattle.ras_cli.specs.Follows.{Follows}
use Rattle.ras_cli.specs.Complete.{Completes}
use Rattle.ras_cli.proofs.AcceptedLemmas.{bound, refusal_low, refusal_high}

-- ---- plans whose files are accepted

-- the reads, and then what the plan comes to
carried_value : (p : Plan Planned) (files : List File) (results : Planned) → value_in p files ≡ Some results → calls_then (reads_in p files) results ≡ carried_out p files
carried_value (Done y) files results e = let same : y ≡ results = cc in sym same
carried_value (Refuse line) files results e = cc
carried_value (Reading file name whole) files results e = go (is_longer files file name) e (carried_value (whole (bytes_of files name)) files results)
  where
    go : (b : Bool) → cond b None (value_in (whole (bytes_of files name)) files) ≡ Some results
        → (value_in (whole (bytes_of files name)) files ≡ Some results → calls_then (reads_in (whole (bytes_of files name)) files) results ≡ carried_out (whole (bytes_of files name)) files)
        → calls_then (Read name (limit_of file) ∷ cond b [] (reads_in (whole (bytes_of files name)) files)) results
        ≡ calls_then (Read name (limit_of file) ∷ []) (cond b (line_written exits.Refused (too_long file)) (carried_out (whole (bytes_of files name)) files))
    go true e onward = cc
    go false e onward = ap (calls_then (Read name (limit_of file) ∷ [])) (onward e)

pub completes : (files : List File) (plan : Plan Planned) (a b : Outside) (code : ℕ) → ((results : Planned) → value_in plan files ≡ Some results → IsDone results.code)
    → Follows a b (carried_out plan files) code → Completes files plan a b code
completes files plan a b code done f = λ results is no3 no4.
    let g : Follows a b (calls_then (reads_in plan files) results) code = subst (λ (p : Planned). Follows a b p code) (sym (carried_value plan files results is)) f in
    record { done = subst IsDone (sym (g.status no3 no4)) (done results is); status = g.status no3 no4; written = g.whole no3 no4 }

-- ---- the statuses of commands that are carried out

stop_done : (stop : Stop) → IsDone (code_of (exit_of stop))
stop_done (stops.Shutdown reason) = inl refl
stop_done (stops.Reboot reboot_kind) = inl refl
stop_done stops.Budget = inl refl
stop_done stops.ConsoleFull = inl refl
stop_done (stops.Consumed w use_kind pc) = inr (inl refl)
stop_done (stops.Injected bank rec) = inr (inl refl)

pub verdict_done : (v : Verdict) → IsDone (code_of (verdict_exit v))
verdict_done verdicts.Same = inl refl
verdict_done verdicts.Uncorrected = inr (inl refl)
verdict_done verdicts.Silent = inr (inr refl)

same_done : (x y : Planned) → Some x ≡ Some y → IsDone x.code → IsDone y.code
same_done x y e done = let same : x ≡ y = cc in subst (λ (p : Planned). IsDone p.code) same done

pub comparison_done : (request : ComparisonRequest) (files : List File) (results : Planned) → value_in (comparison_plan request) files ≡ Some results → IsDone results.code
comparison_done request files results e =
    let k = bound request.inputs (compared_plan request.settings) files results e in
    same_done (compared request.settings k.x) results k.then (verdict_done _)

print_done : (text : Result Bytes ReadRefused) (files : List File) (results : Planned) → value_in (printed text) files ≡ Some results → IsDone results.code
print_done (Ok text) files results e = same_done _ results e (inl refl)
print_done (Error refusal) files results e = cc

pub command_done : (command : Command) (files : List File) (results : Planned) → value_in (command_plan command) files ≡ Some results → IsDone results.code
command_done (commands.Run run) files results e =
    let k = bound (inputs_plan run.machine) (results_plan run) files results e in
    same_done (results_of run (faulty_run k.x.image (settings_of run.machine) k.x.given k.x.lines)) results k.then
    (stop_done (ending_in (faulty_run k.x.image (settings_of run.machine) k.x.given k.x.lines)).stop)
command_done (commands.Compare run) files results e = comparison_done (compare_request run) files results e
command_done (commands.Debug debug) files results e =
    let k = bound (inputs_plan debug.machine) (debugged_plan debug) files results e in
    let h = bound (file_plan Commands debug.commands) (λ text. Done (debugged (settings_of debug.machine) k.x text)) files results k.then in
    same_done (debugged (settings_of debug.machine) k.x h.x) results h.then (inl refl)
command_done (commands.Read name) files results e =
    let k = bound (file_plan Printed name) print_bytes files results e in print_done (file_text k.x) files results k.then
command_done (commands.Demo number) files results e = comparison_done (demo_request number) files results e

-- a refusal is none of them
pub not_done : (code : ℕ) → IsRefusal code → IsDone code → ⊥
not_done code r done = by_done (refusal_low code r) (refusal_high code r) done
  where
    by_done : 2 ≤ code → code ≤ 4 → IsDone code → ⊥
    by_done low high (inl e) = omega (arith, e)
    by_done low high (inr (inl e)) = omega (arith, e)
    by_done low high (inr (inr e)) = omega (arith, e)
