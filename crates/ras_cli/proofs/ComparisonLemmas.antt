-- How a comparison ends, out of what was done and the two-run theorem.
use Rattle.std.proofs.Common.{◌≡◌, ◌≢◌, ℕ, arith, List, [], ◌∷◌, ◌++◌, append-nil, take, Option, Some, None, refl, sym, ◌∙◌, ap, subst}
use Rattle.std.specs.Prelude.{IfSome}
use Rattle.elf_load.specs.Program.{Program}
use Rattle.fault_script.specs.Steps.{InRisingSteps}
use Rattle.fault_script.specs.declared.lines.ScriptLine.{ScriptLine}
use Rattle.ras_firmware.specs.Records.{KeptState}
use Rattle.ras_host.specs.Told.{Bytes, File, Outside, HostAction, Out, Err, Performs}
use Rattle.ras_host.specs.ToldLaws.{performs_then}
use Rattle.rv64_hart.specs.State.{ArchitecturalState}
use Rattle.ras_machine.specs.declared.ending.Ending.{Ending}
use Rattle.ras_machine.specs.declared.settings.Settings.{Settings}
use Rattle.ras_machine.specs.Flat.{FlatMachine, FlatRun, flat_of, flat_whole, flat_ran}
use Rattle.ras_machine.specs.Schedule.{Given}
use Rattle.ras_machine.specs.Machine.{StackMachine, faulty_run, ending_in}
use Rattle.ras_machine.specs.Ways.{Way, AsFlat, AtFlips, AtInjection, EndsBy, KeepsToFlat}
use Rattle.ras_machine.proofs.Keeping.{clear, at_most_more}
use Rattle.ras_report.specs.Reports.{report_of, flat_report_of}
use Rattle.ras_report.specs.Verdicts.{faulty_shown, flat_shown, verdict_of, verdict_line}
use Rattle.ras_report.specs.VerdictWays.{way_verdict}
use Rattle.ras_report.specs.declared.verdicts.Verdict.{Verdict}
use Rattle.ras_report.proofs.VerdictsByWays.{verdict_by_way}
use Rattle.ras_cli.specs.declared.status.Exit.TheVariants.{HostFailed, NoMemory, Silent}
use Rattle.ras_cli.specs.Status.{code_of}
use Rattle.ras_cli.specs.Plan.{Plan, Planned, RunInputs, carried_out, ◌>>=◌}
use Rattle.ras_cli.specs.ComparePlan.{ComparisonRequest, verdict_exit, comparison_pieces, comparison_planned, comparison_results, compared, compared_plan, comparison_plan}
use Rattle.ras_cli.specs.Reaches.{value_in, reads_in, ComesTo, ReachesInputs, Stops}
use Rattle.ras_cli.specs.Follows.{Cuts, Follows}
use Rattle.ras_cli.specs.Complete.{IsWhole}
use Rattle.ras_cli.specs.Headline.{way_exit}
use Rattle.ras_cli.specs.Comparison.{ComparesBy, Compares, ComparisonEnds}
use Rattle.ras_cli.proofs.CompleteLemmas.{completes, comparison_done, not_done}
use Rattle.ras_cli.proofs.FollowsLemmas.{cut_then}
use Rattle.ras_cli.proofs.HeadlineLemmas.{Keeps}
use Rattle.ras_cli.proofs.PlanLemmas.{bind_value, bind_reads}
use Rattle.ras_cli.proofs.WritesLemmas.{err_cut}

-- ---- what was run

some_ending : (x y : Ending) → Some x ≡ Some y → x ≡ y
some_ending x y e = cc

-- the run of a flat machine that was made
pub flat_is : (image : Program) (settings : Settings) (given : Given) (before after : FlatMachine) (ending : Ending) → before ≡ flat_of image settings → after ≡ flat_ran given before → after.ended ≡ Some ending
    → (let run : FlatRun = record { after = after.state; ending = ending } in run) ≡ flat_whole given (flat_of image settings)
flat_is image settings given before after ending made ran ended =
    let whole : FlatRun = flat_whole given (flat_of image settings) in
    let is = ran ∙ ap (flat_ran given) made in
    let state : after.state ≡ whole.after = ap (λ (m : FlatMachine). m.state) is in
    let stop : Some ending ≡ Some whole.ending = sym ended ∙ ap (λ (m : FlatMachine). m.ended) is in
    let same : ending ≡ whole.ending = some_ending ending whole.ending stop in
    λ i. record { after = state i; ending = same i }

-- what both runs come to
pub both_are : (harts : ℕ) (m faulty : StackMachine) (run flat : FlatRun) (console report flat_report : Bytes) (verdict : Verdict) → m ≡ faulty → run ≡ flat → console ≡ m.state.console
    → report ≡ report_of (ending_in m) m.state.firmware.records m.state.beyond m.state.shared.harts harts → flat_report ≡ flat_report_of run.ending run.after.harts
    → verdict ≡ verdict_of (faulty_shown m.state (ending_in m)) (flat_shown run.after run.ending)
    → comparison_planned console report flat_report verdict ≡ comparison_results harts faulty flat
both_are harts m faulty run flat console report flat_report verdict same same_flat shown told flat_told judged =
    (rw (shown, told, flat_told, judged) refl) ∙ ap (λ (m : StackMachine). comparison_results harts m run) same ∙ ap (comparison_results harts faulty) same_flat

-- ---- the ways

exit_by_way : (way : Way) → verdict_exit (way_verdict way) ≡ way_exit way
exit_by_way AsFlat = refl
exit_by_way (AtFlips n w use_kind) = refl
exit_by_way (AtInjection n id address) = refl

-- what was written, by what the run shows
pieces_by : (harts : ℕ) (records : KeptState) (flat_report : Bytes) (ending ending' : Ending) (beyond : Option (ℕ × ℕ)) (console console' : Bytes) (shown shown' : List ArchitecturalState) (verdict verdict' : Verdict)
    → ending ≡ ending' → beyond ≡ None → console ≡ console' → shown ≡ shown' → verdict ≡ verdict'
    → comparison_pieces console (report_of ending records beyond shown harts) flat_report (verdict_line verdict) ≡ comparison_pieces console' (report_of ending' records None shown' harts) flat_report (verdict_line verdict')
pieces_by harts records flat_report ending ending' beyond console console' shown shown' verdict verdict' e n c h v = rw (e, n, c, h, v) refl

-- no way is silent
never_silent : (way : Way) → code_of (way_exit way) ≡ code_of Silent → ⊥
never_silent AsFlat e = omega (arith, e)
never_silent (AtFlips n w use_kind) e = omega (arith, e)
never_silent (AtInjection n id address) e = omega (arith, e)

silent_past : (code : ℕ) (beyond : Option (ℕ × ℕ)) → (beyond ≡ None → (way : Way) × (code ≡ code_of (way_exit way))) → code ≡ code_of Silent → (third : ℕ × ℕ) × (beyond ≡ Some third)
silent_past code None ways e = let way = ways refl in absurd (never_silent way.0 (sym way.1 ∙ e))
silent_past code (Some third) ways e = (third, refl)

-- ---- the whole, for what both machines run, after these reads

module _ (settings : Settings) (inputs : RunInputs) (reads : List HostAction) (a b : Outside) (code : ℕ) where
  abbrev faulty : StackMachine
  faulty = faulty_run inputs.image settings inputs.given inputs.lines

  abbrev flat : FlatMachine
  flat = flat_of inputs.image settings

  compares_by : IsWhole reads (compared settings inputs) a b code → faulty.state.beyond ≡ None
      → (way : Way) → EndsBy inputs.given flat inputs.lines (ending_in faulty) faulty.state way → ComparesBy settings inputs faulty reads a b code way
  compares_by w none way it =
      let judged = verdict_by_way inputs.given flat inputs.lines (ending_in faulty) faulty.state way it in
      let whole : FlatRun = flat_whole inputs.given flat in
      record {
        ends = it;
        status = w.status ∙ ap (λ (v : Verdict). code_of (verdict_exit v)) judged ∙ ap code_of (exit_by_way way);
        written =
            subst (λ (l : List HostAction). Performs a b (reads ++ l))
            (pieces_by settings.harts faulty.state.firmware.records (flat_report_of whole.ending whole.after.harts) _ _ _ _ _ _ _ _ _ it.same_ending none it.console it.harts judged) w.written;
      }

  keeps_comparison : IsWhole reads (compared settings inputs) a b code → Keeps inputs.image settings inputs.given inputs.lines
      → KeepsToFlat faulty.state.beyond inputs.lines (ComparesBy settings inputs faulty reads a b code)
  keeps_comparison w it = record {
    ways = λ none. let way = it.ways none in (way.0, compares_by w none way.0 way.1);
    third = it.third;
    no_three = λ few. let way = it.no_three few in (way.0, compares_by w (clear inputs.lines faulty.state.beyond it.third few) way.0 way.1);
    no_two = λ few mild. compares_by w (clear inputs.lines faulty.state.beyond it.third (at_most_more inputs.lines few)) AsFlat (it.no_two few mild);
  }

  pub compares : IsWhole reads (compared settings inputs) a b code → Keeps inputs.image settings inputs.given inputs.lines → Compares settings inputs faulty reads a b code
  compares w it =
      let keeps = keeps_comparison w it in
      record { keeps = keeps; silent = silent_past code faulty.state.beyond (λ none. let way = keeps.ways none in (way.0, way.1.status)) }

-- ---- the comparison of what a request asks for

-- all that it reads was accepted: it is whole
whole_comparison : (files : List File) (request : ComparisonRequest) (inputs : RunInputs) (a b : Outside) (code : ℕ) → value_in request.inputs files ≡ Some inputs
    → Follows a b (carried_out (comparison_plan request) files) code → code ≢ code_of HostFailed → code ≢ code_of NoMemory
    → IsWhole (reads_in request.inputs files) (compared request.settings inputs) a b code
whole_comparison files request inputs a b code is f no3 no4 =
    let results : Planned = compared request.settings inputs in
    let value : value_in (comparison_plan request) files ≡ Some results = bind_value request.inputs (compared_plan request.settings) files inputs is in
    let reads : reads_in (comparison_plan request) files ≡ reads_in request.inputs files =
    bind_reads request.inputs (compared_plan request.settings) files inputs is ∙ append-nil (reads_in request.inputs files) in
    subst (λ (l : List HostAction). IsWhole l results a b code) reads
    (completes files (comparison_plan request) a b code (comparison_done request files) f results value no3 no4)

some_inputs : (x y : RunInputs) → Some x ≡ Some y → x ≡ y
some_inputs x y e = cc

-- what was read
abbrev pub inputs_read : Program → List ScriptLine → Given → RunInputs
inputs_read image lines given = record { image = image; lines = lines; given = given }

-- the comparison of it
pub read_compared : (request : ComparisonRequest) (settings : Settings) (image : Program) (script : List ScriptLine) (given : Given) (a m b : Outside) (code : ℕ) → settings ≡ request.settings
    → ReachesInputs request.inputs a m image script given → IfSome a.files (λ files. Follows a b (carried_out (comparison_plan request) files) code)
    → ((lines : List ScriptLine) → InRisingSteps lines script → code ≢ code_of NoMemory → Keeps image settings given lines) → IfSome a.files (λ files. ComparisonEnds files request a b code)
read_compared request settings image script given a m b code e r f keeps = told a.files r.reached.comes f
  where
    told : (o : Option (List File)) → IfSome o (λ files. ComesTo request.inputs files r.reached.reads (inputs_read image r.lines given)) → IfSome o (λ files. Follows a b (carried_out (comparison_plan request) files) code)
        → IfSome o (λ files. ComparisonEnds files request a b code)
    told None k f = tt
    told (Some files) k f = λ inputs is no3 no4.
        compares request.settings inputs (reads_in request.inputs files) a b code (whole_comparison files request inputs a b code is f no3 no4)
        (subst (λ (i : RunInputs). Keeps i.image request.settings i.given i.lines) (some_inputs (inputs_read image r.lines given) inputs (sym k.value ∙ is))
        (subst (λ (s : Settings). Keeps image s given r.lines) e (keeps r.lines r.rising no4)))

-- one that was refused has no accepted files
pub refused_compared : (request : ComparisonRequest) (a b : Outside) (faults now code : ℕ) → Stops request.inputs a b faults now code → IfSome a.files (λ files. ComparisonEnds files request a b code)
refused_compared request a b faults now code s = told a.files s.follows
  where
    told : (o : Option (List File)) → IfSome o (λ files. (next : RunInputs → Plan Planned) → Follows a b (carried_out (request.inputs >>= next) files) code)
        → IfSome o (λ files. ComparisonEnds files request a b code)
    told None f = tt
    told (Some files) f = λ inputs is no3 no4.
        absurd (not_done code s.refusal (whole_comparison files request inputs a b code is (f (compared_plan request.settings)) no3 no4).done)

-- ---- what is written

-- all of it was written
pub all_compared : (console report flat_report line : Bytes) (a b c d e : Outside) → Performs a b (Out console ∷ []) → Performs b c (Err report ∷ []) → Performs c d (Err flat_report ∷ []) → Performs d e (Err line ∷ [])
    → Performs a e (comparison_pieces console report flat_report line)
all_compared console report flat_report line a b c d e h1 h2 h3 h4 =
    performs_then a b e (Out console) _ h1 (performs_then b c e (Err report) _ h2 (performs_then c d e (Err flat_report) _ h3 h4))

-- after the first, after the second, or after the third piece a write failed
pub first_cut : (console report flat_report line : Bytes) (a b c : Outside) → Performs a b (Out console ∷ []) → ((n : ℕ) × Performs b c (Err (take n report) ∷ [])) → Cuts a c (comparison_pieces console report flat_report line)
first_cut console report flat_report line a b c h1 h = cut_then a b c (Out console) (Err report ∷ Err flat_report ∷ Err line ∷ []) h1 (err_cut report (Err flat_report ∷ Err line ∷ []) b c h)

pub second_cut : (console report flat_report line : Bytes) (a b c d : Outside) → Performs a b (Out console ∷ []) → Performs b c (Err report ∷ []) → ((n : ℕ) × Performs c d (Err (take n flat_report) ∷ []))
    → Cuts a d (comparison_pieces console report flat_report line)
second_cut console report flat_report line a b c d h1 h2 h =
    cut_then a b d (Out console) (Err report ∷ Err flat_report ∷ Err line ∷ []) h1
    (cut_then b c d (Err report) (Err flat_report ∷ Err line ∷ []) h2 (err_cut flat_report (Err line ∷ []) c d h))

pub third_cut : (console report flat_report line : Bytes) (a b c d e : Outside) → Performs a b (Out console ∷ []) → Performs b c (Err report ∷ []) → Performs c d (Err flat_report ∷ []) → ((n : ℕ) × Performs d e (Err (take n line) ∷ []))
    → Cuts a e (comparison_pieces console report flat_report line)
third_cut console report flat_report line a b c d e h1 h2 h3 h =
    cut_then a b e (Out console) (Err report ∷ Err flat_report ∷ Err line ∷ []) h1
    (cut_then b c e (Err report) (Err flat_report ∷ Err line ∷ []) h2 (cut_then c d e (Err flat_report) (Err line ∷ []) h3 (err_cut line [] d e h)))
