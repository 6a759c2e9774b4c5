-- The verdict on a run that keeps to the flat machine, out of the way in which it ends.
use Rattle.std.proofs.Common.{◌≡◌, ℕ, false, List, Option, Some, None, inl, inr, refl, sym, ◌∙◌, ap}
use Rattle.std.specs.Prelude.{◌⊎◌}
use Rattle.fault_script.specs.declared.lines.ScriptLine.{ScriptLine}
use Rattle.ras_machine.specs.declared.ending.Ending.{Ending}
use Rattle.ras_machine.specs.declared.state.MachineState.{MachineState}
use Rattle.ras_machine.specs.Flat.{FlatState, FlatMachine, flat_run, flat_whole}
use Rattle.ras_machine.specs.Schedule.{Given}
use Rattle.ras_machine.specs.Ways.{Way, AsFlat, AtFlips, AtInjection, EndsBy, KeepsToFlat}
use Rattle.ras_machine.proofs.FlatRuns.{flat_stops}
use Rattle.ras_report.specs.declared.verdicts.Verdict.{Verdict}
use Rattle.ras_report.specs.declared.verdicts.Verdict.TheVariants.{Same, Uncorrected, Silent}
use Rattle.ras_report.specs.Verdicts.{ShownRun, faulty_shown, flat_shown, is_at_error, verdict_of}
use Rattle.ras_report.specs.VerdictLaws.{one_verdict}
use Rattle.ras_report.specs.VerdictWays.{way_verdict, JudgesByWay}

-- a run of the flat machine never stops at an error
flat_error : (given : Given) (left n : ℕ) (s : FlatState) → is_at_error (flat_run given left n s).ending.stop ≡ false
flat_error given left n s = flat_stops (λ stop. is_at_error stop ≡ false) (λ reason. refl) (λ reboot_kind. refl) refl refl given left n s

-- what the whole run of a flat machine shows
abbrev pub whole_shown : Given → FlatMachine → ShownRun
whole_shown given flat = flat_shown (flat_whole given flat).after (flat_whole given flat).ending

-- the verdict where a run ends in a way
pub verdict_by_way : {B : Type 0} (given : Given) (flat : FlatMachine) (lines : List ScriptLine) (ending : Ending) (s : MachineState B) (way : Way)
    → EndsBy given flat lines ending s way → verdict_of (faulty_shown s ending) (whole_shown given flat) ≡ way_verdict way
verdict_by_way given flat lines ending s AsFlat ends = sym (one_verdict (faulty_shown s ending) (whole_shown given flat) Same (
  ap (λ (e : Ending). is_at_error e.stop) ends.same_ending ∙ flat_error given flat.budget 0 flat.state,
  λ i. record { console = ends.console i; ending = ends.same_ending i; harts = ends.harts i; place = ends.place i },
))
verdict_by_way given flat lines ending s (AtFlips n w use_kind) ends =
    sym (one_verdict (faulty_shown s ending) (whole_shown given flat) Uncorrected (ap (λ (e : Ending). is_at_error e.stop) ends.same_ending))
verdict_by_way given flat lines ending s (AtInjection n id address) ends =
    sym (one_verdict (faulty_shown s ending) (whole_shown given flat) Uncorrected (ap (λ (e : Ending). is_at_error e.stop) ends.same_ending))

-- no way is silent
same_or_uncorrected : (v : Verdict) (way : Way) → v ≡ way_verdict way → (v ≡ Same) ⊎ (v ≡ Uncorrected)
same_or_uncorrected v AsFlat is = inl is
same_or_uncorrected v (AtFlips n w use_kind) is = inr is
same_or_uncorrected v (AtInjection n id address) is = inr is

never_silent : (v : Verdict) → (v ≡ Same) ⊎ (v ≡ Uncorrected) → v ≡ Silent → ⊥
never_silent v (inl same) silent = cc
never_silent v (inr uncorrected) silent = cc

-- a verdict that isn't silent short of a third flip is so only past one
only_past : (v : Verdict) (beyond : Option (ℕ × ℕ)) → (beyond ≡ None → (v ≡ Same) ⊎ (v ≡ Uncorrected)) → v ≡ Silent
    → (third : ℕ × ℕ) × (beyond ≡ Some third)
only_past v None short silent = absurd (never_silent v (short refl) silent)
only_past v (Some third) short silent = (third, refl)

-- a verdict that is the way's, whatever the way
by_ways : (beyond : Option (ℕ × ℕ)) (lines : List ScriptLine) (Ends : Way → Type 0) (v : Verdict)
    → ((way : Way) → Ends way → v ≡ way_verdict way) → KeepsToFlat beyond lines Ends → JudgesByWay beyond lines v
by_ways beyond lines Ends v is it = record { keeps = keeps; short = short; silent = only_past v beyond short }
  where
    keeps : KeepsToFlat beyond lines (λ way. v ≡ way_verdict way)
    keeps = record {
      ways = λ none. let way = it.ways none in (way.0, is way.0 way.1);
      third = it.third;
      no_three = λ few. let way = it.no_three few in (way.0, is way.0 way.1);
      no_two = λ few mild. is AsFlat (it.no_two few mild);
    }

    short : beyond ≡ None → (v ≡ Same) ⊎ (v ≡ Uncorrected)
    short none = let way = keeps.ways none in same_or_uncorrected v way.0 way.1

-- the verdict on a run that keeps to the flat machine, beside that machine's whole run
pub judges_by_way : {B : Type 0} (given : Given) (flat : FlatMachine) (lines : List ScriptLine) (ending : Ending) (s : MachineState B) (v : Verdict)
    → v ≡ verdict_of (faulty_shown s ending) (whole_shown given flat)
    → KeepsToFlat s.beyond lines (EndsBy given flat lines ending s) → JudgesByWay s.beyond lines v
judges_by_way given flat lines ending s v is it =
    by_ways s.beyond lines (EndsBy given flat lines ending s) v (λ way ends. is ∙ verdict_by_way given flat lines ending s way ends) it
