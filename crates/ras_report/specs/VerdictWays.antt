-- The verdict on a run that keeps to the flat machine.
use Rattle.std.specs.Prelude.{◌≡◌, ◌⊎◌, ℕ, List, Option, Some, None}
use Rattle.fault_script.specs.declared.lines.ScriptLine.{ScriptLine}
use Rattle.ras_machine.specs.Ways.{Way, AsFlat, AtFlips, AtInjection, KeepsToFlat}
use Rattle.ras_report.specs.declared.verdicts.Verdict.{Verdict}
use Rattle.ras_report.specs.declared.verdicts.Verdict.TheVariants.{Same, Uncorrected, Silent}

-- the verdict on a run that ends in a way
abbrev pub way_verdict : Way → Verdict
way_verdict AsFlat = Same
way_verdict (AtFlips n w use_kind) = Uncorrected
way_verdict (AtInjection n id address) = Uncorrected

-- How a verdict keeps to the flat machine. Where the run ends in one of the ways it is that of the way; so short of a third flip the run is the same
-- or uncorrected, and it is silent only where there was a third flip.
pub record JudgesByWay (beyond : Option (ℕ × ℕ)) (lines : List ScriptLine) (verdict : Verdict) : Type 0 where
  pub keeps : KeepsToFlat beyond lines (λ way. verdict ≡ way_verdict way)
  pub short : beyond ≡ None → (verdict ≡ Same) ⊎ (verdict ≡ Uncorrected)
  pub silent : verdict ≡ Silent → (third : ℕ × ℕ) × (beyond ≡ Some third)
