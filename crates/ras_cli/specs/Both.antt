-- A comparison, as the program holds it.
use Rattle.std.specs.Prelude.{ℕ, Option, Some, None}
use Rattle.ras_words.specs.Read.{machine_in, IsInLimits}
use Rattle.ras_cli.specs.declared.compare.Comparison.{Comparison}
use Rattle.ras_cli.specs.declared.compare.Compared.{Compared}
use Rattle.ras_cli.specs.declared.compare.Compared.TheVariants.{Files, Demo}
use Rattle.ras_cli.specs.Plan.{Planned}
use Rattle.ras_cli.specs.ComparePlan.{ComparisonRequest, compare_request, comparison_planned}
use Rattle.ras_cli.specs.DemoPlan.{demo_request}

-- what it asks for
abbrev pub request_in : Compared → ComparisonRequest
request_in (Files run) = compare_request (machine_in run)
request_in (Demo number) = demo_request number

-- the number of a demo
abbrev pub demo_in : Compared → Option ℕ
demo_in (Files run) = None
demo_in (Demo number) = Some number

-- the numbers of its options are in their ranges
abbrev pub AreComparable : Compared → Type 0
AreComparable (Files run) = IsInLimits run
AreComparable (Demo number) = Unit {0}

-- what is written of what it leaves, and the status
abbrev pub planned_in : Comparison → Planned
planned_in both = comparison_planned both.machine.state.console both.report.items both.flat_report.items both.verdict
