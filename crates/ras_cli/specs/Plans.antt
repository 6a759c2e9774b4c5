-- The plan of each command.
use Rattle.std.specs.Prelude.{List, Option, Some, None, option_and_then}
use Rattle.ras_host.specs.Told.{Bytes, File}
use Rattle.ras_words.specs.Commands.{Command, Run, Compare, Debug, Read, Demo, command_of}
use Rattle.ras_cli.specs.declared.status.Exit.TheVariants as exits
use Rattle.ras_cli.specs.Refusals.{usage}
use Rattle.ras_cli.specs.Plan.{Plan, Done, Planned, line_written, carried_out, run_plan}
use Rattle.ras_cli.specs.ComparePlan.{ComparisonRequest, comparison_plan, compare_request}
use Rattle.ras_cli.specs.DebugPlan.{debug_plan}
use Rattle.ras_cli.specs.DemoPlan.{demo_request}
use Rattle.ras_cli.specs.PrintPlan.{print_plan}

-- the plan of a command
abbrev pub command_plan : Command → Plan Planned
command_plan (Run run) = run_plan run
command_plan (Compare run) = comparison_plan (compare_request run)
command_plan (Debug debug) = debug_plan debug
command_plan (Read file) = print_plan file
command_plan (Demo number) = comparison_plan (demo_request number)

-- the plan of what words ask for; where they ask for nothing, the usage line is written
abbrev pub plan_of : Option Command → Plan Planned
plan_of None = Done (line_written exits.Usage usage)
plan_of (Some command) = command_plan command

-- the host calls and the status that these words ask for over these files
abbrev pub planned_by : List Bytes → List File → Planned
planned_by words files = carried_out (plan_of (command_of words)) files

-- the comparison that a command asks for
abbrev pub asked_comparison : Command → Option ComparisonRequest
asked_comparison (Compare run) = Some (compare_request run)
asked_comparison (Demo number) = Some (demo_request number)
asked_comparison _ = None

-- the comparison that words ask for
abbrev pub comparison_of : List Bytes → Option ComparisonRequest
comparison_of words = option_and_then asked_comparison (command_of words)
