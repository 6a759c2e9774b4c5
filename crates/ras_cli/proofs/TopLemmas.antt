-- What follows from the plan that was followed.
use Rattle.std.proofs.Common.{ℕ, List, Option, Some, None}
use Rattle.std.specs.Prelude.{IfSome}
use Rattle.ras_host.specs.Told.{Bytes, File, Outside}
use Rattle.ras_words.specs.Commands.{Command, command_of}
use Rattle.ras_cli.specs.Plan.{carried_out}
use Rattle.ras_cli.specs.Plans.{command_plan, plan_of, planned_by}
use Rattle.ras_cli.specs.Follows.{Follows}
use Rattle.ras_cli.specs.Complete.{Completes}
use Rattle.ras_cli.proofs.CompleteLemmas.{command_done, completes}
use Rattle.ras_cli.proofs.FollowsLemmas.{if_some_all}

-- a command that the words ask for writes all of its outputs
pub words_complete : (files : Option (List File)) (words : List Bytes) (a b : Outside) (code : ℕ) → IfSome files (λ fs. Follows a b (planned_by words fs) code)
    → IfSome files (λ fs. IfSome (command_of words) (λ command. Completes fs (command_plan command) a b code))
words_complete files words a b code f = by_command (command_of words) f
  where
    all : (command : Command) (o : Option (List File)) → IfSome o (λ fs. Follows a b (carried_out (command_plan command) fs) code) → IfSome o (λ fs. Completes fs (command_plan command) a b code)
    all command None f = tt
    all command (Some fs) f = completes fs (command_plan command) a b code (command_done command fs) f

    by_command : (o : Option Command) → IfSome files (λ fs. Follows a b (carried_out (plan_of o) fs) code) → IfSome files (λ fs. IfSome o (λ command. Completes fs (command_plan command) a b code))
    by_command None f = if_some_all files _ (λ fs. tt)
    by_command (Some command) f = all command files f
