use Rattle.std.proofs.Common.{ℕ, ◌≡◌, ◌+◌, ◌-◌, Option, Some, None}
use Rattle.ras_machine.specs.declared.ending.Ending.{Ending}
use Rattle.ras_machine.specs.FirstLine.{IsFirstLineOf}
use Rattle.ras_machine.specs.Machine.{machine_run}
use Rattle.ras_machine.specs.Schedule.{given_by}
use Rattle.ras_machine.proofs.machine.Machine.run_on.Given as goal

-- the run of what is left is the whole run
abbrev pub invariant-loop-self : goal.invariant-loop-self
invariant-loop-self l = record {
  left : machine_run (given_by l.input l.schedule) l.lines l.fn.self ≡ machine_run (given_by l.input l.schedule) l.lines l.self;
  settings : l.self.settings ≡ l.fn.self.settings;
  first : l.self.ended ≡ None → IsFirstLineOf l.self.state.steps l.lines l.at;
}

-- the steps up to the budget, and the last one there
abbrev steps_left : Option Ending → ℕ → ℕ
steps_left (Some ending) left = 0
steps_left None left = left

abbrev pub decreases-loop-self : goal.decreases-loop-self
decreases-loop-self l = steps_left l.self.ended (l.self.settings.budget + 1 - l.self.state.steps)
