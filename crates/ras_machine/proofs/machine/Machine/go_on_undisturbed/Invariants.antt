use Rattle.std.proofs.Common.{ℕ, ◌≡◌, ◌-◌, ◌<◌, ◌≤◌, Option, Some, None}
use Rattle.ras_machine.specs.declared.ending.Ending.{Ending}
use Rattle.ras_machine.specs.Machine.{machine_run}
use Rattle.ras_machine.specs.Schedule.{given_by}
use Rattle.ras_machine.specs.Undisturbed.{AreCalm}
use Rattle.ras_machine.proofs.machine.Machine.go_on_undisturbed.Given as goal

-- the run of what is left is the whole run, and where it goes on all is calm
abbrev pub invariant-loop-self : goal.invariant-loop-self
invariant-loop-self l = record {
  left : machine_run (given_by l.input l.schedule) l.lines l.fn.self ≡ machine_run (given_by l.input l.schedule) l.lines l.self;
  settings : l.self.settings ≡ l.fn.self.settings;
  poll : l.self.state.poll ≡ l.fn.self.state.poll;
  patrol : l.self.state.patrol ≡ l.fn.self.state.patrol;
  low : l.self.ended ≡ None → l.fn.self.state.steps ≤ l.self.state.steps;
  high : l.self.ended ≡ None → l.self.state.steps ≤ l.until;
  calm : l.self.ended ≡ None → l.self.state.steps < l.until → AreCalm l.self.state.firmware.banks;
}

-- the steps up to the first that may be disturbed
abbrev steps_left : Option Ending → ℕ → ℕ
steps_left (Some ending) left = 0
steps_left None left = left

abbrev pub decreases-loop-self : goal.decreases-loop-self
decreases-loop-self l = steps_left l.self.ended (l.until - l.self.state.steps)
