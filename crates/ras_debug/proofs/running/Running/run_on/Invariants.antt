use Rattle.std.proofs.Common.{◌≡◌, ◌-◌}
use Rattle.ras_debug.specs.Running.{held_within, run_on}
use Rattle.ras_debug.proofs.running.Running.run_on.Given as goal

-- what is left leads to where the whole leads
abbrev pub invariant-loop-done : goal.invariant-loop-done
invariant-loop-done l = record {
  rest : run_on l.breakpoints l.fn.self ≡ held_within (l.left - l._done) l.breakpoints l.self;
  ending : l.found ≡ l.self.machine.ended;
  settings : l.self.machine.settings ≡ l.fn.self.machine.settings;
}
