use Rattle.std.proofs.Common.{◌≡◌, ◌-◌}
use Rattle.ras_debug.specs.Running.{advanced}
use Rattle.ras_debug.proofs.running.Running.advance.Given as goal

-- the steps that are left lead to where all of them lead
abbrev pub invariant-loop-done : goal.invariant-loop-done
invariant-loop-done l = record {
  left : advanced l.n l.fn.self ≡ advanced (l.n - l._done) l.self;
  ending : l.ending ≡ l.self.machine.ended;
  settings : l.self.machine.settings ≡ l.fn.self.machine.settings;
}
