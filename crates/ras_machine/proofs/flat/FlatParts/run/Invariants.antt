use Rattle.std.proofs.Common.{◌≡◌, ◌-◌, length}
use Rattle.ras_machine.specs.Schedule.{given_by}
use Rattle.ras_machine.specs.Flat.{flat_run}
use Rattle.ras_machine.proofs.flat.FlatParts.run.Given as goal

-- the run of what is left is the whole run
abbrev pub invariant-loop-n : goal.invariant-loop-n
invariant-loop-n l = record {
  left : flat_run (given_by l.input l.schedule) l.budget 0 l.fn.self ≡ flat_run (given_by l.input l.schedule) (l.budget - l.n) l.n l.self;
  harts : length l.self.harts ≡ length l.fn.self.harts;
}
