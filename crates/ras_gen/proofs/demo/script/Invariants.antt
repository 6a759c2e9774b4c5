use Rattle.std.proofs.Common.{◌≡◌, ◌*◌}
use Rattle.ras_gen.specs.Demo.{demo_lines, state_after}
use Rattle.ras_gen.proofs.demo.script.Given as goal

-- the lines so far, and three draws for each
abbrev pub invariant-loop-line : goal.invariant-loop-line
invariant-loop-line l = (l.out.items ≡ demo_lines l.n l.line) × (l.draws.state ≡ state_after l.n (3 * l.line))
