use Rattle.std.proofs.Common.{◌≡◌, ◌≤◌, length, drop}
use Rattle.rv64_hart.specs.Harts.{started_bits}
use Rattle.rv64_hart.proofs.harts.Harts.peers.Given as goal

-- the bits of the harts from i on
abbrev pub invariant-loop-i : goal.invariant-loop-i
invariant-loop-i g l = record {
  bits : l.started ≡ started_bits (drop l.i l.self.harts);
  within : l.i ≤ length l.self.harts;
}

abbrev pub decreases-loop-i : goal.decreases-loop-i
decreases-loop-i g l = l.i
