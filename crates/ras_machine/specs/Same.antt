-- Whether both machines have the same harts.
use Rattle.std.specs.Prelude.{◌≡◌}
use Rattle.ras_machine.specs.Flat.{FlatMachine}
use Rattle.ras_machine.specs.Machine.{StackMachine}

-- the harts of both are equal in every part, and they took as many bytes of the input
pub record HaveSameHarts (m : StackMachine) (f : FlatMachine) : Type 0 where
  pub harts : m.state.shared.harts ≡ f.state.harts
  pub place : m.state.place ≡ f.state.place
