use Rattle.std.proofs.Common.{◌≡◌, length, refl, arith}
use Rattle.std.proofs.lemmas.Bool.Decides.{nat_tests}
use Rattle.ras_machine.proofs.SameHarts.{have_same}
use Rattle.ras_machine.proofs.machine.Machine.same_harts.Goals as goal

-- every hart was compared
pub returns : goal.returns
returns c = (λ _. have_same c.args.self.now c.args.f.now c.loop-i.i own other place c.loop-i.invariant.same, λ _. refl)
  where
    own : c.loop-i.i ≡ length c.args.self.now.state.shared.harts
    own = grind (arith, nat_tests)

    other : c.loop-i.i ≡ length c.args.f.now.state.harts
    other = grind (arith, nat_tests)

    place : c.args.self.now.state.place ≡ c.args.f.now.state.place
    place = grind (arith, nat_tests)
