use Rattle.std.proofs.Common.{◌≡◌, refl}
use Rattle.std.specs.Prelude.{slice_set}
use Rattle.rv64_hart.specs.declared.ends.Effect.TheVariants.{Nothing}
use Rattle.rv64_hart.proofs.HartsLemmas.{no_effect, effect_on_all}
use Rattle.rv64_hart.proofs.harts.apply.Goals as goal

pub returns-in-Went-Nothing-clause-harts : goal.returns-in-Went-Nothing-clause-harts
returns-in-Went-Nothing-clause-harts g c =
    let is : c.in-Went-Nothing.field-0 ≡ Nothing = cc in
    rw c.in-Went-Nothing.is (no_effect c.args.i c.in-Went-Nothing.field-0 (slice_set c.args.shared.now.waiting c.args.i c.args.acting.now) is)

pub returns-in-Went : goal.returns-in-Went
returns-in-Went g c = record {
  harts =
      rw (c.affect-in-Went.ensures, c.affect.ensures, c.from.ensures, c.from-in-Went.ensures, c.in-Went.is)
      (effect_on_all c.args.i c.in-Went.effect c.args.shared.now.waiting c.args.i c.args.acting.now);
  memory = rw c.affect-in-Went.ensures refl;
}
