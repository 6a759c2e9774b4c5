use Rattle.std.proofs.Common.{◌≡◌, length, arith}
use Rattle.std.proofs.lemmas.Bool.Decides.{nat_tests}
use Rattle.ras_host.proofs.CreatedLemmas.{found_unnamed}
use Rattle.ras_host.proofs.created.CreatedFiles.get.Goals as goal

pub returns : goal.returns
returns c =
    let none : length c.args.name.now ≡ 0 = grind (arith, nat_tests) in
    found_unnamed c.args.self.now.bytes.items c.args.name.now _ c.args.self.now.unnamed c.args.self.now.named.items c.in-Some.piece _ c.in-Some.is none c.deref.ensures.value (omega arith)
