use Rattle.std.proofs.Common.{arith}
use Rattle.reri_bank.proofs.ComesBack.{registers_show}
use Rattle.reri_bank.proofs.layout.views_come_back_from_their_registers.Goals as goal

pub returns : goal.returns
returns c = λ sound rdip addr info suppl time bank rec. registers_show c.args.v.now rdip addr info suppl time bank rec sound (omega arith) (omega arith)
