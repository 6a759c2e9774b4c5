use Rattle.rv64_hart.proofs.HartsLemmas.{selected}
use Rattle.rv64_hart.proofs.harts.select.Goals as goal

pub returns-clause-harts : goal.returns-clause-harts
returns-clause-harts g c =
    rw (c.swap-2.ensures.waiting, c.swap-2.ensures.hart, c.swap.ensures.waiting)
    (selected c.args.shared.now.waiting c.args.at.now c.args.i c.args.acting.now c.swap.new.hart c.swap.new.hart)
