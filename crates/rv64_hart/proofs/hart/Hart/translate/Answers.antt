use Rattle.sv39_walk.specs.Progress.{left_of}
use Rattle.rv64_hart.proofs.Pages.{walk_found}
use Rattle.rv64_hart.proofs.hart.Hart.translate.Goals as goal

pub returns-clause-in_page : goal.returns-clause-in_page
returns-clause-in_page g c =
    walk_found g.B.Bus.meaning g.G.EventLog.logged c.args.words c.args.kind c.satp-satp.result
    (record { va = c.args.address; kind = c.args.kind; mode = c.mode.result; sum = c.sum.result; mxr = c.mxr.result })
    (left_of c.start-walk.result) c.follow.result _ _ _ _ c.start-walk.ensures.walk c.follow.ensures.plays
