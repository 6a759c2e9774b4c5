use Rattle.std.proofs.Common.{◌∙◌, sym}
use Rattle.rv64_hart.proofs.HartsLemmas.{stopped_more}
use Rattle.rv64_hart.proofs.shared.Shared.make.Goals as goal

pub loop-id-preserved : goal.loop-id-preserved
loop-id-preserved g c =
    c.in_ok-push.ensures.items ∙ rw (c.loop-id.invariant, c.new.ensures, c.from.ensures) (sym (stopped_more c.loop-id.id c.args.entry))
