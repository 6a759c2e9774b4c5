use Rattle.ras_firmware.proofs.Written.{mapped_more}
use Rattle.ras_firmware.proofs.entries.entries_of.Goals as goal

pub loop-view-preserved : goal.loop-view-preserved
loop-view-preserved c =
    mapped_more c.args.views.now c.loop-view.view-index _ c.loop-view.entries.items c.push.new.self.items c.entry_of.result
    c.loop-view-test.true c.loop-view.invariant c.entry_of.ensures c.push.ensures.items
