use Rattle.std.proofs.Common.{◌<◌, length}
use Rattle.ras_machine.proofs.Filled.{filled-length}
use Rattle.ras_machine.proofs.loading.memory_of.Goals as goal

pub load-requires : goal.load-requires
load-requires c =
    let inside : c.loop-w.w < length c.args.words.now = c.loop-w-test.true in
    rw (c.loop-w.invariant, filled-length c.args.words.now c.loop-w.w) inside
