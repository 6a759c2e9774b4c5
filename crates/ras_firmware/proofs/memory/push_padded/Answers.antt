use Rattle.std.proofs.Common.{◌+◌, vec_len, arith}
use Rattle.ras_firmware.proofs.Written.{succeeded, pushed}
use Rattle.ras_firmware.proofs.memory.push_padded.Goals as goal

pub returns-clause-items : goal.returns-clause-items
returns-clause-items c =
    let old = c.args.to.now in
    let mid = c.extend_from_slice.new.self in
    pushed old.items c.args.bytes.now mid.items c.resize.new.self.items c.args.count (c.len.result + c.args.count) (vec_len mid)
    (succeeded c.extend_from_slice.result _ _ mid.items (c.extend_from_slice.ensures.succeeds (omega arith)) c.extend_from_slice.ensures.items)
    (succeeded c.resize.result _ _ c.resize.new.self.items (c.resize.ensures.succeeds (omega arith)) c.resize.ensures.items)
    (omega (arith, mid.ok.0)) (omega (arith, old.ok.0, c.len.ensures)) c.requires.shorter
