use Rattle.std.proofs.Common.{◌≤◌, ◌+◌, ◌++◌, length, take, arith, length-take}
use Rattle.ras_host.proofs.ReadLemmas.{consumed_more, within_room}
use Rattle.ras_host.proofs.real.read_within.Goals as goal
use Rattle.ras_host.proofs.real.read_within.Goals.{then-left, else-left}

pub returns-then-taken-left-clause-taken : goal.returns-then-taken-left-clause-taken
returns-then-taken-left-clause-taken g c =
    let part = take c.in-Ok.taken c.read.new.buf in
    let wanted : c.if-left.wanted ≤ c.loop.left + 1 = elim c.if-left.branch [ then-left w ↦ omega arith | else-left w ↦ omega arith ] in
    let one_more : length part ≤ c.loop.left + 1 = omega (arith, wanted, c.in-Ok.ensures.bound.0, c.in-Ok.ensures.bound.1, c.read.auto.buf, length-take c.if-left.wanted c.loop.chunk) in
    (c.loop.bytes.items ++ part, consumed_more _ _ _ c.loop.bytes.items part c.loop.invariant.taken c.in-Ok.ensures.bytes.0, within_room c.loop.bytes.items part c.loop.left c.args.limit 1 (omega arith) one_more)

pub returns-then-is_err-clause-taken : goal.returns-then-is_err-clause-taken
returns-then-is_err-clause-taken g c =
    let part = take c.in-Ok.taken c.read.new.buf in
    let one_more : length part ≤ c.loop.left + 1 = omega (arith, c.in-Ok.ensures.bound.1) in
    (c.loop.bytes.items ++ part, consumed_more _ _ _ c.loop.bytes.items part c.loop.invariant.taken c.in-Ok.ensures.bytes.0, within_room c.loop.bytes.items part c.loop.left c.args.limit 1 (omega arith) one_more)
