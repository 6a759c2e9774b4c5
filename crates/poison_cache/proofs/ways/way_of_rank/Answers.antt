use Rattle.std.proofs.Common.{arith}
use Rattle.poison_cache.proofs.Ranks.{way_from, some_way}
use Rattle.poison_cache.proofs.ways.way_of_rank.Goals as goal

pub returns-then-ranks-way-clause-way : goal.returns-then-ranks-way-clause-way
returns-then-ranks-way-clause-way c =
    way_from c.args.ranks.now c.args.first c.args.ways c.args.rank c.requires.ranks c.loop-way.way (omega arith) (omega arith) c.if-ranks-way.true

pub unreachable-requires : goal.unreachable-requires
unreachable-requires c =
    some_way c.args.ranks.now c.args.first c.args.ways c.args.rank c.requires.ranks c.requires.rank
    (λ i above below. c.loop-way.invariant i above (omega arith))
