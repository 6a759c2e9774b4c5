use Rattle.std.proofs.Common.{rules, ◌∙◌}
use Rattle.sv39_walk.specs.Progress.{left_of}
use Rattle.rv64_hart.proofs.Walks.{played_done, played_outside, played_poison, played_good}
use Rattle.rv64_hart.proofs.locate.follow.Goals as goal

pub returns-in_default-clause-plays : goal.returns-in_default-clause-plays
returns-in_default-clause-plays g c =
    c.walk.invariant.left
    ∙ rw c.access_fault.ensures (played_outside g.B.Bus.meaning g.G.EventLog.logged c.args.words c.args.kind (left_of c.walk.walk) c.in-Need.address c.walk.bus c.walk.log c.in-Need.ensures.next c.in_default.ensures)

pub returns-in-Poison-clause-plays : goal.returns-in-Poison-clause-plays
returns-in-Poison-clause-plays g c =
    c.walk.invariant.left
    ∙ played_poison g.B.Bus.meaning g.G.EventLog.logged c.args.words c.args.kind (left_of c.walk.walk) c.in-Need.address c.in-Some.w c.walk.bus _ c.walk.log _ c.in-Need.ensures.next c.in-Some.ensures c.in-Poison.ensures.cell c.in-Poison.ensures.after c.in-Poison.ensures.events

pub walk-preserved : goal.walk-preserved
walk-preserved g c = record {
  left =
      c.walk.invariant.left
      ∙ played_good g.B.Bus.meaning g.G.EventLog.logged c.args.words c.args.kind (left_of c.walk.walk) (left_of c.give.new.self) c.in-Need.address c.in-Some.w c.in-Good.entry c.walk.bus _ c.walk.log _ c.in-Need.ensures.next c.in-Some.ensures c.in-Good.ensures.cell c.in-Good.ensures.after c.in-Good.ensures.events c.give.ensures.goes_on;
  words = search (rules, c.walk.invariant.words);
}

pub returns-in-Done-clause-plays : goal.returns-in-Done-clause-plays
returns-in-Done-clause-plays g c =
    c.walk.invariant.left
    ∙ played_done g.B.Bus.meaning g.G.EventLog.logged c.args.words c.args.kind (left_of c.walk.walk) c.in-Done.physical c.at.result c.walk.bus c.walk.log c.in-Done.ensures.next c.at.ensures.value
