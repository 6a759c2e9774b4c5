use Rattle.std.proofs.Common.{◌∙◌, sym}
use Rattle.sv39_walk.proofs.WalkLaws.{after_given, needs_progress, left_after_is}
use Rattle.sv39_walk.proofs.walk.Walk.give.Goals as goal

pub returns-in-Table-clause-stands : goal.returns-in-Table-clause-stands
returns-in-Table-clause-stands c =
    λ satp request entries stands. after_given satp request entries c.args.self.now _ c.args.pte (rw (← c.self.view_is, c.in-Table.is) (c.progress_after-self-inside.ensures.left ∙ sym (left_after_is c.self.inside.request c.in-Table.level c.in-Table.table c.args.pte))) stands

pub returns-in-Table-clause-nearer : goal.returns-in-Table-clause-nearer
returns-in-Table-clause-nearer c =
    rw (← c.self.view_is, c.in-Table.is) (needs_progress c.self.inside.request c.in-Table.level c.in-Table.table _ _ c.progress_after-self-inside.ensures.left)
