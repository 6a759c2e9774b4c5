use Rattle.std.proofs.Common.{◌∙◌, sym}
use Rattle.ras_machine.proofs.Told.{patrols}
use Rattle.ras_machine.proofs.state.MachineState.patrol_word.Goals as goal

pub returns-in-Some-clause-after : goal.returns-in-Some-clause-after
returns-in-Some-clause-after g c =
    rw (c.done.ensures, c.due_in_turn.ensures.stays, c.scrub.ensures.after, c.scrub.ensures.events, c.memory_mut.ensures.value)
    (patrols g.B.FlipBus.flips c.args.self.now c.in-Some.w (sym c.due_in_turn.ensures.due ∙ c.in-Some.is))
