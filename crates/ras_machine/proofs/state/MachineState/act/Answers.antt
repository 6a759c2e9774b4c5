use Rattle.ras_machine.proofs.Told.{scrubs}
use Rattle.ras_machine.proofs.state.MachineState.act.Goals as goal

pub returns-in-Scrub-clause-after : goal.returns-in-Scrub-clause-after
returns-in-Scrub-clause-after g c =
    rw (c.in-Scrub.is, c.scrub.ensures.after, c.scrub.ensures.events, c.memory_mut-in-Scrub.ensures.value)
    (scrubs g.B.FlipBus.flips c.args.self.now c.in-Scrub.w)
