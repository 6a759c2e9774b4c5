use Rattle.ras_cli.proofs.debugging.open_session.Goals as goal

pub make-requires-2 : goal.make-requires-2
make-requires-2 c = rw c.in_ok-machine.ensures.made c.requires.script
