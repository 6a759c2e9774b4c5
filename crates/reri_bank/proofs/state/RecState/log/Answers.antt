use Rattle.std.proofs.Common.{refl}
use Rattle.reri_bank.specs.StateLaws.{logged_stands}
use Rattle.reri_bank.proofs.Shown.{held_logged}
use Rattle.reri_bank.proofs.state.RecState.log.Goals as goal

pub returns-then-self-clause-lists : goal.returns-then-self-clause-lists
returns-then-self-clause-lists c = λ r h. logged_stands c.args.self.now _ c.args.event r (rw (c.with_event.ensures, c.if-self.true) refl) h

pub returns-then-self-clause-held : goal.returns-then-self-clause-held
returns-then-self-clause-held c = λ bank rec names low h. held_logged bank rec c.args.self.now _ c.args.event (rw (c.with_event.ensures, c.if-self.true) refl) names low h
