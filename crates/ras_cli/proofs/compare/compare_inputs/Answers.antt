use Rattle.std.proofs.Common.{subst}
use Rattle.ras_cli.specs.Plan.{Planned}
use Rattle.ras_cli.specs.Follows.{Follows}
use Rattle.ras_cli.proofs.compare.compare_inputs.Goals as goal

pub returns-in-Ok-clause-follows : goal.returns-in-Ok-clause-follows
returns-in-Ok-clause-follows g c = λ lines rising.
    subst (λ (p : Planned). Follows (g.H.Host.told c.args.host.now) (g.H.Host.told c.write_comparison-status.new.host) p c.write_comparison-status.result.code)
    (c.in-Ok.ensures.planned lines rising) c.write_comparison-status.ensures.follows

pub returns-in-Ok-clause-keeps : goal.returns-in-Ok-clause-keeps
returns-in-Ok-clause-keeps g c = λ lines rising no4. c.in-Ok.ensures.keeps lines rising
