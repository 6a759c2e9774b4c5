use Rattle.std.proofs.Common.{◌≤◌, length}
use Rattle.ras_cli.specs.DebugPlan.{session_pieces}
use Rattle.ras_cli.proofs.DebugLemmas.{HasWritten}
use Rattle.ras_cli.proofs.debugging.write_replies.Given as goal

-- the replies to the lines before the rest were written
abbrev pub invariant-loop-rest : goal.invariant-loop-rest
invariant-loop-rest g l = record {
  written : HasWritten (g.H.Host.told l.fn.host) (g.H.Host.told l.host) (session_pieces l.text l.fn.session) (session_pieces l.rest l.session);
  later : g.H.Host.faults l.fn.host ≤ g.H.Host.faults l.host;
}

abbrev pub decreases-loop-rest : goal.decreases-loop-rest
decreases-loop-rest g l = length l.rest
