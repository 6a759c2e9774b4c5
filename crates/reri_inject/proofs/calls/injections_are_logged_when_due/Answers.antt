use Rattle.reri_inject.proofs.AnyCalls.{goes_by_lines}
use Rattle.reri_inject.proofs.calls.injections_are_logged_when_due.Goals as goal

pub returns : goal.returns
returns c = goes_by_lines
