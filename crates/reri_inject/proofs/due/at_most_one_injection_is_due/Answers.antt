use Rattle.reri_inject.specs.DueLaws.{one_due}
use Rattle.reri_inject.proofs.due.at_most_one_injection_is_due.Goals as goal

pub returns : goal.returns
returns c = one_due
