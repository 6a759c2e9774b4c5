use Rattle.reri_inject.specs.CriticalLaws.{critical_is_due, due_is_kept, none_where_not_due, none_where_unstaged}
use Rattle.reri_inject.proofs.critical.critical_events_are_due.Goals as goal

pub returns : goal.returns
returns c = record { due = critical_is_due; kept = due_is_kept; not_due = none_where_not_due; unstaged = none_where_unstaged }
