use Rattle.reri_inject.specs.CriticalLaws.{log_brings_none, logs_bring_none, staging_brings_none, write_brings_none, keeping_brings_none, bring_none, none_stay, later_not_due}
use Rattle.reri_inject.proofs.critical.other_calls_bring_no_critical_event.Goals as goal

pub returns : goal.returns
returns c = record {
  log = log_brings_none;
  logs = logs_bring_none;
  stage = staging_brings_none;
  write = write_brings_none;
  keep = keeping_brings_none;
  follow = bring_none;
  none = none_stay;
  later = later_not_due;
}
