-- The log that keeps the first events.
use Rattle.std.specs.Prelude.{ℕ, ◌+◌, ◌-◌, ◌^◌, ◌==◌, if◌then◌else◌, min, List, [], ◌∷◌, ◌++◌, length}
use Rattle.poison_mem.specs.declared.event.Event.{Event}

-- the first events, in order, and how many came after them
pub record ShortLogState : Type 0 where
  pub events : List Event
  pub rest : ℕ

-- the log after one more event: kept among the first 64, else counted, up to the count's last value
abbrev pub short_logged : ShortLogState → Event → ShortLogState
short_logged log event =
    if length log.events == 64
    then record { events = log.events; rest = min (log.rest + 1) (2 ^ 64 - 1) }
    else record { events = log.events ++ event ∷ []; rest = log.rest }
