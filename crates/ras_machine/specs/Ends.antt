-- The stops and endings that steps bring.
use Rattle.std.specs.Prelude.{ℕ, ◌+◌, Option, Some, None}
use Rattle.sbi_calls.specs.declared.stop.GuestStop.{GuestStop}
use Rattle.rv64_hart.specs.Outcome.{OutcomeEnd, Goes, Stops}
use Rattle.rv64_hart.specs.declared.ends.TurnEnd.{TurnEnd}
use Rattle.rv64_hart.specs.declared.ends.TurnEnd.TheVariants as ends
use Rattle.ras_machine.specs.declared.ending.Stop.{Stop}
use Rattle.ras_machine.specs.declared.ending.Stop.TheVariants as stops
use Rattle.ras_machine.specs.declared.ending.Ending.{Ending}

-- the stop of a run that its program stops
abbrev pub guest_stop : GuestStop → Stop
guest_stop (GuestStop.Shutdown reason) = stops.Shutdown reason
guest_stop (GuestStop.Reboot kind) = stops.Reboot kind
guest_stop GuestStop.ConsoleFull = stops.ConsoleFull

-- how many steps are completed where it does so in step n: one that would overfill the console isn't
abbrev pub guest_steps : GuestStop → ℕ → ℕ
guest_steps (GuestStop.Shutdown reason) n = n + 1
guest_steps (GuestStop.Reboot kind) n = n + 1
guest_steps GuestStop.ConsoleFull n = n

-- the ending of a run that its program stops in step n
abbrev pub guest_ending : GuestStop → ℕ → Ending
guest_ending stop n = record { stop = guest_stop stop; steps = guest_steps stop n }

-- the ending that an outcome of step n brings, where the program stops in it
abbrev pub guest_ends : OutcomeEnd → ℕ → Option Ending
guest_ends (Goes effect) n = None
guest_ends (Stops stop) n = Some (guest_ending stop n)

-- the stop that a hart's step brings, where it brings one, with the pc before it
abbrev pub turn_stop : TurnEnd → ℕ → Option Stop
turn_stop (ends.Went effect) pc = None
turn_stop (ends.Stop stop) pc = Some (guest_stop stop)
turn_stop (ends.Poisoned w use_kind) pc = Some (stops.Consumed w use_kind pc)

-- how many steps are completed after a hart's step n
abbrev pub turn_steps : TurnEnd → ℕ → ℕ
turn_steps (ends.Went effect) n = n + 1
turn_steps (ends.Stop stop) n = guest_steps stop n
turn_steps (ends.Poisoned w use_kind) n = n

-- a step met no poison
abbrev pub IsUnpoisoned : TurnEnd → Type 0
IsUnpoisoned (ends.Went effect) = Unit {0}
IsUnpoisoned (ends.Stop stop) = Unit {0}
IsUnpoisoned (ends.Poisoned w use_kind) = ⊥

-- the ending that step n brings, where it met none
abbrev pub ending_by : TurnEnd → ℕ → Option Ending
ending_by (ends.Went effect) n = None
ending_by (ends.Stop stop) n = Some (guest_ending stop n)
ending_by (ends.Poisoned w use_kind) n = None

-- the bank and the number of the record with the fatal error that a stop is for
abbrev pub fatal_of : Stop → Option (ℕ × ℕ)
fatal_of (stops.Shutdown reason) = None
fatal_of (stops.Reboot kind) = None
fatal_of stops.Budget = None
fatal_of stops.ConsoleFull = None
fatal_of (stops.Consumed w use_kind pc) = Some (2, 0)
fatal_of (stops.Injected bank rec) = Some (bank, rec)
