-- Actions of a step, one after the other, up to the one that stops the run.
use Rattle.std.specs.Prelude.{ℕ, List, [], ◌++◌, Option, Some, None}
use Rattle.ras_firmware.specs.Firmware.{FirmwareCall}
use Rattle.ras_machine.specs.declared.ending.Stop.{Stop}
use Rattle.ras_machine.specs.declared.ending.Ending.{Ending}

-- what an action leaves, what it told the error side, in order, and the stop of the run where it stops it
pub record Acted (S : Type 0) : Type 0 where
  pub after : S
  pub calls : List FirmwareCall
  pub stop : Option Stop

-- an action that tells nothing and after which the run goes on, and one that stops it
abbrev pub goes : {S : Type 0} → S → Acted S
goes s = record { after = s; calls = []; stop = None }

abbrev pub stops_as : {S : Type 0} → Stop → S → Acted S
stops_as stop s = record { after = s; calls = []; stop = Some stop }

-- where an action stopped the run, nothing follows it; else the calls come one after the other
abbrev pub unless_stopped : {S : Type 0} → Option Stop → Acted S → Acted S → Acted S
unless_stopped (Some stop) a next = a
unless_stopped None a next = record next { calls = a.calls ++ next.calls }

-- an action, and then the next one
infixl 10 ◌>>=◌
abbrev pub ◌>>=◌ : {S : Type 0} → Acted S → (S → Acted S) → Acted S
a >>= next = unless_stopped a.stop a (next a.after)

-- the ending of a stop after so many steps
abbrev pub ending_at : Option Stop → ℕ → Option Ending
ending_at None steps = None
ending_at (Some stop) steps = Some (record { stop = stop; steps = steps })
