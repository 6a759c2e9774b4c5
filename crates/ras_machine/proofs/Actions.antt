-- What holds after actions, by whether one of them stopped the run.
use Rattle.std.proofs.Common.{◌≡◌, List, Option, Some, None, ap}
use Rattle.ras_firmware.specs.Firmware.{FirmwareCall}
use Rattle.ras_machine.specs.declared.ending.Stop.{Stop}
use Rattle.ras_machine.specs.Acted.{Acted, unless_stopped, ◌>>=◌}

-- this holds where the run goes on, and that where it stopped
abbrev pub ByStop : {S : Type 0} → (S → Type 0) → (Stop → S → Type 0) → Option Stop → S → Type 0
ByStop Goes Stops None s = Goes s
ByStop Goes Stops (Some stop) s = Stops stop s

abbrev pub ComesTo : {S : Type 0} → (S → Type 0) → (Stop → S → Type 0) → Acted S → Type 0
ComesTo Goes Stops a = ByStop Goes Stops a.stop a.after

module _ {S : Type 0} (P Q : S → Type 0) (Stops : Stop → S → Type 0) where
  then_by : (stop : Option Stop) (after : S) (calls : List FirmwareCall) (next : S → Acted S) → ByStop P Stops stop after
      → ((s : S) → P s → ComesTo Q Stops (next s))
      → ComesTo Q Stops (unless_stopped stop (record { after = after; calls = calls; stop = stop }) (next after))
  then_by None after calls next it more = more after it
  then_by (Some stop) after calls next it more = it

  -- of an action and the next
  pub and_then : (a : Acted S) (next : S → Acted S) → ComesTo P Stops a → ((s : S) → P s → ComesTo Q Stops (next s)) → ComesTo Q Stops (a >>= next)
  and_then a next it more = then_by a.stop a.after a.calls next it more

-- what an action leaves, and its stop
abbrev pub left : {S : Type 0} → Acted S → S × Option Stop
left a = (a.after, a.stop)

-- an action that doesn't stop the run leaves it to the next
pub left_on : {S : Type 0} (a : Acted S) (next : S → Acted S) → a.stop ≡ None → left (a >>= next) ≡ left (next a.after)
left_on a next goes = ap (λ stop. left (unless_stopped stop a (next a.after))) goes
