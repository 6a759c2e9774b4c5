-- The system reset extension (SBI 2.0, "System Reset Extension").
use Rattle.std.specs.Prelude.{ℕ, ◌==◌, ◌&&◌, nat_le, Option, Some, None, if◌then◌else◌}
use Rattle.sbi_calls.specs.declared.call.Request.{Request}
use Rattle.sbi_calls.specs.declared.call.SbiCall.{SbiCall}
use Rattle.sbi_calls.specs.declared.call.SbiCall.TheVariants.{Reset, Unknown}
use Rattle.sbi_calls.specs.declared.stop.GuestStop.{GuestStop}
use Rattle.sbi_calls.specs.declared.stop.GuestStop.TheVariants.{Shutdown, Reboot}

-- function 0 resets, with a type and a reason
abbrev pub reset_call : Request → SbiCall
reset_call r = if r.function == 0 then Reset r.a0 r.a1 else Unknown

-- the stop of a reset: type 0 shuts down with its reason, types 1 and 2 reboot; the reasons are 0 and 1
abbrev pub reset_stop : ℕ → ℕ → Option GuestStop
reset_stop kind reason =
    if nat_le kind 2 && nat_le reason 1
    then (if kind == 0 then Some (Shutdown reason) else Some (Reboot kind))
    else None
