-- The hart state management extension (SBI 2.0, "Hart State Management Extension").
use Rattle.std.specs.Prelude.{ℕ, ◌==◌, Bool, true, false, if◌then◌else◌}
use Rattle.sbi_calls.specs.declared.call.Request.{Request}
use Rattle.sbi_calls.specs.declared.call.SbiCall.{SbiCall}
use Rattle.sbi_calls.specs.declared.call.SbiCall.TheVariants.{HartStart, HartStop, HartStatus, Unknown}

-- function 0 starts a hart at an address with an opaque value, 1 stops the caller, 2 asks for a hart's status
abbrev pub hart_state_call : Request → SbiCall
hart_state_call r =
    if r.function == 0 then HartStart r.a0 r.a1 r.a2
    else if r.function == 1 then HartStop
    else if r.function == 2 then HartStatus r.a0
    else Unknown

-- the status of a hart: STARTED is 0, STOPPED 1
abbrev pub status_value : Bool → ℕ
status_value true = 0
status_value false = 1
