-- The timer extension (SBI 2.0, "Timer Extension").
use Rattle.std.specs.Prelude.{◌==◌, if◌then◌else◌}
use Rattle.sbi_calls.specs.declared.call.Request.{Request}
use Rattle.sbi_calls.specs.declared.call.SbiCall.{SbiCall}
use Rattle.sbi_calls.specs.declared.call.SbiCall.TheVariants.{SetTimer, Unknown}

-- function 0 sets the timer
abbrev pub time_call : Request → SbiCall
time_call r = if r.function == 0 then SetTimer r.a0 else Unknown
