-- Calls to the firmware (SBI 2.0, "Base Extension", "Timer Extension", "System Reset Extension" and "Legacy Extensions"; those
-- of memory and of other harts are in files of their own).
use Rattle.std.specs.Prelude.{ℕ, ◌-◌, ◌^◌, List, [], ◌∷◌, Option, Some, None}
use Rattle.poison_mem.specs.Asking.{Asking}
use Rattle.sbi_calls.specs.declared.call.SbiCall.{SbiCall}
use Rattle.sbi_calls.specs.declared.call.SbiCall.TheVariants as call
use Rattle.sbi_calls.specs.declared.error.SbiError.TheVariants.{NotSupported, InvalidParam}
use Rattle.sbi_calls.specs.declared.stop.GuestStop.{GuestStop}
use Rattle.sbi_calls.specs.declared.stop.GuestStop.TheVariants.{Shutdown}
use Rattle.sbi_calls.specs.Base.{base_value}
use Rattle.sbi_calls.specs.Extension.{call_of, probe_value}
use Rattle.sbi_calls.specs.Reset.{reset_stop}
use Rattle.sbi_calls.specs.Console.{span_of}
use Rattle.rv64_hart.specs.Around.{Around}
use Rattle.rv64_hart.specs.State.{ArchitecturalState}
use Rattle.rv64_hart.specs.Outcome.{Outcome, went, writing, taking, stopping}
use Rattle.rv64_hart.specs.Answers.{answered, refused, answered_legacy}
use Rattle.rv64_hart.specs.ConsoleCalls.{bytes_written, bytes_read, with_span}
use Rattle.rv64_hart.specs.HartCalls.{start_asked, stop_asked, status_asked, interrupts_asked}

-- the state with this timer
abbrev pub with_timer : ArchitecturalState → ℕ → ArchitecturalState
with_timer h time = record h { csrs = record h.csrs { timer = time } }

-- a system reset
abbrev pub reset_asked : ArchitecturalState → Option GuestStop → Asking Outcome
reset_asked h None = went (refused h InvalidParam)
reset_asked h (Some stop) = stopping h stop

-- the next byte of the input; -1 at its end
abbrev pub byte_asked : ArchitecturalState → List ℕ → Asking Outcome
byte_asked h [] = went (answered_legacy h (2 ^ 64 - 1))
byte_asked h (byte ∷ rest) = taking (answered_legacy h byte) 1 []

-- a call, by what it asks for
unfoldable pub served : Around → ArchitecturalState → SbiCall → Asking Outcome
served around h (call.Base function) = went (answered h (base_value function))
served around h (call.Probe extension) = went (answered h (probe_value extension))
served around h (call.SetTimer time) = went (answered (with_timer h time) 0)
served around h (call.LegacyTimer time) = went (answered_legacy (with_timer h time) 0)
served around h (call.Putchar byte) = writing (answered_legacy h 0) (byte ∷ [])
served around h call.Getchar = byte_asked h around.input
served around h call.LegacyShutdown = stopping h (Shutdown 0)
served around h (call.Reset kind reason) = reset_asked h (reset_stop kind reason)
served around h (call.ConWrite n lo hi) = with_span h (bytes_written h) (span_of n lo hi around.words)
served around h (call.ConRead n lo hi) = with_span h (bytes_read h around.input) (span_of n lo hi around.words)
served around h (call.ConByte byte) = writing (answered h 0) (byte ∷ [])
served around h (call.HartStart id entry opaque) = start_asked around h id entry opaque
served around h call.HartStop = stop_asked h
served around h (call.HartStatus id) = status_asked around h id
served around h (call.SendIpi mask base) = interrupts_asked around h mask base
served around h call.Unknown = went (refused h NotSupported)

-- the call that the registers ask for
unfoldable pub firmware_called : Around → ArchitecturalState → Asking Outcome
firmware_called around h = served around h (call_of h.registers)
