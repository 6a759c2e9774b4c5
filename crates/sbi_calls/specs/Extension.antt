-- The extensions that the firmware has, by their numbers (SBI 2.0, "Binary Encoding"; each has its own chapter).
use Rattle.std.specs.Prelude.{ℕ, ◌==◌, List, [], ◌∷◌, slice_index, Option, Some, None, is_some, if◌then◌else◌}
use Rattle.sbi_calls.specs.declared.call.Request.{Request}
use Rattle.sbi_calls.specs.declared.call.SbiCall.{SbiCall}
use Rattle.sbi_calls.specs.declared.call.SbiCall.TheVariants as call
use Rattle.sbi_calls.specs.declared.extension.Extension.{Extension}
use Rattle.sbi_calls.specs.declared.extension.Extension.TheVariants as extension
use Rattle.sbi_calls.specs.Call.{request_of}
use Rattle.sbi_calls.specs.Base.{base_call}
use Rattle.sbi_calls.specs.Time.{time_call}
use Rattle.sbi_calls.specs.Reset.{reset_call}
use Rattle.sbi_calls.specs.Console.{console_call}
use Rattle.sbi_calls.specs.Hsm.{hart_state_call}
use Rattle.sbi_calls.specs.Ipi.{ipi_call}
use Rattle.sbi_calls.specs.Legacy.{putchar_call}

-- each extension with its number: most are the letters TIME, SRST, DBCN, HSM and sPI
abbrev pub extensions : List (ℕ × Extension)
extensions =
    (0x10, extension.Base) ∷ (0x5449_4D45, extension.Timer) ∷ (0x5352_5354, extension.SystemReset)
    ∷ (0x4442_434E, extension.DebugConsole) ∷ (0x48_534D, extension.HartState) ∷ (0x73_5049, extension.Ipi)
    ∷ (0x00, extension.LegacySetTimer) ∷ (0x01, extension.LegacyPutchar) ∷ (0x02, extension.LegacyGetchar)
    ∷ (0x08, extension.LegacyShutdown) ∷ []

-- the first extension of this number among these
abbrev pub extension_among : List (ℕ × Extension) → ℕ → Option Extension
extension_among [] number = None
extension_among (row ∷ rows) number = if number == row.0 then Some row.1 else extension_among rows number

-- the extension of a number
abbrev pub extension_at : ℕ → Option Extension
extension_at number = extension_among extensions number

-- what a request asks of an extension; a legacy one doesn't look at the function
abbrev pub call_in : Extension → Request → SbiCall
call_in extension.Base r = base_call r
call_in extension.Timer r = time_call r
call_in extension.SystemReset r = reset_call r
call_in extension.DebugConsole r = console_call r
call_in extension.HartState r = hart_state_call r
call_in extension.Ipi r = ipi_call r
call_in extension.LegacySetTimer r = call.LegacyTimer r.a0
call_in extension.LegacyPutchar r = putchar_call r
call_in extension.LegacyGetchar r = call.Getchar
call_in extension.LegacyShutdown r = call.LegacyShutdown

-- what a request asks of the extension that it names, where the firmware has it
abbrev pub call_by : Option Extension → Request → SbiCall
call_by None r = call.Unknown
call_by (Some known) r = call_in known r

-- the call of the registers x0 to x31: a7 is x17
abbrev pub call_of : List ℕ → SbiCall
call_of registers = call_by (extension_at (slice_index registers 17)) (request_of registers)

-- 1 for an extension that the firmware has, 0 for any other
abbrev pub probe_value : ℕ → ℕ
probe_value number = if is_some (extension_at number) then 1 else 0
