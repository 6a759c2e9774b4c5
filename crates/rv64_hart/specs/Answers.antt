-- How a call to the firmware is answered (SBI 2.0, "Binary Encoding" and "Legacy Extensions"). No instruction is retired.
use Rattle.std.specs.Prelude.{ℕ}
use Rattle.sbi_calls.specs.declared.error.SbiError.{SbiError}
use Rattle.sbi_calls.specs.Error.{error_code}
use Rattle.rv64_hart.specs.State.{ArchitecturalState, with_register, next_pc}

-- the state behind a call that is done, with 0 in a0 and a value in a1
abbrev pub answered : ArchitecturalState → ℕ → ArchitecturalState
answered h value = with_register (with_register (next_pc h) 10 0) 11 value

-- the state behind a call that is refused, with the error's code in a0 and 0 in a1
abbrev pub refused : ArchitecturalState → SbiError → ArchitecturalState
refused h error = with_register (with_register (next_pc h) 10 (error_code error)) 11 0

-- a legacy call answers in a0 alone
abbrev pub answered_legacy : ArchitecturalState → ℕ → ArchitecturalState
answered_legacy h value = with_register (next_pc h) 10 value
