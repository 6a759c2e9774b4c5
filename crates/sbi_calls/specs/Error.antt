-- The errors of calls (SBI 2.0, "Binary Encoding", Table "Standard SBI Errors").
use Rattle.std.specs.Prelude.{ℕ, ◌-◌, ◌^◌}
use Rattle.sbi_calls.specs.declared.error.SbiError.{SbiError}
use Rattle.sbi_calls.specs.declared.error.SbiError.TheVariants.{NotSupported, InvalidParam, InvalidAddress, AlreadyAvailable}

-- -2, -3, -5 and -6 as numbers of 64 bits
abbrev pub error_code : SbiError → ℕ
error_code NotSupported = 2 ^ 64 - 2
error_code InvalidParam = 2 ^ 64 - 3
error_code InvalidAddress = 2 ^ 64 - 5
error_code AlreadyAvailable = 2 ^ 64 - 6
