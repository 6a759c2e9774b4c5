-- The base extension (SBI 2.0, "Base Extension").
use Rattle.std.specs.Prelude.{ℕ, ◌==◌, nat_le, if◌then◌else◌}
use Rattle.sbi_calls.specs.declared.call.Request.{Request}
use Rattle.sbi_calls.specs.declared.call.SbiCall.{SbiCall}
use Rattle.sbi_calls.specs.declared.call.SbiCall.TheVariants.{Base, Probe, Unknown}

-- function 3 probes, the others below 7 answer a constant
abbrev pub base_call : Request → SbiCall
base_call r = if r.function == 3 then Probe r.a0 else if nat_le r.function 6 then Base r.function else Unknown

-- the specification's version 2.0, the implementation's number and version; mvendorid, marchid and mimpid are 0
abbrev pub base_value : ℕ → ℕ
base_value function =
    if function == 0 then 0x0200_0000 else if function == 1 then 0x5241 else if function == 2 then 1 else 0
