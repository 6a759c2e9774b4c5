-- What an ECALL asks for (SBI 2.0, "Binary Encoding").
use Rattle.std.specs.Prelude.{◌≤◌, ◌≢◌, ℕ, List, slice_index}
use Rattle.sbi_calls.specs.declared.call.Request.{Request}
use Rattle.sbi_calls.specs.declared.call.SbiCall.{SbiCall}
use Rattle.sbi_calls.specs.declared.call.SbiCall.TheVariants.{Base}

-- the request of the registers x0 to x31: a6 is x16, a0 to a2 are x10 to x12
abbrev pub request_of : List ℕ → Request
request_of registers =
    let x = slice_index registers in
    record { function = x 16; a0 = x 10; a1 = x 11; a2 = x 12 }

-- a function of the base extension is one that answers a constant
abbrev pub IsServed : SbiCall → Type 0
IsServed (Base function) = (function ≤ 6) × (function ≢ 3)
IsServed _ = Unit {0}
