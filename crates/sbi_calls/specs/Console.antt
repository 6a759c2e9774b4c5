-- The debug console extension (SBI 2.0, "Debug Console Extension").
use Rattle.std.specs.Prelude.{ℕ, ◌+◌, ◌%◌, ◌==◌, Bool, ◌&&◌, ◌||◌, nat_le, min, Option, Some, None, if◌then◌else◌}
use Rattle.ras_bits.specs.Map.{word_address}
use Rattle.ras_bits.specs.declared.map.TheConstants.{RAM_START}
use Rattle.sbi_calls.specs.declared.call.Request.{Request}
use Rattle.sbi_calls.specs.declared.call.SbiCall.{SbiCall}
use Rattle.sbi_calls.specs.declared.call.SbiCall.TheVariants.{ConWrite, ConRead, ConByte, Unknown}
use Rattle.sbi_calls.specs.declared.console.TheConstants.{MOST_BYTES}

-- function 0 writes bytes, 1 reads them, 2 writes one byte
abbrev pub console_call : Request → SbiCall
console_call r =
    if r.function == 0 then ConWrite r.a0 r.a1 r.a2
    else if r.function == 1 then ConRead r.a0 r.a1 r.a2
    else if r.function == 2 then ConByte (r.a0 % 256)
    else Unknown

-- there are no bytes, or all n bytes from lo on are in RAM
abbrev pub lie_in_ram : ℕ → ℕ → ℕ → Bool
lie_in_ram n lo words = (n == 0) || (nat_le RAM_START lo && nat_le (lo + n) (word_address words))

-- where a console call's bytes begin and how many are taken; none where the call is refused
abbrev pub span_of : ℕ → ℕ → ℕ → ℕ → Option (ℕ × ℕ)
span_of n lo hi words = if (hi == 0) && lie_in_ram n lo words then Some (lo, min n MOST_BYTES) else None
