-- The inter-processor interrupt extension (SBI 2.0, "IPI Extension", and "Hart list parameter").
use Rattle.std.specs.Prelude.{ℕ, ◌-◌, ◌*◌, ◌^◌, ◌==◌, nat_lt, Option, Some, None, if◌then◌else◌}
use Rattle.sbi_calls.specs.declared.call.Request.{Request}
use Rattle.sbi_calls.specs.declared.call.SbiCall.{SbiCall}
use Rattle.sbi_calls.specs.declared.call.SbiCall.TheVariants.{SendIpi, Unknown}

-- function 0 sends an interrupt to the harts of a mask and a base
abbrev pub ipi_call : Request → SbiCall
ipi_call r = if r.function == 0 then SendIpi r.a0 r.a1 else Unknown

-- the base that stands for all harts
abbrev pub all_harts : ℕ
all_harts = 2 ^ 64 - 1

-- the mask moved up by its base, as a whole number; none where that isn't a number with a bit for each of so many harts
abbrev pub moved_mask : ℕ → ℕ → ℕ → Option ℕ
moved_mask mask base harts = if nat_lt (mask * 2 ^ base) (2 ^ harts) then Some (mask * 2 ^ base) else None

-- the harts of a mask and a base, bit i for hart i: bit i of the mask stands for hart base + i; none where a set bit stands for no hart
abbrev pub harts_of_mask : ℕ → ℕ → ℕ → Option ℕ
harts_of_mask mask base harts = if base == all_harts then Some (2 ^ harts - 1) else moved_mask mask base harts
