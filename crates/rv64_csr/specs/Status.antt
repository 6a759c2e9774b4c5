-- The bits of sstatus, and its number (privileged manual, "Supervisor Status Register").
use Rattle.std.specs.Prelude.{ℕ, ◌+◌, ◌*◌, ◌^◌, Bool, if◌then◌else◌}
use Rattle.ras_bits.specs.declared.terms.Mode.{Mode}
use Rattle.ras_bits.specs.declared.terms.Mode.TheVariants.{User, Supervisor}
use Rattle.rv64_csr.specs.declared.status.SupervisorStatus.{SupervisorStatus}
use Rattle.std.specs.Int.{from_bool}
use Rattle.ras_bits.specs.Bits.{has_bit}

-- a mode as SPP
abbrev pub mode_bit : Mode → ℕ
mode_bit User = 0
mode_bit Supervisor = 1

-- the mode that SPP stands for
abbrev pub mode_of : Bool → Mode
mode_of bit = if bit then Supervisor else User

-- sstatus as it reads: SIE 1, SPIE 5, SPP 8, SUM 18, MXR 19, and UXL 33:32, which is 2
abbrev pub sstatus_of : SupervisorStatus → ℕ
sstatus_of status =
    from_bool status.sie * 2 ^ 1 + from_bool status.spie * 2 ^ 5 + mode_bit status.spp * 2 ^ 8 + from_bool status.sum * 2 ^ 18
    + from_bool status.mxr * 2 ^ 19 + 2 * 2 ^ 32

-- the bits that a number written to sstatus sets
abbrev pub status_from : ℕ → SupervisorStatus
status_from n = record { sie = has_bit n 1; spie = has_bit n 5; spp = mode_of (has_bit n 8); sum = has_bit n 18; mxr = has_bit n 19 }
