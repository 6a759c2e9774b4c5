-- Calls to the firmware that name other harts (SBI 2.0, "Hart State Management Extension" and "IPI Extension"). All 64 bits
-- of a hart's number count.
use Rattle.std.specs.Prelude.{ℕ, ◌%◌, ◌==◌, not, ◌&&◌, nat_lt, bit_and, Option, Some, None, if◌then◌else◌}
use Rattle.ras_bits.specs.Bits.{has_bit}
use Rattle.ras_bits.specs.Map.{is_ram}
use Rattle.poison_mem.specs.Asking.{Asking}
use Rattle.sbi_calls.specs.declared.error.SbiError.TheVariants.{InvalidParam, InvalidAddress, AlreadyAvailable}
use Rattle.sbi_calls.specs.Hsm.{status_value}
use Rattle.sbi_calls.specs.Ipi.{harts_of_mask}
use Rattle.rv64_hart.specs.declared.ends.Effect.TheVariants.{Start, StopSelf, Ipi}
use Rattle.rv64_hart.specs.Around.{Around}
use Rattle.rv64_hart.specs.State.{ArchitecturalState}
use Rattle.rv64_hart.specs.Outcome.{Outcome, went, acting}
use Rattle.rv64_hart.specs.Answers.{answered, refused}

-- Hart `id` is started at an address with an opaque value: refused where there is no such hart, then where it is started,
-- then where no instruction can be at the address.
unfoldable pub start_asked : Around → ArchitecturalState → ℕ → ℕ → ℕ → Asking Outcome
start_asked around h id entry opaque =
    if not (nat_lt id around.peers.harts) then went (refused h InvalidParam)
    else if has_bit around.peers.started id then went (refused h AlreadyAvailable)
    else if not (is_ram around.words entry && (entry % 4 == 0)) then went (refused h InvalidAddress)
    else acting (answered h 0) (Start id entry opaque)

-- the caller stops behind its call
abbrev pub stop_asked : ArchitecturalState → Asking Outcome
stop_asked h = acting (answered h 0) StopSelf

-- whether hart `id` is started
unfoldable pub status_asked : Around → ArchitecturalState → ℕ → Asking Outcome
status_asked around h id =
    if nat_lt id around.peers.harts then went (answered h (status_value (has_bit around.peers.started id)))
    else went (refused h InvalidParam)

-- the started ones of these harts get an interrupt; none where one of them isn't there
abbrev pub interrupts_sent : Around → ArchitecturalState → Option ℕ → Asking Outcome
interrupts_sent around h None = went (refused h InvalidParam)
interrupts_sent around h (Some harts) = acting (answered h 0) (Ipi (bit_and around.peers.started harts))

-- an interrupt to the harts of a mask and a base
abbrev pub interrupts_asked : Around → ArchitecturalState → ℕ → ℕ → Asking Outcome
interrupts_asked around h mask base = interrupts_sent around h (harts_of_mask mask base around.peers.harts)
