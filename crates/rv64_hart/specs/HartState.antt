-- A hart as plain numbers.
use Rattle.std.specs.Prelude.{ℕ, ◌%◌, ◌==◌, ◌&&◌, Option, Some, None, option_map, slice_index, if◌then◌else◌}
use Rattle.rv64_csr.specs.Csrs.{CsrFile}
use Rattle.rv64_csr.specs.Parts.{parts_of, file_from}
use Rattle.rv64_hart.specs.declared.access.Width.{Width}
use Rattle.rv64_hart.specs.declared.access.Width.TheVariants.{Word, Doubleword}
use Rattle.rv64_hart.specs.declared.hart.HartState.{HartState}
use Rattle.rv64_hart.specs.declared.reservation.Reservation.{Reservation}
use Rattle.rv64_hart.specs.Access.{bytes_in, is_aligned}
use Rattle.rv64_hart.specs.State.{ArchitecturalState}

-- a reservation as its address and how many bytes it has
abbrev pub held_of : Option Reservation → Option (ℕ × ℕ)
held_of None = None
held_of (Some r) = Some (r.address, bytes_in r.width)

-- the numbers of a hart
abbrev pub state_of : ArchitecturalState → HartState
state_of h = record {
  id = h.number;
  started = h.started;
  pc = h.pc;
  x = h.registers;
  mode = h.mode;
  csr = parts_of h.csrs;
  held = held_of h.reservation;
}

-- the width of so many bytes, where LR can reserve it
abbrev pub width_from : ℕ → Option Width
width_from n = if n == 4 then Some Word else if n == 8 then Some Doubleword else None

-- the reservation of an address and a width, which divides it
abbrev pub reservation_at : ℕ → Option Width → Option Reservation
reservation_at address None = None
reservation_at address (Some width) =
    if is_aligned width address then Some (record { address = address; width = width }) else None

-- the reservation of these numbers; none where they aren't a hart's
abbrev pub held_from : Option (ℕ × ℕ) → Option (Option Reservation)
held_from None = Some None
held_from (Some (address, bytes)) = option_map Some (reservation_at address (width_from bytes))

-- the hart of these numbers, these supervisor registers and this reservation
abbrev pub hart_with : HartState → Option CsrFile → Option (Option Reservation) → Option ArchitecturalState
hart_with s None held = None
hart_with s (Some file) None = None
hart_with s (Some file) (Some reservation) = Some (record {
  number = s.id;
  started = s.started;
  pc = s.pc;
  registers = s.x;
  mode = s.mode;
  csrs = file;
  reservation = reservation;
})

-- The hart of these numbers; none where x0 isn't 0, the pc isn't a multiple of 4, a supervisor register can't hold its number, or
-- the reservation's width isn't 4 or 8 or doesn't divide its address.
unfoldable pub hart_from : HartState → Option ArchitecturalState
hart_from s =
    if (slice_index s.x 0 == 0) && (s.pc % 4 == 0) then hart_with s (file_from s.csr) (held_from s.held) else None
