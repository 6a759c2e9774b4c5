-- What LR can reserve (unprivileged manual, "Load-Reserved/Store-Conditional Instructions").
use Rattle.std.specs.Prelude.{Bool, true, false, ◌&&◌}
use Rattle.rv64_hart.specs.declared.access.Width.{Width}
use Rattle.rv64_hart.specs.declared.access.Width.TheVariants.{Byte, Halfword, Word, Doubleword}
use Rattle.rv64_hart.specs.declared.reservation.Reservation.{Reservation}
use Rattle.rv64_hart.specs.Access.{is_aligned}

-- it reserves words and doublewords
abbrev pub is_reservable : Width → Bool
is_reservable Byte = false
is_reservable Halfword = false
is_reservable Word = true
is_reservable Doubleword = true

-- it reserves them at multiples of their width
abbrev pub is_reservation : Reservation → Bool
is_reservation r = is_reservable r.width && is_aligned r.width r.address
