-- A hart from its own numbers, and a software interrupt.
use Rattle.std.proofs.Common.{◌≡◌, ℕ, ◌%◌, Bool, true, List, Option, Some, None, refl, arith}
use Rattle.std.specs.Prelude.{◌==◌, ◌&&◌, slice_index, IfSome}
use Rattle.std.proofs.lemmas.Bool.Decides.{nat_tests}
use Rattle.ras_bits.specs.declared.terms.Mode.{Mode}
use Rattle.ras_bits.specs.declared.terms.Mode.TheVariants.{Supervisor}
use Rattle.rv64_csr.specs.declared.parts.CsrParts.{CsrParts}
use Rattle.rv64_csr.specs.Csrs.{CsrFile, write_of}
use Rattle.rv64_csr.specs.Table.{csr_at}
use Rattle.rv64_csr.specs.Parts.{file_from}
use Rattle.rv64_hart.specs.declared.access.Width.{Width}
use Rattle.rv64_hart.specs.declared.access.Width.TheVariants.{Byte, Halfword, Word, Doubleword}
use Rattle.rv64_hart.specs.declared.reservation.Reservation.{Reservation}
use Rattle.rv64_hart.specs.Access.{bytes_in, is_aligned}
use Rattle.rv64_hart.specs.Reservation.{is_reservable, is_reservation}
use Rattle.rv64_hart.specs.HartState.{held_of, held_from, hart_from}

-- a write of bit 1 of sip sets SSIP, and changes nothing else
pub interrupt_set : (file : CsrFile) → (write_of file 0x144 Supervisor 2).after ≡ record file { ssip = true }
unfolding csr_at
interrupt_set file = refl

width_back : (width : Width) (address : ℕ) → (is_reservable width && is_aligned width address) ≡ true
    → held_from (Some (address, bytes_in width)) ≡ Some (Some (record { address = address; width = width }))
width_back Byte address fits = cc
width_back Halfword address fits = cc
width_back Word address fits = rw fits refl
width_back Doubleword address fits = rw fits refl

held_back : (reservation : Option Reservation) → IfSome reservation (λ r. is_reservation r ≡ true) → held_from (held_of reservation) ≡ Some reservation
held_back None fits = refl
held_back (Some r) fits = width_back r.width r.address fits

zero_test : (n : ℕ) → n ≡ 0 → (n == 0) ≡ true
zero_test n is = grind (arith, nat_tests)

-- the numbers of a hart make that hart
pub hart_back : (number : ℕ) (started : Bool) (pc : ℕ) (registers : List ℕ) (mode : Mode) (csrs : CsrFile) (reservation : Option Reservation) (csr : CsrParts)
    → pc % 4 ≡ 0 → slice_index registers 0 ≡ 0 → IfSome reservation (λ r. is_reservation r ≡ true) → file_from csr ≡ Some csrs
    → hart_from (record { id = number; started = started; pc = pc; x = registers; mode = mode; csr = csr; held = held_of reservation })
    ≡ Some (record { number = number; started = started; pc = pc; registers = registers; mode = mode; csrs = csrs; reservation = reservation })
unfolding hart_from
hart_back number started pc registers mode csrs reservation csr aligned zero fits file =
    rw (zero_test (slice_index registers 0) zero, zero_test (pc % 4) aligned, file, held_back reservation fits) refl
