-- Loads, stores and atomic operations (unprivileged manual, "Load and Store Instructions" and chapter "A").
use Rattle.std.specs.Prelude.{ℕ, Bool, false, Option, Some, None, ◌==◌, ◌&&◌, if◌then◌else◌}
use Rattle.ras_bits.specs.declared.terms.Access.{Access}
use Rattle.ras_bits.specs.Map.{word_at}
use Rattle.poison_mem.specs.declared.cell.UseKind.{UseKind}
use Rattle.poison_mem.specs.Asking.{Asking, asked, ◌>>=◌}
use Rattle.rv64_decode.specs.declared.instr.LoadOp.{LoadOp}
use Rattle.rv64_decode.specs.declared.instr.LoadOp.TheVariants as load
use Rattle.rv64_decode.specs.declared.instr.StoreOp.{StoreOp}
use Rattle.rv64_decode.specs.declared.instr.StoreOp.TheVariants as store
use Rattle.rv64_alu.specs.Results.{amo_result}
use Rattle.rv64_hart.specs.declared.access.Width.{Width}
use Rattle.rv64_hart.specs.declared.access.Width.TheVariants.{Word, Doubleword}
use Rattle.rv64_hart.specs.declared.operation.Operation.{Operation}
use Rattle.rv64_hart.specs.declared.operation.Operation.TheVariants as operation
use Rattle.rv64_hart.specs.declared.operation.Exchange.{Exchange}
use Rattle.rv64_hart.specs.declared.reservation.Reservation.{Reservation}
use Rattle.rv64_hart.specs.State.{ArchitecturalState, computed, passed}
use Rattle.rv64_hart.specs.Traps.{misaligned, raised}
use Rattle.rv64_hart.specs.Access.{bytes_in, load_width, store_width, is_aligned, first_bit, load_result, store_mask, store_value}
use Rattle.rv64_hart.specs.Outcome.{Outcome, Store, went, went_with}
use Rattle.rv64_hart.specs.Translation.{Location, At, Refused, located}

-- the width of an atomic operation: .D is of a doubleword, .W of a word
abbrev pub atomic_width : Bool → Width
atomic_width wide = if wide then Doubleword else Word

-- its load, which extends the sign of a word
abbrev pub atomic_load : Bool → LoadOp
atomic_load wide = if wide then load.Ld else load.Lw

-- its store
abbrev pub atomic_store : Bool → StoreOp
atomic_store wide = if wide then store.Sd else store.Sw

-- how many bytes an operation takes
abbrev pub width_of : Operation → Width
width_of (operation.Load op rd) = load_width op
width_of (operation.Store op value) = store_width op
width_of (operation.LoadReserved wide rd) = atomic_width wide
width_of (operation.StoreConditional wide rd value) = atomic_width wide
width_of (operation.Atomic exchange) = atomic_width exchange.wide

-- LR is translated and refused as a load, SC and an atomic memory operation as a store
abbrev pub kind_of : Operation → Access
kind_of (operation.Load op rd) = Access.Load
kind_of (operation.Store op value) = Access.Store
kind_of (operation.LoadReserved wide rd) = Access.Load
kind_of (operation.StoreConditional wide rd value) = Access.Store
kind_of (operation.Atomic exchange) = Access.Store

-- the store of a value: its mask tells which bytes of its word change, and no word is asked for
abbrev pub store_of : StoreOp → ℕ → ℕ → Store
store_of op physical value =
    record { w = word_at physical; value = store_value physical value; mask = store_mask (store_width op) physical }

-- the hart holds a reservation of this physical address and width
abbrev pub is_reserved : Option Reservation → ℕ → Width → Bool
is_reserved None physical width = false
is_reserved (Some r) physical width = (r.address == physical) && (bytes_in r.width == bytes_in width)

-- a load: it asks for the one word that holds its bytes
unfoldable pub loaded : ArchitecturalState → LoadOp → ℕ → ℕ → Asking Outcome
loaded h op rd physical = do
  value ← asked (word_at physical) UseKind.Load
  went (computed h rd (load_result op value (first_bit physical)))

-- LR: it loads, and reserves the address
unfoldable pub reserved : ArchitecturalState → Bool → ℕ → ℕ → Asking Outcome
reserved h wide rd physical = do
  value ← asked (word_at physical) UseKind.Amo
  went (computed (record h { reservation = Some (record { address = physical; width = atomic_width wide }) }) rd
      (load_result (atomic_load wide) value (first_bit physical)))

-- SC: where the address is reserved it stores and gives 0, else it gives 1; either way no reservation is left
unfoldable pub conditionally_stored : ArchitecturalState → Bool → ℕ → ℕ → ℕ → Asking Outcome
conditionally_stored h wide rd value physical =
    let unreserved = record h { reservation = None } in
    if is_reserved h.reservation physical (atomic_width wide)
    then went_with (computed unreserved rd 0) (store_of (atomic_store wide) physical value)
    else went (computed unreserved rd 1)

-- an atomic memory operation: it gives the old value and stores the operation's
unfoldable pub exchanged : ArchitecturalState → Exchange → ℕ → Asking Outcome
exchanged h x physical = do
  value ← asked (word_at physical) UseKind.Amo
  let old = load_result (atomic_load x.wide) value (first_bit physical) in
      went_with (computed h x.rd old) (store_of (atomic_store x.wide) physical (amo_result x.op old x.operand x.wide))

-- an operation at a physical address
unfoldable pub performed : ArchitecturalState → Operation → ℕ → Asking Outcome
performed h (operation.Load op rd) physical = loaded h op rd physical
performed h (operation.Store op value) physical = went_with (passed h) (store_of op physical value)
performed h (operation.LoadReserved wide rd) physical = reserved h wide rd physical
performed h (operation.StoreConditional wide rd value) physical = conditionally_stored h wide rd value physical
performed h (operation.Atomic exchange) physical = exchanged h exchange physical

-- an operation at a virtual address, once it is known where it goes
abbrev pub performed_at : ArchitecturalState → Operation → ℕ → Location → Asking Outcome
performed_at h op address (At physical) = performed h op physical
performed_at h op address (Refused exception) = went (raised h exception address)

-- An operation at a virtual address: it is checked for alignment, then the address is translated, then checked for RAM.
unfoldable pub accessed : ℕ → ArchitecturalState → Operation → ℕ → Asking Outcome
accessed words h op address =
    if is_aligned (width_of op) address then (do
      location ← located words h (kind_of op) address
      performed_at h op address location)
    else went (raised h (misaligned (kind_of op)) address)
