-- What a hart keeps between two steps, and how parts of it change (unprivileged manual, "Programmers' Model for Base Integer ISA"
-- and "Zicntr"; privileged manual, "Supervisor-Level ISA"; a0 and a1 at the start: SBI 2.0, "Hart State Management Extension").
use Rattle.std.specs.Prelude.{ℕ, List, Bool, true, false, ◌&&◌, Option, Some, None, ◌+◌, ◌%◌, ◌^◌, ◌==◌, nat_le, nat_lt, if◌then◌else◌, slice_index, slice_set, replicate}
use Rattle.ras_bits.specs.declared.terms.Mode.{Mode}
use Rattle.ras_bits.specs.declared.terms.Mode.TheVariants.{Supervisor}
use Rattle.ras_bits.specs.Map.{word_address}
use Rattle.rv64_csr.specs.Csrs.{CsrFile, reset_file}
use Rattle.rv64_hart.specs.declared.reservation.Reservation.{Reservation}

-- The hart's number, whether it is started, its pc, the registers x0 to x31, its mode, its supervisor registers with the
-- timer and the number of retired instructions, and its reservation.
pub record ArchitecturalState : Type 0 where
  pub number : ℕ
  pub started : Bool
  pub pc : ℕ
  pub registers : List ℕ
  pub mode : Mode
  pub csrs : CsrFile
  pub reservation : Option Reservation

-- A hart that is stopped and that was never started: in S mode, with its number in a0 and 0 in all other registers, and
-- no reservation.
abbrev pub reset : ℕ → ℕ → ArchitecturalState
reset id entry = record {
  number = id;
  started = false;
  pc = entry;
  registers = slice_set (replicate 32 0) 10 id;
  mode = Supervisor;
  csrs = reset_file;
  reservation = None;
}

-- the value of register x i
abbrev pub register : ArchitecturalState → ℕ → ℕ
register h i = slice_index h.registers i

-- the state with this value in register x i; x0 stays 0
abbrev pub with_register : ArchitecturalState → ℕ → ℕ → ArchitecturalState
with_register h i value = record h { registers = if i == 0 then h.registers else slice_set h.registers i value }

-- the state with this pc
abbrev pub with_pc : ArchitecturalState → ℕ → ArchitecturalState
with_pc h pc = record h { pc = pc }

-- a sum of addresses or registers wraps at 2 ^ 64
abbrev pub add64 : ℕ → ℕ → ℕ
add64 a b = (a + b) % 2 ^ 64

-- the state at the next instruction
abbrev pub next_pc : ArchitecturalState → ArchitecturalState
next_pc h = with_pc h (add64 h.pc 4)

-- one instruction more is retired
abbrev pub retired : ArchitecturalState → ArchitecturalState
retired h = record h { csrs = record h.csrs { retired = add64 h.csrs.retired 1 } }

-- a result in a register, and the instruction is retired
abbrev pub computed : ArchitecturalState → ℕ → ℕ → ArchitecturalState
computed h rd result = with_register (next_pc (retired h)) rd result

-- nothing but that the instruction is retired
abbrev pub passed : ArchitecturalState → ArchitecturalState
passed h = next_pc (retired h)

-- ---- what other harts do to it

-- hart `id` as it is started at an address, with a value in a1
abbrev pub started_at : ℕ → ℕ → ℕ → ArchitecturalState
started_at id entry opaque = record (with_register (reset id entry) 11 opaque) { started = true }

-- the hart stopped; nothing else changes
abbrev pub stopped : ArchitecturalState → ArchitecturalState
stopped h = record h { started = false }

-- a software interrupt is pending: SSIP in sip is set
abbrev pub interrupted : ArchitecturalState → ArchitecturalState
interrupted h = record h { csrs = record h.csrs { ssip = true } }

-- the reserved bytes lie in word w
abbrev pub lies_in : Reservation → ℕ → Bool
lies_in r w = nat_le (word_address w) r.address && nat_lt r.address (word_address w + 8)

-- what is left of a reservation after another hart's store into word w
abbrev pub left_by_store : ℕ → Option Reservation → Option Reservation
left_by_store w None = None
left_by_store w (Some r) = if lies_in r w then None else Some r

-- the hart after another hart's store into word w
abbrev pub saw_store : ℕ → ArchitecturalState → ArchitecturalState
saw_store w h = record h { reservation = left_by_store w h.reservation }
