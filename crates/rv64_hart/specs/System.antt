-- The instructions of supervisor registers and modes (unprivileged manual, chapter "Zicsr"; privileged manual, "Trap-Return
-- Instructions", "Wait for Interrupt" and "Supervisor Memory-Management Fence Instruction").
use Rattle.std.specs.Prelude.{ℕ, Bool, true, false, not, ◌||◌, ◌&&◌, ◌==◌, Option, Some, None, bit_and, bit_or, if◌then◌else◌}
use Rattle.std.specs.Int.{w64, bit_not}
use Rattle.ras_bits.specs.declared.terms.Mode.{Mode}
use Rattle.ras_bits.specs.declared.terms.Mode.TheVariants.{User, Supervisor}
use Rattle.rv64_csr.specs.Csrs.{CsrFile, Written, read_of, write_of, returned}
use Rattle.rv64_decode.specs.declared.instr.CsrOp.{CsrOp}
use Rattle.rv64_decode.specs.declared.instr.CsrOp.TheVariants.{Rw, Rs, Rc, Rwi, Rsi, Rci}
use Rattle.rv64_hart.specs.State.{ArchitecturalState, register, retired, computed, passed}
use Rattle.rv64_hart.specs.Traps.{illegal}

-- what an access to a supervisor register gives: its old value, and the registers after it
pub record CsrAccess : Type 0 where
  pub old : ℕ
  pub file : CsrFile

-- it writes the operand itself (CSRRW, CSRRWI), and doesn't set or clear bits
abbrev pub is_exchange : CsrOp → Bool
is_exchange Rw = true
is_exchange Rs = false
is_exchange Rc = false
is_exchange Rwi = true
is_exchange Rsi = false
is_exchange Rci = false

-- what is written: the operand, or the old value with the operand's bits set or clear
abbrev pub new_value : CsrOp → ℕ → ℕ → ℕ
new_value Rw old operand = operand
new_value Rs old operand = bit_or old operand
new_value Rc old operand = bit_and old (bit_not w64 operand)
new_value Rwi old operand = operand
new_value Rsi old operand = bit_or old operand
new_value Rci old operand = bit_and old (bit_not w64 operand)

-- the operand: the immediate, or the register of this number
abbrev pub csr_operand : ArchitecturalState → CsrOp → ℕ → ℕ
csr_operand h Rw src = register h src
csr_operand h Rs src = register h src
csr_operand h Rc src = register h src
csr_operand h Rwi src = src
csr_operand h Rsi src = src
csr_operand h Rci src = src

-- a write that was let in
abbrev pub access_permitted : ℕ → Written → Option CsrAccess
access_permitted old written = if written.answer then Some (record { old = old; file = written.after }) else None

-- after a read that was let in: bits are set or cleared only where the source isn't x0 or 0
abbrev pub after_csr_read : CsrFile → Mode → CsrOp → ℕ → ℕ → ℕ → Option ℕ → Option CsrAccess
after_csr_read file mode op number src operand None = None
after_csr_read file mode op number src operand (Some old) =
    if is_exchange op || not (src == 0) then access_permitted old (write_of file number mode (new_value op old operand))
    else Some (record { old = old; file = file })

-- an access to the register of a number; an exchange whose old value goes to x0 doesn't read; none where it isn't permitted
unfoldable pub csr_accessed : CsrFile → Mode → ℕ → CsrOp → ℕ → ℕ → ℕ → ℕ → Option CsrAccess
csr_accessed file mode now op rd number src operand =
    if is_exchange op && (rd == 0) then access_permitted 0 (write_of file number mode operand)
    else after_csr_read file mode op number src operand (read_of file number mode now)

-- the old value goes to a register
abbrev pub csr_answered : ArchitecturalState → ℕ → ℕ → Option CsrAccess → ArchitecturalState
csr_answered h word rd None = illegal h word
csr_answered h word rd (Some access) = computed (record h { csrs = access.file }) rd access.old

-- an instruction of supervisor registers
unfoldable pub csr_done : ArchitecturalState → ℕ → ℕ → CsrOp → ℕ → ℕ → ℕ → ArchitecturalState
csr_done h now word op rd number src =
    csr_answered h word rd (csr_accessed h.csrs h.mode now op rd number src (csr_operand h op src))

-- the state back in the mode and at the pc from before the trap
abbrev pub trap_left : ArchitecturalState → ArchitecturalState
trap_left h = record h { pc = h.csrs.sepc; mode = h.csrs.status.spp; csrs = returned h.csrs }

-- SRET: back to the mode and the pc from before the trap; illegal in U mode
abbrev pub returned_in : Mode → ArchitecturalState → ℕ → ArchitecturalState
returned_in User h word = illegal h word
returned_in Supervisor h word = retired (trap_left h)

-- SRET, which is illegal in U mode
unfoldable pub trap_returned : ArchitecturalState → ℕ → ArchitecturalState
trap_returned h word = returned_in h.mode h word

-- WFI and SFENCE.VMA do nothing, and are illegal in U mode
abbrev pub privileged_in : Mode → ArchitecturalState → ℕ → ArchitecturalState
privileged_in User h word = illegal h word
privileged_in Supervisor h word = passed h

-- an instruction of S mode that does nothing
unfoldable pub privileged : ArchitecturalState → ℕ → ArchitecturalState
privileged h word = privileged_in h.mode h word
