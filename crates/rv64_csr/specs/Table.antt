-- The table of registers: number, writable bits, and who may use it (privileged manual, "CSR Listing"; "CSR Address Mapping
-- Conventions" and "Supervisor CSRs").
use Rattle.std.specs.Prelude.{◌≡◌, ℕ, ◌-◌, ◌^◌, ◌==◌, not, bit_and, Bool, true, false, List, [], ◌∷◌, Option}
use Rattle.std.specs.List.{find}
use Rattle.ras_bits.specs.declared.terms.Mode.{Mode}
use Rattle.ras_bits.specs.declared.terms.Mode.TheVariants.{User, Supervisor}
use Rattle.rv64_csr.specs.declared.table.Register.{Register}
use Rattle.rv64_csr.specs.declared.table.Register.TheVariants.{Sstatus, Sie, Stvec, Scounteren, Sscratch, Sepc, Scause, Stval, Sip, Satp, Cycle, Time, Instret}
use Rattle.rv64_csr.specs.declared.table.Permission.{Permission}
use Rattle.rv64_csr.specs.declared.table.Permission.TheVariants.{SupervisorOnly, Counter}
use Rattle.rv64_csr.specs.declared.table.Row.{Row}

-- a register of S mode alone
abbrev pub supervisor : ℕ → ℕ → Row
supervisor number writable = record { number = number; writable = writable; permission = SupervisorOnly }

-- a read-only counter that these bits of scounteren open to user mode
abbrev pub counter : ℕ → ℕ → Row
counter number opens = record { number = number; writable = 0; permission = Counter opens }

-- the row of a register
abbrev pub csr_row : Register → Row
csr_row Sstatus = supervisor 0x100 0xC_0122
csr_row Sie = supervisor 0x104 0x222
csr_row Stvec = supervisor 0x105 (2 ^ 64 - 3)
csr_row Scounteren = supervisor 0x106 7
csr_row Sscratch = supervisor 0x140 (2 ^ 64 - 1)
csr_row Sepc = supervisor 0x141 (2 ^ 64 - 4)
csr_row Scause = supervisor 0x142 (2 ^ 64 - 1)
csr_row Stval = supervisor 0x143 (2 ^ 64 - 1)
csr_row Sip = supervisor 0x144 2
csr_row Satp = supervisor 0x180 (2 ^ 64 - 1)
csr_row Cycle = counter 0xC00 1
csr_row Time = counter 0xC01 2
csr_row Instret = counter 0xC02 4

-- all registers
abbrev pub registers : List Register
registers = Sstatus ∷ Sie ∷ Stvec ∷ Scounteren ∷ Sscratch ∷ Sepc ∷ Scause ∷ Stval ∷ Sip ∷ Satp ∷ Cycle ∷ Time ∷ Instret ∷ []

-- the register of a number
unfoldable pub csr_at : ℕ → Option Register
csr_at number = find (λ register. (csr_row register).number == number) registers

-- the register can hold this value: it has no other bits than the writable ones
abbrev pub HasWritableBitsAlone : Register → ℕ → Type 0
HasWritableBitsAlone register n = bit_and n (csr_row register).writable ≡ n

-- the same as a test
abbrev pub holds : Register → ℕ → Bool
holds register n = bit_and n (csr_row register).writable == n

-- a hart in this mode may use the register: S mode each, U mode the counters that scounteren opens
abbrev pub is_open_to : Permission → Mode → ℕ → Bool
is_open_to permission Supervisor scounteren = true
is_open_to SupervisorOnly User scounteren = false
is_open_to (Counter opens) User scounteren = not (bit_and scounteren opens == 0)

-- the counters are read-only
abbrev pub is_read_only : Permission → Bool
is_read_only SupervisorOnly = false
is_read_only (Counter opens) = true
