-- The register file and what its calls do (privileged manual, "Supervisor-Level ISA"; "Privilege and Global Interrupt-Enable
-- Stack", "Trap-Return Instructions", and stvec).
use Rattle.std.specs.Prelude.{◌≡◌, ℕ, ◌+◌, ◌-◌, ◌*◌, ◌/◌, ◌%◌, ◌^◌, ◌==◌, Bool, true, false, not, ◌&&◌, ◌||◌, nat_le, bit_and, List, [], ◌∷◌, Option, Some, None, if◌then◌else◌}
use Rattle.ras_bits.specs.declared.terms.Mode.{Mode}
use Rattle.ras_bits.specs.declared.terms.Mode.TheVariants.{User, Supervisor}
use Rattle.rv64_csr.specs.declared.table.Register.{Register}
use Rattle.rv64_csr.specs.declared.table.Register.TheVariants.{Sstatus, Sie, Stvec, Scounteren, Sscratch, Sepc, Scause, Stval, Sip, Satp, Cycle, Time, Instret}
use Rattle.rv64_csr.specs.declared.status.SupervisorStatus.{SupervisorStatus}
use Rattle.rv64_csr.specs.declared.interrupt.Interrupt.{Interrupt}
use Rattle.std.specs.Int.{from_bool}
use Rattle.ras_bits.specs.Bits.{has_bit}
use Rattle.rv64_csr.specs.Interrupt.{interrupt_number, by_priority, cause_of}
use Rattle.rv64_csr.specs.Table.{csr_row, csr_at, HasWritableBitsAlone, is_open_to, is_read_only}
use Rattle.rv64_csr.specs.Status.{sstatus_of, status_from}

-- what the registers hold; sip and the counters also depend on the step
pub record CsrFile : Type 0 where
  pub status : SupervisorStatus
  pub sie : ℕ
  pub stvec : ℕ
  pub scounteren : ℕ
  pub sscratch : ℕ
  pub sepc : ℕ
  pub scause : ℕ
  pub stval : ℕ
  pub ssip : Bool
  pub satp : ℕ
  pub timer : ℕ
  pub retired : ℕ

-- the file of a new hart: all zero, and no timer is set
abbrev pub reset_file : CsrFile
reset_file = record {
  status = record { sie = false; spie = false; spp = User; sum = false; mxr = false };
  sie = 0;
  stvec = 0;
  scounteren = 0;
  sscratch = 0;
  sepc = 0;
  scause = 0;
  stval = 0;
  ssip = false;
  satp = 0;
  timer = 2 ^ 64 - 1;
  retired = 0;
}

-- sip at a step: SSIP as it was written, STIP where the step is at least the timer, and SEIP 0
abbrev pub sip_of : CsrFile → ℕ → ℕ
sip_of file now = from_bool file.ssip * 2 ^ 1 + from_bool (nat_le file.timer now) * 2 ^ 5

-- what a register reads at a step
abbrev pub register_value : CsrFile → ℕ → Register → ℕ
register_value file now Sstatus = sstatus_of file.status
register_value file now Sie = file.sie
register_value file now Stvec = file.stvec
register_value file now Scounteren = file.scounteren
register_value file now Sscratch = file.sscratch
register_value file now Sepc = file.sepc
register_value file now Scause = file.scause
register_value file now Stval = file.stval
register_value file now Sip = sip_of file now
register_value file now Satp = file.satp
register_value file now Cycle = now
register_value file now Time = now
register_value file now Instret = file.retired

-- a value of satp whose MODE is Bare or Sv39
abbrev pub has_known_mode : ℕ → Bool
has_known_mode n = (n / 2 ^ 60 == 0) || (n / 2 ^ 60 == 8)

-- the file after these writable bits were put into a register; a satp of another mode changes nothing
abbrev pub register_written : CsrFile → Register → ℕ → CsrFile
register_written file Sstatus n = record file { status = status_from n }
register_written file Sie n = record file { sie = n }
register_written file Stvec n = record file { stvec = n }
register_written file Scounteren n = record file { scounteren = n }
register_written file Sscratch n = record file { sscratch = n }
register_written file Sepc n = record file { sepc = n }
register_written file Scause n = record file { scause = n }
register_written file Stval n = record file { stval = n }
register_written file Sip n = record file { ssip = has_bit n 1 }
register_written file Satp n = record file { satp = if has_known_mode n then n else file.satp }
register_written file Cycle n = file
register_written file Time n = file
register_written file Instret n = file

-- what a read of a register answers: none where it is absent, or not open to the mode
abbrev pub read_register : Option Register → CsrFile → Mode → ℕ → Option ℕ
read_register None file mode now = None
read_register (Some register) file mode now =
    if is_open_to (csr_row register).permission mode file.scounteren then Some (register_value file now register) else None

-- what a read of a number answers
abbrev pub read_of : CsrFile → ℕ → Mode → ℕ → Option ℕ
read_of file number mode now = read_register (csr_at number) file mode now

-- the answer of a write, and the file after it
pub record Written : Type 0 where
  pub answer : Bool
  pub after : CsrFile

-- a write of a register: false and no change where it is absent, not open to the mode, or read-only
abbrev pub write_register : Option Register → CsrFile → Mode → ℕ → Written
write_register None file mode n = record { answer = false; after = file }
write_register (Some register) file mode n =
    if is_open_to (csr_row register).permission mode file.scounteren && not (is_read_only (csr_row register).permission)
    then record { answer = true; after = register_written file register (bit_and n (csr_row register).writable) }
    else record { answer = false; after = file }

-- a write of a number
abbrev pub write_of : CsrFile → ℕ → Mode → ℕ → Written
write_of file number mode n = write_register (csr_at number) file mode n

-- bit 63 of scause
abbrev pub is_interrupt : ℕ → Bool
is_interrupt cause = has_bit cause 63

-- MODE of stvec, bit 0
abbrev pub is_vectored : ℕ → Bool
is_vectored stvec = has_bit stvec 0

-- where a trap goes: the base of stvec, and for a vectored interrupt 4 bytes on for each number, modulo 2^64
abbrev pub trap_vector : ℕ → ℕ → ℕ
trap_vector stvec cause =
    let base = stvec / 4 * 4 in
    if is_vectored stvec && is_interrupt cause then (base + 4 * (cause % 2 ^ 63)) % 2 ^ 64 else base

-- the file after a trap was entered from this mode
abbrev pub entered : CsrFile → ℕ → ℕ → ℕ → Mode → CsrFile
entered file cause tval pc mode = record file {
  status = record file.status { spie = file.status.sie; sie = false; spp = mode };
  sepc = bit_and pc (csr_row Sepc).writable;
  scause = cause;
  stval = tval;
}

-- the file after SRET
abbrev pub returned : CsrFile → CsrFile
returned file = record file { status = record file.status { sie = file.status.spie; spie = true; spp = User } }

-- interrupts are taken in U mode, and in S mode where SIE is set
abbrev pub takes_interrupts : SupervisorStatus → Mode → Bool
takes_interrupts status User = true
takes_interrupts status Supervisor = status.sie

-- the interrupt's bits in sie and in sip are set
abbrev pub is_waiting : CsrFile → ℕ → Interrupt → Bool
is_waiting file now interrupt = has_bit file.sie (interrupt_number interrupt) && has_bit (sip_of file now) (interrupt_number interrupt)

-- the cause of the first of these interrupts for which the test holds
abbrev pub first_cause : (Interrupt → Bool) → List Interrupt → Option ℕ
first_cause test [] = None
first_cause test (interrupt ∷ interrupts) = if test interrupt then Some (cause_of interrupt) else first_cause test interrupts

-- the cause of the interrupt that is taken at a step in this mode
abbrev pub pending_of : CsrFile → ℕ → Mode → Option ℕ
pending_of file now mode = if takes_interrupts file.status mode then first_cause (is_waiting file now) by_priority else None

-- the values that the registers can hold
pub record IsFileHeld (sie_held stvec_held scounteren_held sepc_held satp_held : ℕ) : Type 0 where
  pub sie : HasWritableBitsAlone Sie sie_held
  pub stvec : HasWritableBitsAlone Stvec stvec_held
  pub scounteren : HasWritableBitsAlone Scounteren scounteren_held
  pub sepc : HasWritableBitsAlone Sepc sepc_held
  pub satp : has_known_mode satp_held ≡ true

-- a file whose registers hold what they can
abbrev pub IsFile : CsrFile → Type 0
IsFile file = IsFileHeld file.sie file.stvec file.scounteren file.sepc file.satp
