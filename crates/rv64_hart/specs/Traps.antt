-- Traps: the exceptions, and how a hart enters one (privileged manual, "Supervisor Cause Register", and the registers sepc, stval,
-- stvec and sstatus).
use Rattle.std.specs.Prelude.{ℕ}
use Rattle.ras_bits.specs.declared.terms.Access.{Access}
use Rattle.ras_bits.specs.declared.terms.Access.TheVariants.{Fetch, Load, Store}
use Rattle.ras_bits.specs.declared.terms.Mode.TheVariants.{Supervisor}
use Rattle.rv64_csr.specs.Csrs.{trap_vector, entered}
use Rattle.rv64_hart.specs.declared.traps.Exception.{Exception}
use Rattle.rv64_hart.specs.declared.traps.Exception.TheVariants as exception
use Rattle.rv64_hart.specs.State.{ArchitecturalState}

-- the exception code
abbrev pub code_of : Exception → ℕ
code_of exception.InstructionAddressMisaligned = 0
code_of exception.InstructionAccessFault = 1
code_of exception.IllegalInstruction = 2
code_of exception.Breakpoint = 3
code_of exception.LoadAddressMisaligned = 4
code_of exception.LoadAccessFault = 5
code_of exception.StoreAddressMisaligned = 6
code_of exception.StoreAccessFault = 7
code_of exception.EnvironmentCallFromUser = 8
code_of exception.InstructionPageFault = 12
code_of exception.LoadPageFault = 13
code_of exception.StorePageFault = 15

-- the exception of an access that isn't aligned
abbrev pub misaligned : Access → Exception
misaligned Fetch = exception.InstructionAddressMisaligned
misaligned Load = exception.LoadAddressMisaligned
misaligned Store = exception.StoreAddressMisaligned

-- the exception of an access to an address that isn't in RAM
abbrev pub access_fault : Access → Exception
access_fault Fetch = exception.InstructionAccessFault
access_fault Load = exception.LoadAccessFault
access_fault Store = exception.StoreAccessFault

-- the exception of an access that no translation permits
abbrev pub page_fault : Access → Exception
page_fault Fetch = exception.InstructionPageFault
page_fault Load = exception.LoadPageFault
page_fault Store = exception.StorePageFault

-- The state after a trap was entered for this cause, with this value in stval: no instruction is retired, and no
-- register x changes.
abbrev pub trapped : ArchitecturalState → ℕ → ℕ → ArchitecturalState
trapped h cause tval = record h {
  pc = trap_vector h.csrs.stvec cause;
  mode = Supervisor;
  csrs = entered h.csrs cause tval h.pc h.mode;
}

-- an exception
abbrev pub raised : ArchitecturalState → Exception → ℕ → ArchitecturalState
raised h exception tval = trapped h (code_of exception) tval

-- an illegal instruction: stval has its 32 bits
abbrev pub illegal : ArchitecturalState → ℕ → ArchitecturalState
illegal h word = raised h exception.IllegalInstruction word
