-- The interrupts of S mode (privileged manual, "Supervisor Interrupt Registers" and "Supervisor Cause Register").
use Rattle.std.specs.Prelude.{ℕ, ◌+◌, ◌^◌, List, [], ◌∷◌}
use Rattle.rv64_csr.specs.declared.interrupt.Interrupt.{Interrupt}
use Rattle.rv64_csr.specs.declared.interrupt.Interrupt.TheVariants.{External, Software, Timer}

-- the exception code of an interrupt, which is its bit in sie and sip
abbrev pub interrupt_number : Interrupt → ℕ
interrupt_number External = 9
interrupt_number Software = 1
interrupt_number Timer = 5

-- the interrupts in the order in which they are taken
abbrev pub by_priority : List Interrupt
by_priority = External ∷ Software ∷ Timer ∷ []

-- the value of scause for an interrupt: bit 63 and its code
abbrev pub cause_of : Interrupt → ℕ
cause_of interrupt = 2 ^ 63 + interrupt_number interrupt
