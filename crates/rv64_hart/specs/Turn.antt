-- One turn of a hart: what it asks for and what it comes to (unprivileged manual, chapters "RV32I", "RV64I", "Zifencei", "Zicsr",
-- "M" and "A"; privileged manual).
use Rattle.std.specs.Prelude.{ℕ, ℤ, Bool, true, false, List, Option, Some, None, ◌*◌, ◌/◌, ◌%◌, ◌^◌, ◌==◌, if◌then◌else◌}
use Rattle.std.specs.Int.{w64, cast_unsigned}
use Rattle.ras_bits.specs.Fields.{sign_extended}
use Rattle.ras_bits.specs.Map.{word_at}
use Rattle.ras_bits.specs.declared.terms.Access.{Access}
use Rattle.ras_bits.specs.declared.terms.Mode.{Mode}
use Rattle.ras_bits.specs.declared.terms.Mode.TheVariants.{User, Supervisor}
use Rattle.poison_mem.specs.declared.cell.UseKind.{UseKind}
use Rattle.poison_mem.specs.Asking.{Asking, asked, follow, ◌>>=◌}
use Rattle.rv64_csr.specs.Csrs.{pending_of}
use Rattle.rv64_decode.specs.declared.instr.Instr.{Instr}
use Rattle.rv64_decode.specs.declared.instr.Instr.TheVariants as instr
use Rattle.rv64_decode.specs.Decoding.{row}
use Rattle.rv64_alu.specs.Results.{alu_result, alu_w_result, mul_result, branch_taken}
use Rattle.rv64_hart.specs.Around.{Around}
use Rattle.rv64_hart.specs.State.{ArchitecturalState, register, with_register, with_pc, add64, retired, computed, passed}
use Rattle.rv64_hart.specs.Traps.{trapped, raised, illegal}
use Rattle.rv64_hart.specs.Access.{instruction_at}
use Rattle.rv64_hart.specs.Outcome.{Outcome, went}
use Rattle.rv64_hart.specs.Translation.{Location, At, Refused, located}
use Rattle.rv64_hart.specs.Operations.{accessed}
use Rattle.rv64_hart.specs.System.{csr_done, trap_returned, privileged}
use Rattle.rv64_hart.specs.Firmware.{firmware_called}
use Rattle.rv64_hart.specs.declared.operation.Operation.TheVariants as operation
use Rattle.rv64_hart.specs.declared.traps.Exception.TheVariants as exception

-- ---- operands

-- a signed immediate as a number modulo 2 ^ 64
abbrev pub immediate : ℤ → ℕ
immediate imm = cast_unsigned w64 imm

-- a number and a signed offset add modulo 2 ^ 64
abbrev pub offset_by : ℕ → ℤ → ℕ
offset_by a off = add64 a (immediate off)

-- an immediate of bits 31:12, with its sign extended
abbrev pub upper : ℕ → ℕ
upper imm = sign_extended (imm * 2 ^ 12) 32

-- an address with bit 0 cleared
abbrev pub even : ℕ → ℕ
even address = address / 2 * 2

-- ---- jumps and branches

-- a jump that leaves the next address in a register; a target that isn't a multiple of 4 is an exception at the jump
unfoldable pub jumped : ArchitecturalState → ℕ → ℕ → ArchitecturalState
jumped h rd target =
    if target % 4 == 0 then with_register (with_pc (retired h) target) rd (add64 h.pc 4)
    else raised h exception.InstructionAddressMisaligned target

-- a branch, taken or not
unfoldable pub branched : ArchitecturalState → Bool → ℕ → ArchitecturalState
branched h taken target =
    if taken
    then (if target % 4 == 0 then with_pc (retired h) target else raised h exception.InstructionAddressMisaligned target)
    else passed h

-- ---- every instruction

-- an environment call: from U mode a trap, from S mode a call to the firmware
abbrev pub called_in : Mode → Around → ArchitecturalState → Asking Outcome
called_in User around h = went (raised h exception.EnvironmentCallFromUser 0)
called_in Supervisor around h = firmware_called around h

-- ECALL: a firmware call from S mode, an exception from U mode
unfoldable pub called : Around → ArchitecturalState → Asking Outcome
called around h = called_in h.mode around h

-- An instruction, of this word (unprivileged manual, chapters "RV32I", "RV64I", "Zifencei", "Zicsr", "M" and "A"; privileged manual
-- for SRET, WFI and SFENCE.VMA). The fences do nothing.
unfoldable pub executed : Around → ArchitecturalState → ℕ → Instr → Asking Outcome
executed around h word (instr.Lui rd imm) = went (computed h rd (upper imm))
executed around h word (instr.Auipc rd imm) = went (computed h rd (add64 h.pc (upper imm)))
executed around h word (instr.Jal rd off) = went (jumped h rd (offset_by h.pc off))
executed around h word (instr.Jalr rd rs1 imm) = went (jumped h rd (even (offset_by (register h rs1) imm)))
executed around h word (instr.Branch op rs1 rs2 off) = went (branched h (branch_taken op (register h rs1) (register h rs2)) (offset_by h.pc off))
executed around h word (instr.Load op rd rs1 imm) = accessed around.words h (operation.Load op rd) (offset_by (register h rs1) imm)
executed around h word (instr.Store op rs1 rs2 imm) = accessed around.words h (operation.Store op (register h rs2)) (offset_by (register h rs1) imm)
executed around h word (instr.AluImm op rd rs1 imm) = went (computed h rd (alu_result op (register h rs1) (immediate imm)))
executed around h word (instr.AluWImm op rd rs1 imm) = went (computed h rd (alu_w_result op (register h rs1) (immediate imm)))
executed around h word (instr.Alu op rd rs1 rs2) = went (computed h rd (alu_result op (register h rs1) (register h rs2)))
executed around h word (instr.AluW op rd rs1 rs2) = went (computed h rd (alu_w_result op (register h rs1) (register h rs2)))
executed around h word (instr.Mul op rd rs1 rs2) = went (computed h rd (mul_result op (register h rs1) (register h rs2)))
executed around h word (instr.Fence rd rs1 imm) = went (passed h)
executed around h word (instr.FenceI rd rs1 imm) = went (passed h)
executed around h word instr.Ecall = called around h
executed around h word instr.Ebreak = went (raised h exception.Breakpoint h.pc)
executed around h word instr.Sret = went (trap_returned h word)
executed around h word instr.Wfi = went (privileged h word)
executed around h word (instr.SfenceVma rs1 rs2) = went (privileged h word)
executed around h word (instr.Csr op rd csr src) = went (csr_done h around.now word op rd csr src)
executed around h word (instr.LoadReserved wide aq rl rd rs1) = accessed around.words h (operation.LoadReserved wide rd) (register h rs1)
executed around h word (instr.StoreCond wide aq rl rd rs1 rs2) = accessed around.words h (operation.StoreConditional wide rd (register h rs2)) (register h rs1)
executed around h word (instr.Amo op wide aq rl rd rs1 rs2) = accessed around.words h (operation.Atomic (record { op = op; wide = wide; rd = rd; operand = register h rs2 })) (register h rs1)
executed around h word (instr.Illegal x) = went (illegal h word)

-- the instruction of a word
unfoldable pub executed_word : Around → ArchitecturalState → ℕ → Asking Outcome
executed_word around h word = executed around h word (row word)

-- the fetch of the word at the pc, once it is known where it goes
unfoldable pub fetched_at : Around → ArchitecturalState → Location → Asking Outcome
fetched_at around h (Refused exception) = went (raised h exception h.pc)
fetched_at around h (At physical) = do
  value ← asked (word_at physical) UseKind.Fetch
  executed_word around h (instruction_at h.pc value)

-- a turn in which no interrupt is taken
unfoldable pub instruction_turn : Around → ArchitecturalState → Asking Outcome
instruction_turn around h = do
  location ← located around.words h Access.Fetch h.pc
  fetched_at around h location

-- a turn, by whether the hart is started and by the interrupt that is taken; its stval is 0
abbrev pub turn_by : Bool → Option ℕ → Around → ArchitecturalState → Asking Outcome
turn_by false interrupt around h = went h
turn_by true (Some cause) around h = went (trapped h cause 0)
turn_by true None around h = instruction_turn around h

-- One turn of a hart: a stopped one does nothing; else a pending interrupt is entered, or the instruction at the pc is fetched and
-- done.
unfoldable pub turn : Around → ArchitecturalState → Asking Outcome
turn around h = turn_by h.started (pending_of h.csrs around.now h.mode) around h

-- what the turn asks for next, or what it comes to, after these replies
abbrev pub turn_after : Around → ArchitecturalState → List ℕ → Asking Outcome
turn_after around h replies = follow (turn around h) replies
