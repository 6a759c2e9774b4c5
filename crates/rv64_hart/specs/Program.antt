-- Words for contracts of private functions.
use Rattle.std.specs.Prelude.{◌≡◌, ◌≤◌, ◌<◌, ◌+◌, ◌^◌, ℕ, List, length, Option, Some, None, true, if◌then◌else◌}
use Rattle.ras_bits.specs.declared.terms.Access.{Access}
use Rattle.ras_bits.specs.declared.map.TheConstants.{RAM_START}
use Rattle.ras_bits.specs.Map.{is_ram, word_address}
use Rattle.poison_mem.specs.declared.cell.UseKind.{UseKind}
use Rattle.poison_mem.specs.Asking.{Played, Ended, Poisoned}
use Rattle.sbi_calls.specs.declared.error.SbiError.TheVariants.{InvalidParam}
use Rattle.sbi_calls.specs.declared.stop.GuestStop.{GuestStop}
use Rattle.rv64_decode.specs.declared.instr.Instr.{Instr}
use Rattle.rv64_decode.specs.declared.instr.Instr.TheVariants as instr
use Rattle.rv64_hart.specs.declared.ends.TurnEnd.{TurnEnd}
use Rattle.rv64_hart.specs.declared.ends.TurnEnd.TheVariants as ends
use Rattle.rv64_hart.specs.declared.ends.Effect.TheVariants.{Nothing}
use Rattle.rv64_hart.specs.declared.locate.Located.{Located}
use Rattle.rv64_hart.specs.declared.locate.Located.TheVariants as found
use Rattle.rv64_hart.specs.declared.operation.Operation.{Operation}
use Rattle.rv64_hart.specs.declared.operation.Operation.TheVariants as operation
use Rattle.rv64_hart.specs.Around.{Around}
use Rattle.rv64_hart.specs.State.{ArchitecturalState, next_pc}
use Rattle.rv64_hart.specs.Answers.{refused}
use Rattle.rv64_hart.specs.System.{CsrAccess}
use Rattle.rv64_hart.specs.Traps.{access_fault}
use Rattle.rv64_hart.specs.Translation.{Location, At, Refused}
use Rattle.rv64_hart.specs.Within.{IsInPage}

-- what a step is told is of its bus, there are few harts, and the place in the input can move to its end
pub record IsTold (there place : ℕ) (around : Around) : Type 0 where
  pub words : around.words ≡ there
  pub few : around.peers.harts ≤ 4
  pub fits : place + length around.input < 2 ^ 64

-- the instruction touches the hart alone: neither memory nor the firmware
abbrev pub IsAlone : Instr → Type 0
IsAlone instr.Ecall = ⊥
IsAlone (instr.Load op rd rs1 imm) = ⊥
IsAlone (instr.Store op rs1 rs2 imm) = ⊥
IsAlone (instr.LoadReserved wide aq rl rd rs1) = ⊥
IsAlone (instr.StoreCond wide aq rl rd rs1 rs2) = ⊥
IsAlone (instr.Amo op wide aq rl rd rs1 rs2) = ⊥
IsAlone _ = Unit {0}

-- the register that an operation gives its value to is there
abbrev pub HasRegister : Operation → Type 0
HasRegister (operation.Load op rd) = rd < 32
HasRegister (operation.Store op value) = Unit {0}
HasRegister (operation.LoadReserved wide rd) = rd < 32
HasRegister (operation.StoreConditional wide rd value) = rd < 32
HasRegister (operation.Atomic exchange) = exchange.rd < 32

-- the play of a translation that the program found to end so
abbrev pub located_end : {B L : Type 0} → Located → B → L → Played Location B L
located_end (found.At physical) b log = Ended (At physical) b log
located_end (found.Refused exception) b log = Ended (Refused exception) b log
located_end (found.Poisoned w) b log = Poisoned w UseKind.Walk b log

-- what was found is in RAM, at the address's offset in its page
abbrev pub IsFoundInPage : ℕ → ℕ → Located → Type 0
IsFoundInPage words address (found.At physical) = IsInPage words address (At physical)
IsFoundInPage words address _ = Unit {0}

-- what was found is in RAM
abbrev pub IsFoundInRam : ℕ → Located → Type 0
IsFoundInRam words (found.At physical) = is_ram words physical ≡ true
IsFoundInRam words _ = Unit {0}

-- what the program finds at a physical address
abbrev pub located_at : ℕ → Access → ℕ → Located
located_at words kind physical = if is_ram words physical then found.At physical else found.Refused (access_fault kind)

-- what an access to a supervisor register leaves: the old value and the registers after it; where it isn't permitted, nothing
-- changes
abbrev pub CsrEnds : Option CsrAccess → ArchitecturalState → ArchitecturalState → Option ℕ → Type 0
CsrEnds None before after answer = (answer ≡ None) × (after ≡ before)
CsrEnds (Some access) before after answer = (answer ≡ Some access.old) × (after ≡ record before { csrs = access.file })

-- what a reset leaves
abbrev pub ResetEnds : Option GuestStop → ArchitecturalState → ArchitecturalState → TurnEnd → Type 0
ResetEnds None before after answer = (answer ≡ ends.Went Nothing) × (after ≡ refused before InvalidParam)
ResetEnds (Some stop) before after answer = (answer ≡ ends.Stop stop) × (after ≡ next_pc before)

-- the play of reads that the program found to end so: with the bytes, or at a poisoned word
abbrev pub asked_end : {B L : Type 0} → Option ℕ → List ℕ → B → L → Played (List ℕ) B L
asked_end None bytes b log = Ended bytes b log
asked_end (Some w) bytes b log = Poisoned w UseKind.Sbi b log

-- there are no bytes, or all n bytes from the address on are in RAM
pub record IsTouched (words address n : ℕ) : Type 0 where
  pub starts : 0 < n → RAM_START ≤ address
  pub ends : 0 < n → address + n ≤ word_address words
