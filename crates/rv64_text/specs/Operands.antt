-- The operands of an instruction's text (this project's text, after the unprivileged manual, "RV32/64G Instruction Set
-- Listings").
use Rattle.std.specs.Prelude.{ℕ, ℤ, pos, ◌+ℤ◌, ◌^◌, ◌<◌, nat_lt, unsigned_abs, if◌then◌else◌, List, [], ◌∷◌, ◌++◌, codes, decimal}
use Rattle.std.specs.Fmt.{signed_decimal}
use Rattle.std.specs.Int.{int_rem_euclid}
use Rattle.ras_numbers.specs.Numbers.{hex_text, address_text}
use Rattle.rv64_decode.specs.declared.instr.CsrOp.{CsrOp}
use Rattle.rv64_decode.specs.declared.instr.CsrOp.TheVariants as csr
use Rattle.rv64_decode.specs.declared.instr.Instr.{Instr}
use Rattle.rv64_decode.specs.declared.instr.Instr.TheVariants.{Lui, Auipc, Jal, Jalr, Branch, Load, Store, AluImm, AluWImm, Alu, AluW, Mul, Fence, FenceI, Ecall, Ebreak, Sret, Wfi, SfenceVma, Csr, LoadReserved, StoreCond, Amo, Illegal}
use Rattle.rv64_text.specs.declared.operands.Operand.{Operand}
use Rattle.rv64_text.specs.declared.operands.Operand.TheVariants.{Register, Immediate, Offset, Base, Upper, CsrNumber, CsrImmediate, Address, Word}
use Rattle.rv64_text.specs.Names.{register_name}

-- as many hexadecimal digits as a number below 2 ^ 20 needs
abbrev pub digits_needed : ℕ → ℕ
digits_needed n =
    if nat_lt n (16 ^ 1) then 1
    else if nat_lt n (16 ^ 2) then 2
    else if nat_lt n (16 ^ 3) then 3
    else if nat_lt n (16 ^ 4) then 4
    else 5

-- the text of an operand
abbrev pub operand_text : Operand → List ℕ
operand_text (Register n) = register_name n
operand_text (Immediate imm) = signed_decimal imm
operand_text (Offset imm base) = signed_decimal imm ++ codes "(" ++ register_name base ++ codes ")"
operand_text (Base base) = codes "(" ++ register_name base ++ codes ")"
operand_text (Upper imm) = codes "0x" ++ hex_text (digits_needed imm) imm
operand_text (CsrNumber n) = codes "0x" ++ hex_text 3 n
operand_text (CsrImmediate n) = decimal n
operand_text (Address n) = address_text n
operand_text (Word n) = codes "0x" ++ hex_text 8 n

-- the operands that have a text
abbrev pub IsOperand : Operand → Type 0
IsOperand (Register n) = n < 32
IsOperand (Immediate imm) = Unit {0}
IsOperand (Offset imm base) = base < 32
IsOperand (Base base) = base < 32
IsOperand (Upper imm) = imm < 2 ^ 20
IsOperand (CsrNumber n) = n < 2 ^ 12
IsOperand (CsrImmediate n) = n < 32
IsOperand (Address n) = Unit {0}
IsOperand (Word n) = Unit {0}

-- where a jump or a branch goes: the pc plus the offset, modulo 2 ^ 64
abbrev pub target : ℕ → ℤ → ℕ
target pc off = unsigned_abs (int_rem_euclid (pos pc +ℤ off) (pos (2 ^ 64)))

-- a register, or the immediate of the forms that have one
abbrev pub csr_source : CsrOp → ℕ → Operand
csr_source csr.Rw src = Register src
csr_source csr.Rs src = Register src
csr_source csr.Rc src = Register src
csr_source csr.Rwi src = CsrImmediate src
csr_source csr.Rsi src = CsrImmediate src
csr_source csr.Rci src = CsrImmediate src

-- the operands of an instruction that stands at the pc, in order
abbrev pub operands : Instr → ℕ → List Operand
operands (Lui rd imm) pc = Register rd ∷ Upper imm ∷ []
operands (Auipc rd imm) pc = Register rd ∷ Upper imm ∷ []
operands (Jal rd off) pc = Register rd ∷ Address (target pc off) ∷ []
operands (Jalr rd rs1 imm) pc = Register rd ∷ Offset imm rs1 ∷ []
operands (Branch op rs1 rs2 off) pc = Register rs1 ∷ Register rs2 ∷ Address (target pc off) ∷ []
operands (Load op rd rs1 imm) pc = Register rd ∷ Offset imm rs1 ∷ []
operands (Store op rs1 rs2 imm) pc = Register rs2 ∷ Offset imm rs1 ∷ []
operands (AluImm op rd rs1 imm) pc = Register rd ∷ Register rs1 ∷ Immediate imm ∷ []
operands (AluWImm op rd rs1 imm) pc = Register rd ∷ Register rs1 ∷ Immediate imm ∷ []
operands (Alu op rd rs1 rs2) pc = Register rd ∷ Register rs1 ∷ Register rs2 ∷ []
operands (AluW op rd rs1 rs2) pc = Register rd ∷ Register rs1 ∷ Register rs2 ∷ []
operands (Mul op rd rs1 rs2) pc = Register rd ∷ Register rs1 ∷ Register rs2 ∷ []
operands (Fence rd rs1 imm) pc = []
operands (FenceI rd rs1 imm) pc = []
operands Ecall pc = []
operands Ebreak pc = []
operands Sret pc = []
operands Wfi pc = []
operands (SfenceVma rs1 rs2) pc = Register rs1 ∷ Register rs2 ∷ []
operands (Csr op rd csr src) pc = Register rd ∷ CsrNumber csr ∷ csr_source op src ∷ []
operands (LoadReserved wide aq rl rd rs1) pc = Register rd ∷ Base rs1 ∷ []
operands (StoreCond wide aq rl rd rs1 rs2) pc = Register rd ∷ Register rs2 ∷ Base rs1 ∷ []
operands (Amo op wide aq rl rd rs1 rs2) pc = Register rd ∷ Register rs2 ∷ Base rs1 ∷ []
operands (Illegal word) pc = Word word ∷ []
