-- The word of an instruction, and the range of its operands (unprivileged manual, "RV32/64G Instruction Set Listings"; privileged
-- manual for SRET, WFI and SFENCE.VMA).
use Rattle.std.specs.Prelude.{◌≡◌, ℕ, ℤ, pos, ◌+◌, ◌*◌, ◌/◌, ◌%◌, ◌^◌, ◌<◌, ◌⊎◌, Bool}
use Rattle.rv64_decode.specs.declared.fields.Fields.{Fields}
use Rattle.rv64_decode.specs.declared.instr.AluOp.{AluOp}
use Rattle.rv64_decode.specs.declared.instr.AluOp.TheVariants as alu
use Rattle.rv64_decode.specs.declared.instr.AluWOp.{AluWOp}
use Rattle.rv64_decode.specs.declared.instr.AluWOp.TheVariants as alu_w
use Rattle.rv64_decode.specs.declared.instr.Instr.{Instr}
use Rattle.rv64_decode.specs.declared.instr.Instr.TheVariants.{Lui, Auipc, Jal, Jalr, Branch, Load, Store, AluImm, AluWImm, Alu, AluW, Mul, Fence, FenceI, Ecall, Ebreak, Sret, Wfi, SfenceVma, Csr, LoadReserved, StoreCond, Amo, Illegal}
use Rattle.rv64_decode.specs.Immediates.{unsigned, FitsBits, upper_of_offset}
use Rattle.rv64_decode.specs.Table.{branch_funct3, load_funct3, store_funct3, csr_funct3, alu_functs, imm_functs, alu_w_functs, mul_functs, mul_opcode, ecall_funct12, ebreak_funct12, sret_funct12, wfi_funct12, amo_funct5}
use Rattle.std.specs.Int.{from_bool}
use Rattle.rv64_decode.specs.Fields.{fields_of, word_of_fields}
use Rattle.rv64_decode.specs.Decoding.{row}

-- ---- the range of the operands

-- the numbers of registers
abbrev pub AreRegisters : ℕ → ℕ → ℕ → Type 0
AreRegisters rd rs1 rs2 = (rd < 32) × (rs1 < 32) × (rs2 < 32)

-- a shift amount below this number
abbrev pub IsAmount : ℕ → ℤ → Type 0
IsAmount limit imm = (n : ℕ) × (imm ≡ pos n) × (n < limit)

-- an immediate of twelve bits, or a shift amount below 64; there is no subtraction of an immediate
abbrev pub IsImm : AluOp → ℤ → Type 0
IsImm alu.Sub imm = ⊥
IsImm alu.Sll imm = IsAmount 64 imm
IsImm alu.Srl imm = IsAmount 64 imm
IsImm alu.Sra imm = IsAmount 64 imm
IsImm alu.Add imm = FitsBits 12 imm
IsImm alu.Slt imm = FitsBits 12 imm
IsImm alu.Sltu imm = FitsBits 12 imm
IsImm alu.Xor imm = FitsBits 12 imm
IsImm alu.Or imm = FitsBits 12 imm
IsImm alu.And imm = FitsBits 12 imm

-- an immediate of twelve bits, or a shift amount below 32
abbrev pub IsImmW : AluWOp → ℤ → Type 0
IsImmW alu_w.Subw imm = ⊥
IsImmW alu_w.Addw imm = FitsBits 12 imm
IsImmW alu_w.Sllw imm = IsAmount 32 imm
IsImmW alu_w.Srlw imm = IsAmount 32 imm
IsImmW alu_w.Sraw imm = IsAmount 32 imm

-- an even offset of so many bits
abbrev pub IsOffset : ℕ → ℤ → Type 0
IsOffset bits off = FitsBits bits off × (unsigned bits off % 2 ≡ 0)

-- The operands are in the range of their row; of Illegal, no row fits the word.
abbrev pub OperandsInRange : Instr → Type 0
OperandsInRange (Lui rd imm) = (rd < 32) × (imm < 2 ^ 20)
OperandsInRange (Auipc rd imm) = (rd < 32) × (imm < 2 ^ 20)
OperandsInRange (Jal rd off) = (rd < 32) × IsOffset 21 off
OperandsInRange (Jalr rd rs1 imm) = AreRegisters rd rs1 0 × FitsBits 12 imm
OperandsInRange (Branch op rs1 rs2 off) = AreRegisters 0 rs1 rs2 × IsOffset 13 off
OperandsInRange (Load op rd rs1 imm) = AreRegisters rd rs1 0 × FitsBits 12 imm
OperandsInRange (Store op rs1 rs2 imm) = AreRegisters 0 rs1 rs2 × FitsBits 12 imm
OperandsInRange (AluImm op rd rs1 imm) = AreRegisters rd rs1 0 × IsImm op imm
OperandsInRange (AluWImm op rd rs1 imm) = AreRegisters rd rs1 0 × IsImmW op imm
OperandsInRange (Alu op rd rs1 rs2) = AreRegisters rd rs1 rs2
OperandsInRange (AluW op rd rs1 rs2) = AreRegisters rd rs1 rs2
OperandsInRange (Mul op rd rs1 rs2) = AreRegisters rd rs1 rs2
OperandsInRange (Fence rd rs1 imm) = AreRegisters rd rs1 0 × (imm < 2 ^ 12)
OperandsInRange (FenceI rd rs1 imm) = AreRegisters rd rs1 0 × (imm < 2 ^ 12)
OperandsInRange Ecall = Unit {0}
OperandsInRange Ebreak = Unit {0}
OperandsInRange Sret = Unit {0}
OperandsInRange Wfi = Unit {0}
OperandsInRange (SfenceVma rs1 rs2) = AreRegisters 0 rs1 rs2
OperandsInRange (Csr op rd csr src) = AreRegisters rd src 0 × (csr < 2 ^ 12)
OperandsInRange (LoadReserved wide aq rl rd rs1) = AreRegisters rd rs1 0
OperandsInRange (StoreCond wide aq rl rd rs1 rs2) = AreRegisters rd rs1 rs2
OperandsInRange (Amo op wide aq rl rd rs1 rs2) = AreRegisters rd rs1 rs2
OperandsInRange (Illegal word) = (word < 2 ^ 32) × (row word ≡ Illegal word)

-- ---- the fields of each format

-- the operands stand in fields of their own
abbrev pub r_format : ℕ → ℕ → ℕ → ℕ → ℕ → ℕ → Fields
r_format opcode rd funct3 rs1 rs2 funct7 = record { opcode = opcode; rd = rd; funct3 = funct3; rs1 = rs1; rs2 = rs2; funct7 = funct7 }

-- bits 31:20 are the immediate
abbrev pub i_format : ℕ → ℕ → ℕ → ℕ → ℕ → Fields
i_format opcode rd funct3 rs1 imm = r_format opcode rd funct3 rs1 (imm % 2 ^ 5) (imm / 2 ^ 5)

-- the immediate in bits 31:25 and 11:7
abbrev pub s_format : ℕ → ℕ → ℕ → ℕ → ℕ → Fields
s_format opcode funct3 rs1 rs2 imm = r_format opcode (imm % 2 ^ 5) funct3 rs1 rs2 (imm / 2 ^ 5)

-- the offset's bits 12, 10:5, 4:1 and 11, in bits 31:25 and 11:7
abbrev pub b_format : ℕ → ℕ → ℕ → ℕ → ℕ → Fields
b_format opcode funct3 rs1 rs2 off =
    r_format opcode (off / 2 % 2 ^ 4 * 2 + off / 2 ^ 11 % 2) funct3 rs1 rs2 (off / 2 ^ 12 * 2 ^ 6 + off / 2 ^ 5 % 2 ^ 6)

-- bits 31:12 are the immediate
abbrev pub u_format : ℕ → ℕ → ℕ → Fields
u_format opcode rd upper = r_format opcode rd (upper % 2 ^ 3) (upper / 2 ^ 3 % 2 ^ 5) (upper / 2 ^ 8 % 2 ^ 5) (upper / 2 ^ 13)

-- opcode 0x2F: bits 31:27, aq and rl above the registers, and the width in funct3
abbrev pub atomic_format : ℕ → Bool → Bool → Bool → ℕ → ℕ → ℕ → Fields
atomic_format number wide aq rl rd rs1 rs2 =
    r_format 0x2F rd (2 + from_bool wide) rs1 rs2 (number * 4 + from_bool aq * 2 + from_bool rl)

-- an instruction of the A extension
abbrev pub IsAtomic : Instr → Type 0
IsAtomic (LoadReserved wide aq rl rd rs1) = Unit {0}
IsAtomic (StoreCond wide aq rl rd rs1 rs2) = Unit {0}
IsAtomic (Amo op wide aq rl rd rs1 rs2) = Unit {0}
IsAtomic i = ⊥

-- the manual's listing: the fixed fields of each row, and where its operands stand
abbrev pub fields_for : Instr → Fields
fields_for (Lui rd imm) = u_format 0x37 rd imm
fields_for (Auipc rd imm) = u_format 0x17 rd imm
fields_for (Jal rd off) = u_format 0x6F rd (upper_of_offset (unsigned 21 off))
fields_for (Jalr rd rs1 imm) = i_format 0x67 rd 0 rs1 (unsigned 12 imm)
fields_for (Branch op rs1 rs2 off) = b_format 0x63 (branch_funct3 op) rs1 rs2 (unsigned 13 off)
fields_for (Load op rd rs1 imm) = i_format 0x03 rd (load_funct3 op) rs1 (unsigned 12 imm)
fields_for (Store op rs1 rs2 imm) = s_format 0x23 (store_funct3 op) rs1 rs2 (unsigned 12 imm)
fields_for (AluImm op rd rs1 imm) = i_format 0x13 rd (imm_functs op).1 rs1 ((imm_functs op).0 * 2 ^ 6 + unsigned 12 imm)
fields_for (AluWImm op rd rs1 imm) = i_format 0x1B rd (alu_w_functs op).1 rs1 ((alu_w_functs op).0 * 2 ^ 5 + unsigned 12 imm)
fields_for (Alu op rd rs1 rs2) = r_format 0x33 rd (alu_functs op).1 rs1 rs2 (alu_functs op).0
fields_for (AluW op rd rs1 rs2) = r_format 0x3B rd (alu_w_functs op).1 rs1 rs2 (alu_w_functs op).0
fields_for (Mul op rd rs1 rs2) = r_format (mul_opcode op) rd (mul_functs op).1 rs1 rs2 (mul_functs op).0
fields_for (Fence rd rs1 imm) = i_format 0x0F rd 0 rs1 imm
fields_for (FenceI rd rs1 imm) = i_format 0x0F rd 1 rs1 imm
fields_for Ecall = i_format 0x73 0 0 0 ecall_funct12
fields_for Ebreak = i_format 0x73 0 0 0 ebreak_funct12
fields_for Sret = i_format 0x73 0 0 0 sret_funct12
fields_for Wfi = i_format 0x73 0 0 0 wfi_funct12
fields_for (SfenceVma rs1 rs2) = r_format 0x73 0 0 rs1 rs2 0x09
fields_for (Csr op rd csr src) = i_format 0x73 rd (csr_funct3 op) src csr
fields_for (LoadReserved wide aq rl rd rs1) = atomic_format 0x02 wide aq rl rd rs1 0
fields_for (StoreCond wide aq rl rd rs1 rs2) = atomic_format 0x03 wide aq rl rd rs1 rs2
fields_for (Amo op wide aq rl rd rs1 rs2) = atomic_format (amo_funct5 op) wide aq rl rd rs1 rs2
fields_for (Illegal word) = fields_of word

-- the word of an instruction
abbrev pub encoding : Instr → ℕ
encoding i = word_of_fields (fields_for i)

-- ---- which row a word fits

-- an instruction of a row, and not Illegal
abbrev pub IsRow : Instr → Type 0
IsRow (Illegal word) = ⊥
IsRow i = Unit {0}

-- the word fits a row with these operands
pub record FitsRow (word : ℕ) (i : Instr) : Type 0 where
  pub is_row : IsRow i
  pub operands : OperandsInRange i
  pub word_is : encoding i ≡ word

-- i is the one row that the word fits, or no row fits it and i is Illegal with the word
abbrev pub IsItsRow : ℕ → Instr → Type 0
IsItsRow word i =
    (FitsRow word i × ((j : Instr) → FitsRow word j → j ≡ i))
    ⊎ ((i ≡ Illegal word) × ((j : Instr) → FitsRow word j → ⊥))
