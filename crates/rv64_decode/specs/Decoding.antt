-- The instruction of a word: the row of the manual's listings that the word fits, with its operands (unprivileged manual,
-- "RV32/64G Instruction Set Listings"; privileged manual for SRET, WFI and SFENCE.VMA).
use Rattle.std.specs.Prelude.{ℕ, pos, ◌/◌, ◌%◌, ◌^◌, ◌==◌, ◌&&◌, Bool, List, [], ◌∷◌, Option, Some, None, option_map, option_and_then, if◌then◌else◌}
use Rattle.std.specs.Option.{option_or, unwrap_or}
use Rattle.std.specs.Map.{lookup}
use Rattle.rv64_decode.specs.declared.fields.Fields.{Fields}
use Rattle.rv64_decode.specs.declared.instr.Instr.{Instr}
use Rattle.rv64_decode.specs.declared.instr.Instr.TheVariants.{Lui, Auipc, Jal, Jalr, Branch, Load, Store, AluImm, AluWImm, Alu, AluW, Mul, Fence, FenceI, Ecall, Ebreak, Sret, Wfi, SfenceVma, Csr, LoadReserved, StoreCond, Amo, Illegal}
use Rattle.rv64_decode.specs.declared.instr.AluWOp.TheVariants.{Addw}
use Rattle.rv64_decode.specs.Fields.{fields_of}
use Rattle.ras_bits.specs.Bits.{signed}
use Rattle.rv64_decode.specs.Immediates.{imm_i, imm_s, imm_b, imm_u, imm_j}
use Rattle.rv64_decode.specs.Table.{op_at, op_at_both, branch_funct3, branch_ops, load_funct3, load_ops, store_funct3, store_ops, csr_funct3, csr_ops, alu_functs, alu_ops, imm_functs, imm_funct3, imm_ops, shift_ops, alu_w_functs, alu_w_ops, shift_w_ops, mul_functs, mul_ops, mul_w_ops, ecall_funct12, ebreak_funct12, sret_funct12, wfi_funct12, amo_funct5, amo_ops}

-- this answer, where the test holds
abbrev pub when : {X : Type 0} → Bool → Option X → Option X
when b o = if b then o else None

-- opcode 0x37
unfoldable pub lui_row : Fields → Option Instr
lui_row f = Some (Lui f.rd (imm_u f))

-- opcode 0x17
unfoldable pub auipc_row : Fields → Option Instr
auipc_row f = Some (Auipc f.rd (imm_u f))

-- opcode 0x6F
unfoldable pub jal_row : Fields → Option Instr
jal_row f = Some (Jal f.rd (signed 21 (imm_j f)))

-- opcode 0x67
unfoldable pub jalr_row : Fields → Option Instr
jalr_row f = when (f.funct3 == 0) (Some (Jalr f.rd f.rs1 (signed 12 (imm_i f))))

-- opcode 0x63
unfoldable pub branch_row : Fields → Option Instr
branch_row f = option_map (λ op. Branch op f.rs1 f.rs2 (signed 13 (imm_b f))) (op_at branch_funct3 branch_ops f.funct3)

-- opcode 0x03
unfoldable pub load_row : Fields → Option Instr
load_row f = option_map (λ op. Load op f.rd f.rs1 (signed 12 (imm_i f))) (op_at load_funct3 load_ops f.funct3)

-- opcode 0x23
unfoldable pub store_row : Fields → Option Instr
store_row f = option_map (λ op. Store op f.rs1 f.rs2 (signed 12 (imm_s f))) (op_at store_funct3 store_ops f.funct3)

-- opcode 0x13: a shift amount of six bits takes the lowest bit of funct7, so bits 31:26 tell the shift
unfoldable pub alu_imm_row : Fields → Option Instr
alu_imm_row f =
    option_or
    (option_map (λ op. AluImm op f.rd f.rs1 (signed 12 (imm_i f))) (op_at imm_funct3 imm_ops f.funct3))
    (option_map (λ op. AluImm op f.rd f.rs1 (pos (imm_i f % 2 ^ 6))) (op_at_both imm_functs shift_ops (f.funct7 / 2) f.funct3))

-- opcode 0x1B: a shift amount of five bits stands in the bits of rs2
unfoldable pub alu_w_imm_row : Fields → Option Instr
alu_w_imm_row f =
    option_or
    (when (f.funct3 == 0) (Some (AluWImm Addw f.rd f.rs1 (signed 12 (imm_i f)))))
    (option_map (λ op. AluWImm op f.rd f.rs1 (pos f.rs2)) (op_at_both alu_w_functs shift_w_ops f.funct7 f.funct3))

-- opcode 0x33
unfoldable pub alu_row : Fields → Option Instr
alu_row f =
    option_or
    (option_map (λ op. Alu op f.rd f.rs1 f.rs2) (op_at_both alu_functs alu_ops f.funct7 f.funct3))
    (option_map (λ op. Mul op f.rd f.rs1 f.rs2) (op_at_both mul_functs mul_ops f.funct7 f.funct3))

-- opcode 0x3B
unfoldable pub alu_w_row : Fields → Option Instr
alu_w_row f =
    option_or
    (option_map (λ op. AluW op f.rd f.rs1 f.rs2) (op_at_both alu_w_functs alu_w_ops f.funct7 f.funct3))
    (option_map (λ op. Mul op f.rd f.rs1 f.rs2) (op_at_both mul_functs mul_w_ops f.funct7 f.funct3))

-- opcode 0x0F: all other fields are free
unfoldable pub fence_row : Fields → Option Instr
fence_row f =
    option_or
    (when (f.funct3 == 0) (Some (Fence f.rd f.rs1 (imm_i f))))
    (when (f.funct3 == 1) (Some (FenceI f.rd f.rs1 (imm_i f))))

-- the whole words, by bits 31:20, where all other fields are 0
abbrev pub calls : List (ℕ × Instr)
calls = (ecall_funct12, Ecall) ∷ (ebreak_funct12, Ebreak) ∷ (sret_funct12, Sret) ∷ (wfi_funct12, Wfi) ∷ []

-- opcode 0x73
unfoldable pub system_row : Fields → Option Instr
system_row f =
    option_or
    (when (f.funct3 == 0 && f.rd == 0)
    (option_or
    (when (f.rs1 == 0) (lookup (λ n. n == imm_i f) calls))
    (when (f.funct7 == 0x09) (Some (SfenceVma f.rs1 f.rs2)))))
    (option_map (λ op. Csr op f.rd (imm_i f) f.rs1) (op_at csr_funct3 csr_ops f.funct3))

-- opcode 0x2F: bits 31:27 tell the operation, bit 26 is aq and bit 25 rl; funct3 is 2 or 3, the width
unfoldable pub atomic_row : Fields → Option Instr
atomic_row f =
    let wide = f.funct3 == 3 in
    let aq = f.funct7 / 2 % 2 == 1 in
    let rl = f.funct7 % 2 == 1 in
    when (f.funct3 / 2 == 1)
    (option_or
    (option_map (λ op. Amo op wide aq rl f.rd f.rs1 f.rs2) (op_at amo_funct5 amo_ops (f.funct7 / 4)))
    (option_or
    (when (f.funct7 / 4 == 0x02 && f.rs2 == 0) (Some (LoadReserved wide aq rl f.rd f.rs1)))
    (when (f.funct7 / 4 == 0x03) (Some (StoreCond wide aq rl f.rd f.rs1 f.rs2)))))

-- the rows by their opcode
abbrev pub opcodes : List (ℕ × (Fields → Option Instr))
opcodes =
    (0x37, lui_row) ∷ (0x17, auipc_row) ∷ (0x6F, jal_row) ∷ (0x67, jalr_row) ∷ (0x63, branch_row) ∷ (0x03, load_row) ∷ (0x23, store_row)
    ∷ (0x13, alu_imm_row) ∷ (0x1B, alu_w_imm_row) ∷ (0x33, alu_row) ∷ (0x3B, alu_w_row) ∷ (0x0F, fence_row) ∷ (0x73, system_row)
    ∷ (0x2F, atomic_row) ∷ []

-- the row that the fields fit
unfoldable pub row_of : Fields → Option Instr
row_of f = option_and_then (λ row. row f) (lookup (λ opcode. opcode == f.opcode) opcodes)

-- the instruction of a word: the row that it fits with its operands, or Illegal with the word itself
unfoldable pub row : ℕ → Instr
row word = unwrap_or (row_of (fields_of word)) (Illegal word)
