-- The operations of each opcode, by the fixed fields that tell them apart (unprivileged manual, "RV32/64G Instruction Set Listings").
use Rattle.std.specs.Prelude.{ℕ, ◌==◌, ◌&&◌, List, [], ◌∷◌, Option, find}
use Rattle.rv64_decode.specs.declared.instr.BranchOp.{BranchOp}
use Rattle.rv64_decode.specs.declared.instr.BranchOp.TheVariants as branch
use Rattle.rv64_decode.specs.declared.instr.LoadOp.{LoadOp}
use Rattle.rv64_decode.specs.declared.instr.LoadOp.TheVariants as load
use Rattle.rv64_decode.specs.declared.instr.StoreOp.{StoreOp}
use Rattle.rv64_decode.specs.declared.instr.StoreOp.TheVariants as store
use Rattle.rv64_decode.specs.declared.instr.AluOp.{AluOp}
use Rattle.rv64_decode.specs.declared.instr.AluOp.TheVariants as alu
use Rattle.rv64_decode.specs.declared.instr.AluWOp.{AluWOp}
use Rattle.rv64_decode.specs.declared.instr.AluWOp.TheVariants as alu_w
use Rattle.rv64_decode.specs.declared.instr.MulOp.{MulOp}
use Rattle.rv64_decode.specs.declared.instr.MulOp.TheVariants as mul
use Rattle.rv64_decode.specs.declared.instr.CsrOp.{CsrOp}
use Rattle.rv64_decode.specs.declared.instr.CsrOp.TheVariants as csr
use Rattle.rv64_decode.specs.declared.instr.AmoOp.{AmoOp}
use Rattle.rv64_decode.specs.declared.instr.AmoOp.TheVariants as amo

-- the operation of a table that has this number
abbrev pub op_at : {Op : Type 0} → (Op → ℕ) → List Op → ℕ → Option Op
op_at number ops n = find (λ op. number op == n) ops

-- the operation of a table that has these two numbers: those of the word's upper bits, and funct3
abbrev pub op_at_both : {Op : Type 0} → (Op → ℕ × ℕ) → List Op → ℕ → ℕ → Option Op
op_at_both numbers ops upper funct3 = find (λ op. (numbers op).0 == upper && (numbers op).1 == funct3) ops

-- ---- by funct3

-- funct3 of a branch
abbrev pub branch_funct3 : BranchOp → ℕ
branch_funct3 branch.Beq = 0
branch_funct3 branch.Bne = 1
branch_funct3 branch.Blt = 4
branch_funct3 branch.Bge = 5
branch_funct3 branch.Bltu = 6
branch_funct3 branch.Bgeu = 7

-- the branches
abbrev pub branch_ops : List BranchOp
branch_ops = branch.Beq ∷ branch.Bne ∷ branch.Blt ∷ branch.Bge ∷ branch.Bltu ∷ branch.Bgeu ∷ []

-- funct3 of a load
abbrev pub load_funct3 : LoadOp → ℕ
load_funct3 load.Lb = 0
load_funct3 load.Lh = 1
load_funct3 load.Lw = 2
load_funct3 load.Ld = 3
load_funct3 load.Lbu = 4
load_funct3 load.Lhu = 5
load_funct3 load.Lwu = 6

-- the loads
abbrev pub load_ops : List LoadOp
load_ops = load.Lb ∷ load.Lh ∷ load.Lw ∷ load.Ld ∷ load.Lbu ∷ load.Lhu ∷ load.Lwu ∷ []

-- funct3 of a store
abbrev pub store_funct3 : StoreOp → ℕ
store_funct3 store.Sb = 0
store_funct3 store.Sh = 1
store_funct3 store.Sw = 2
store_funct3 store.Sd = 3

-- the stores
abbrev pub store_ops : List StoreOp
store_ops = store.Sb ∷ store.Sh ∷ store.Sw ∷ store.Sd ∷ []

-- funct3 of an access to a control and status register
abbrev pub csr_funct3 : CsrOp → ℕ
csr_funct3 csr.Rw = 1
csr_funct3 csr.Rs = 2
csr_funct3 csr.Rc = 3
csr_funct3 csr.Rwi = 5
csr_funct3 csr.Rsi = 6
csr_funct3 csr.Rci = 7

-- the accesses to control and status registers
abbrev pub csr_ops : List CsrOp
csr_ops = csr.Rw ∷ csr.Rs ∷ csr.Rc ∷ csr.Rwi ∷ csr.Rsi ∷ csr.Rci ∷ []

-- ---- by funct7 and funct3

-- funct7 and funct3 of an operation on two registers
abbrev pub alu_functs : AluOp → ℕ × ℕ
alu_functs alu.Add = (0x00, 0)
alu_functs alu.Sub = (0x20, 0)
alu_functs alu.Sll = (0x00, 1)
alu_functs alu.Slt = (0x00, 2)
alu_functs alu.Sltu = (0x00, 3)
alu_functs alu.Xor = (0x00, 4)
alu_functs alu.Srl = (0x00, 5)
alu_functs alu.Sra = (0x20, 5)
alu_functs alu.Or = (0x00, 6)
alu_functs alu.And = (0x00, 7)

-- the operations on two registers
abbrev pub alu_ops : List AluOp
alu_ops = alu.Add ∷ alu.Sub ∷ alu.Sll ∷ alu.Slt ∷ alu.Sltu ∷ alu.Xor ∷ alu.Srl ∷ alu.Sra ∷ alu.Or ∷ alu.And ∷ []

-- ---- with an immediate: by funct3, and the shifts by bits 31:26 and funct3

-- bits 31:26, where they are fixed, and funct3 of an operation with an immediate
abbrev pub imm_functs : AluOp → ℕ × ℕ
imm_functs alu.Add = (0x00, 0)
imm_functs alu.Slt = (0x00, 2)
imm_functs alu.Sltu = (0x00, 3)
imm_functs alu.Xor = (0x00, 4)
imm_functs alu.Or = (0x00, 6)
imm_functs alu.And = (0x00, 7)
imm_functs alu.Sll = (0x00, 1)
imm_functs alu.Srl = (0x00, 5)
imm_functs alu.Sra = (0x10, 5)
-- there is no subtraction of an immediate
imm_functs alu.Sub = (0x00, 0)

-- funct3 of an operation with an immediate
abbrev pub imm_funct3 : AluOp → ℕ
imm_funct3 op = (imm_functs op).1

-- the operations with an immediate that are told apart by funct3 alone
abbrev pub imm_ops : List AluOp
imm_ops = alu.Add ∷ alu.Slt ∷ alu.Sltu ∷ alu.Xor ∷ alu.Or ∷ alu.And ∷ []

-- the shifts by an immediate, told apart by bits 31:26 and funct3
abbrev pub shift_ops : List AluOp
shift_ops = alu.Sll ∷ alu.Srl ∷ alu.Sra ∷ []

-- ---- on the low 32 bits, by funct7 and funct3, with two registers or a shift amount

-- funct7 and funct3 of an operation on the low 32 bits
abbrev pub alu_w_functs : AluWOp → ℕ × ℕ
alu_w_functs alu_w.Addw = (0x00, 0)
alu_w_functs alu_w.Subw = (0x20, 0)
alu_w_functs alu_w.Sllw = (0x00, 1)
alu_w_functs alu_w.Srlw = (0x00, 5)
alu_w_functs alu_w.Sraw = (0x20, 5)

-- the operations on the low 32 bits of two registers
abbrev pub alu_w_ops : List AluWOp
alu_w_ops = alu_w.Addw ∷ alu_w.Subw ∷ alu_w.Sllw ∷ alu_w.Srlw ∷ alu_w.Sraw ∷ []

-- the shifts of the low 32 bits by an immediate, told apart by funct7 and funct3
abbrev pub shift_w_ops : List AluWOp
shift_w_ops = alu_w.Sllw ∷ alu_w.Srlw ∷ alu_w.Sraw ∷ []

-- ---- multiplications and divisions, by funct7 and funct3

-- funct7 and funct3 of a multiplication or division
abbrev pub mul_functs : MulOp → ℕ × ℕ
mul_functs mul.Mul = (0x01, 0)
mul_functs mul.Mulh = (0x01, 1)
mul_functs mul.Mulhsu = (0x01, 2)
mul_functs mul.Mulhu = (0x01, 3)
mul_functs mul.Div = (0x01, 4)
mul_functs mul.Divu = (0x01, 5)
mul_functs mul.Rem = (0x01, 6)
mul_functs mul.Remu = (0x01, 7)
mul_functs mul.Mulw = (0x01, 0)
mul_functs mul.Divw = (0x01, 4)
mul_functs mul.Divuw = (0x01, 5)
mul_functs mul.Remw = (0x01, 6)
mul_functs mul.Remuw = (0x01, 7)

-- the opcode of a multiplication or division: 0x33, or 0x3B for the W forms
abbrev pub mul_opcode : MulOp → ℕ
mul_opcode mul.Mul = 0x33
mul_opcode mul.Mulh = 0x33
mul_opcode mul.Mulhsu = 0x33
mul_opcode mul.Mulhu = 0x33
mul_opcode mul.Div = 0x33
mul_opcode mul.Divu = 0x33
mul_opcode mul.Rem = 0x33
mul_opcode mul.Remu = 0x33
mul_opcode mul.Mulw = 0x3B
mul_opcode mul.Divw = 0x3B
mul_opcode mul.Divuw = 0x3B
mul_opcode mul.Remw = 0x3B
mul_opcode mul.Remuw = 0x3B

-- the multiplications and divisions on whole registers
abbrev pub mul_ops : List MulOp
mul_ops = mul.Mul ∷ mul.Mulh ∷ mul.Mulhsu ∷ mul.Mulhu ∷ mul.Div ∷ mul.Divu ∷ mul.Rem ∷ mul.Remu ∷ []

-- those on the low 32 bits
abbrev pub mul_w_ops : List MulOp
mul_w_ops = mul.Mulw ∷ mul.Divw ∷ mul.Divuw ∷ mul.Remw ∷ mul.Remuw ∷ []

-- ---- the whole words of opcode 0x73, by bits 31:20

-- bits 31:20 of ECALL
abbrev pub ecall_funct12 : ℕ
ecall_funct12 = 0x000

-- bits 31:20 of EBREAK
abbrev pub ebreak_funct12 : ℕ
ebreak_funct12 = 0x001

-- bits 31:20 of SRET
abbrev pub sret_funct12 : ℕ
sret_funct12 = 0x102

-- bits 31:20 of WFI
abbrev pub wfi_funct12 : ℕ
wfi_funct12 = 0x105

-- ---- by bits 31:27

-- bits 31:27 of an atomic memory operation
abbrev pub amo_funct5 : AmoOp → ℕ
amo_funct5 amo.Swap = 0x01
amo_funct5 amo.Add = 0x00
amo_funct5 amo.Xor = 0x04
amo_funct5 amo.And = 0x0C
amo_funct5 amo.Or = 0x08
amo_funct5 amo.Min = 0x10
amo_funct5 amo.Max = 0x14
amo_funct5 amo.Minu = 0x18
amo_funct5 amo.Maxu = 0x1C

-- the atomic memory operations
abbrev pub amo_ops : List AmoOp
amo_ops = amo.Swap ∷ amo.Add ∷ amo.Xor ∷ amo.And ∷ amo.Or ∷ amo.Min ∷ amo.Max ∷ amo.Minu ∷ amo.Maxu ∷ []
