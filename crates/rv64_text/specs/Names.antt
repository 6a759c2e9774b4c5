-- The names of registers and instructions (unprivileged manual, "RISC-V Assembly Programmer's Handbook" and the listings).
use Rattle.std.specs.Prelude.{ℕ, List, [], ◌∷◌, ◌++◌, Bool, true, false, codes, slice_index_or}
use Rattle.rv64_decode.specs.declared.instr.BranchOp.{BranchOp}
use Rattle.rv64_decode.specs.declared.instr.BranchOp.TheVariants as branch
use Rattle.rv64_decode.specs.declared.instr.LoadOp.{LoadOp}
use Rattle.rv64_decode.specs.declared.instr.LoadOp.TheVariants as load
use Rattle.rv64_decode.specs.declared.instr.StoreOp.{StoreOp}
use Rattle.rv64_decode.specs.declared.instr.StoreOp.TheVariants as store
use Rattle.rv64_decode.specs.declared.instr.AluOp.{AluOp}
use Rattle.rv64_decode.specs.declared.instr.AluOp.TheVariants as alu
use Rattle.rv64_decode.specs.declared.instr.AluWOp.{AluWOp}
use Rattle.rv64_decode.specs.declared.instr.AluWOp.TheVariants as alu_w
use Rattle.rv64_decode.specs.declared.instr.MulOp.{MulOp}
use Rattle.rv64_decode.specs.declared.instr.MulOp.TheVariants as mul
use Rattle.rv64_decode.specs.declared.instr.CsrOp.{CsrOp}
use Rattle.rv64_decode.specs.declared.instr.CsrOp.TheVariants as csr
use Rattle.rv64_decode.specs.declared.instr.AmoOp.{AmoOp}
use Rattle.rv64_decode.specs.declared.instr.AmoOp.TheVariants as amo
use Rattle.rv64_decode.specs.declared.instr.Instr.{Instr}
use Rattle.rv64_decode.specs.declared.instr.Instr.TheVariants.{Lui, Auipc, Jal, Jalr, Branch, Load, Store, AluImm, AluWImm, Alu, AluW, Mul, Fence, FenceI, Ecall, Ebreak, Sret, Wfi, SfenceVma, Csr, LoadReserved, StoreCond, Amo, Illegal}

-- the registers' names of the calling convention, x0 first
abbrev pub register_names : List (List ℕ)
register_names =
    codes "zero" ∷ codes "ra" ∷ codes "sp" ∷ codes "gp" ∷ codes "tp" ∷ codes "t0" ∷ codes "t1" ∷ codes "t2"
    ∷ codes "s0" ∷ codes "s1" ∷ codes "a0" ∷ codes "a1" ∷ codes "a2" ∷ codes "a3" ∷ codes "a4" ∷ codes "a5"
    ∷ codes "a6" ∷ codes "a7" ∷ codes "s2" ∷ codes "s3" ∷ codes "s4" ∷ codes "s5" ∷ codes "s6" ∷ codes "s7"
    ∷ codes "s8" ∷ codes "s9" ∷ codes "s10" ∷ codes "s11" ∷ codes "t3" ∷ codes "t4" ∷ codes "t5" ∷ codes "t6" ∷ []

-- the name of a register
abbrev pub register_name : ℕ → List ℕ
register_name n = slice_index_or register_names n []

-- the name of a branch
abbrev pub branch_name : BranchOp → List ℕ
branch_name branch.Beq = codes "beq"
branch_name branch.Bne = codes "bne"
branch_name branch.Blt = codes "blt"
branch_name branch.Bge = codes "bge"
branch_name branch.Bltu = codes "bltu"
branch_name branch.Bgeu = codes "bgeu"

-- the name of a load
abbrev pub load_name : LoadOp → List ℕ
load_name load.Lb = codes "lb"
load_name load.Lh = codes "lh"
load_name load.Lw = codes "lw"
load_name load.Ld = codes "ld"
load_name load.Lbu = codes "lbu"
load_name load.Lhu = codes "lhu"
load_name load.Lwu = codes "lwu"

-- the name of a store
abbrev pub store_name : StoreOp → List ℕ
store_name store.Sb = codes "sb"
store_name store.Sh = codes "sh"
store_name store.Sw = codes "sw"
store_name store.Sd = codes "sd"

-- the name of an operation with an immediate
abbrev pub imm_name : AluOp → List ℕ
imm_name alu.Add = codes "addi"
imm_name alu.Sub = codes "subi"
imm_name alu.Sll = codes "slli"
imm_name alu.Slt = codes "slti"
imm_name alu.Sltu = codes "sltiu"
imm_name alu.Xor = codes "xori"
imm_name alu.Srl = codes "srli"
imm_name alu.Sra = codes "srai"
imm_name alu.Or = codes "ori"
imm_name alu.And = codes "andi"

-- the name of an operation with an immediate, on the low 32 bits
abbrev pub imm_w_name : AluWOp → List ℕ
imm_w_name alu_w.Addw = codes "addiw"
imm_w_name alu_w.Subw = codes "subiw"
imm_w_name alu_w.Sllw = codes "slliw"
imm_w_name alu_w.Srlw = codes "srliw"
imm_w_name alu_w.Sraw = codes "sraiw"

-- the name of an operation
abbrev pub alu_name : AluOp → List ℕ
alu_name alu.Add = codes "add"
alu_name alu.Sub = codes "sub"
alu_name alu.Sll = codes "sll"
alu_name alu.Slt = codes "slt"
alu_name alu.Sltu = codes "sltu"
alu_name alu.Xor = codes "xor"
alu_name alu.Srl = codes "srl"
alu_name alu.Sra = codes "sra"
alu_name alu.Or = codes "or"
alu_name alu.And = codes "and"

-- the name of an operation on the low 32 bits
abbrev pub alu_w_name : AluWOp → List ℕ
alu_w_name alu_w.Addw = codes "addw"
alu_w_name alu_w.Subw = codes "subw"
alu_w_name alu_w.Sllw = codes "sllw"
alu_w_name alu_w.Srlw = codes "srlw"
alu_w_name alu_w.Sraw = codes "sraw"

-- the name of a multiplication, division or remainder
abbrev pub mul_name : MulOp → List ℕ
mul_name mul.Mul = codes "mul"
mul_name mul.Mulh = codes "mulh"
mul_name mul.Mulhsu = codes "mulhsu"
mul_name mul.Mulhu = codes "mulhu"
mul_name mul.Div = codes "div"
mul_name mul.Divu = codes "divu"
mul_name mul.Rem = codes "rem"
mul_name mul.Remu = codes "remu"
mul_name mul.Mulw = codes "mulw"
mul_name mul.Divw = codes "divw"
mul_name mul.Divuw = codes "divuw"
mul_name mul.Remw = codes "remw"
mul_name mul.Remuw = codes "remuw"

-- the name of an access to a control and status register
abbrev pub csr_name : CsrOp → List ℕ
csr_name csr.Rw = codes "csrrw"
csr_name csr.Rs = codes "csrrs"
csr_name csr.Rc = codes "csrrc"
csr_name csr.Rwi = codes "csrrwi"
csr_name csr.Rsi = codes "csrrsi"
csr_name csr.Rci = codes "csrrci"

-- the name of an atomic memory operation
abbrev pub amo_name : AmoOp → List ℕ
amo_name amo.Swap = codes "amoswap"
amo_name amo.Add = codes "amoadd"
amo_name amo.Xor = codes "amoxor"
amo_name amo.And = codes "amoand"
amo_name amo.Or = codes "amoor"
amo_name amo.Min = codes "amomin"
amo_name amo.Max = codes "amomax"
amo_name amo.Minu = codes "amominu"
amo_name amo.Maxu = codes "amomaxu"

-- the ending of an atomic instruction for its width
abbrev pub width : Bool → List ℕ
width false = codes ".w"
width true = codes ".d"

-- the ending for its ordering bits aq and rl
abbrev pub ordering : Bool → Bool → List ℕ
ordering false false = []
ordering true false = codes ".aq"
ordering false true = codes ".rl"
ordering true true = codes ".aqrl"

-- the name of an instruction, in lower case
abbrev pub mnemonic : Instr → List ℕ
mnemonic (Lui rd imm) = codes "lui"
mnemonic (Auipc rd imm) = codes "auipc"
mnemonic (Jal rd off) = codes "jal"
mnemonic (Jalr rd rs1 imm) = codes "jalr"
mnemonic (Branch op rs1 rs2 off) = branch_name op
mnemonic (Load op rd rs1 imm) = load_name op
mnemonic (Store op rs1 rs2 imm) = store_name op
mnemonic (AluImm op rd rs1 imm) = imm_name op
mnemonic (AluWImm op rd rs1 imm) = imm_w_name op
mnemonic (Alu op rd rs1 rs2) = alu_name op
mnemonic (AluW op rd rs1 rs2) = alu_w_name op
mnemonic (Mul op rd rs1 rs2) = mul_name op
mnemonic (Fence rd rs1 imm) = codes "fence"
mnemonic (FenceI rd rs1 imm) = codes "fence.i"
mnemonic Ecall = codes "ecall"
mnemonic Ebreak = codes "ebreak"
mnemonic Sret = codes "sret"
mnemonic Wfi = codes "wfi"
mnemonic (SfenceVma rs1 rs2) = codes "sfence.vma"
mnemonic (Csr op rd csr src) = csr_name op
mnemonic (LoadReserved wide aq rl rd rs1) = codes "lr" ++ width wide ++ ordering aq rl
mnemonic (StoreCond wide aq rl rd rs1 rs2) = codes "sc" ++ width wide ++ ordering aq rl
mnemonic (Amo op wide aq rl rd rs1 rs2) = amo_name op ++ width wide ++ ordering aq rl
mnemonic (Illegal word) = codes ".word"
