-- The fields of an instruction are read as that instruction.
use Rattle.std.proofs.Common.{◌≡◌, ℕ, ℤ, pos, negsuc, ◌+◌, ◌-◌, ◌*◌, ◌/◌, ◌%◌, ◌^◌, ◌<◌, Bool, true, false, Option, Some, None, refl, ap, ap₂, sym, subst, ◌∙◌, arith, ◌==◌, ◌&&◌, eq-eqb, ne_eqb}
use Rattle.std.specs.Int.{from_bool}
use Rattle.std.specs.Map.{lookup}
use Rattle.std.specs.Option.{option_map, option_or}
use Rattle.rv64_decode.specs.declared.instr.BranchOp.{BranchOp}
use Rattle.rv64_decode.specs.declared.instr.BranchOp.TheVariants as branch
use Rattle.rv64_decode.specs.declared.instr.LoadOp.{LoadOp}
use Rattle.rv64_decode.specs.declared.instr.LoadOp.TheVariants as load
use Rattle.rv64_decode.specs.declared.instr.StoreOp.{StoreOp}
use Rattle.rv64_decode.specs.declared.instr.StoreOp.TheVariants as store
use Rattle.rv64_decode.specs.declared.instr.CsrOp.{CsrOp}
use Rattle.rv64_decode.specs.declared.instr.CsrOp.TheVariants as csr
use Rattle.rv64_decode.specs.declared.instr.AluOp.{AluOp}
use Rattle.rv64_decode.specs.declared.instr.AluOp.TheVariants as alu
use Rattle.rv64_decode.specs.declared.instr.AluWOp.{AluWOp}
use Rattle.rv64_decode.specs.declared.instr.AluWOp.TheVariants as alu_w
use Rattle.rv64_decode.specs.declared.instr.MulOp.{MulOp}
use Rattle.rv64_decode.specs.declared.instr.MulOp.TheVariants as mul
use Rattle.rv64_decode.specs.declared.instr.AmoOp.{AmoOp}
use Rattle.rv64_decode.specs.declared.instr.AmoOp.TheVariants as amo
use Rattle.rv64_decode.specs.declared.instr.Instr.{Instr}
use Rattle.rv64_decode.specs.declared.instr.Instr.TheVariants.{Lui, Auipc, Jal, Jalr, Branch, Load, Store, AluImm, AluWImm, Alu, AluW, Mul, Fence, FenceI, Ecall, Ebreak, Sret, Wfi, SfenceVma, Csr, LoadReserved, StoreCond, Amo, Illegal}
use Rattle.rv64_decode.specs.Fields.{AreFields}
use Rattle.ras_bits.specs.Bits.{signed}
use Rattle.ras_bits.specs.BitsLaws.{flag_small}
use Rattle.rv64_decode.specs.Immediates.{unsigned, FitsBits, upper_of_offset, offset_of_upper, imm_i, imm_s, imm_b, imm_u}
use Rattle.rv64_decode.specs.Table.{op_at, op_at_both, branch_funct3, branch_ops, load_funct3, load_ops, store_funct3, store_ops, csr_funct3, alu_functs, imm_functs, imm_funct3, imm_ops, shift_ops, alu_w_functs, shift_w_ops, mul_functs, mul_opcode, amo_funct5, amo_ops}
use Rattle.rv64_decode.specs.Decoding.{row_of, when, calls, lui_row, auipc_row, jal_row, jalr_row, branch_row, load_row, store_row, alu_imm_row, alu_w_imm_row, alu_row, alu_w_row, fence_row, system_row, atomic_row}
use Rattle.rv64_decode.specs.Encoding.{r_format, OperandsInRange, IsAmount, IsImm, IsImmW, IsOffset, IsRow, fields_for, atomic_format}
use Rattle.rv64_decode.proofs.Numbers.{AreFields_of, signed-unsigned, branch_offset, offset-upper}

-- the read of a number of a table
branch_known : (op : BranchOp) → op_at branch_funct3 branch_ops (branch_funct3 op) ≡ Some op
branch_known branch.Beq = refl
branch_known branch.Bne = refl
branch_known branch.Blt = refl
branch_known branch.Bge = refl
branch_known branch.Bltu = refl
branch_known branch.Bgeu = refl

load_known : (op : LoadOp) → op_at load_funct3 load_ops (load_funct3 op) ≡ Some op
load_known load.Lb = refl
load_known load.Lh = refl
load_known load.Lw = refl
load_known load.Ld = refl
load_known load.Lbu = refl
load_known load.Lhu = refl
load_known load.Lwu = refl

store_known : (op : StoreOp) → op_at store_funct3 store_ops (store_funct3 op) ≡ Some op
store_known store.Sb = refl
store_known store.Sh = refl
store_known store.Sw = refl
store_known store.Sd = refl

amo_known : (op : AmoOp) → op_at amo_funct5 amo_ops (amo_funct5 op) ≡ Some op
amo_known amo.Swap = refl
amo_known amo.Add = refl
amo_known amo.Xor = refl
amo_known amo.And = refl
amo_known amo.Or = refl
amo_known amo.Min = refl
amo_known amo.Max = refl
amo_known amo.Minu = refl
amo_known amo.Maxu = refl

branch_small : (op : BranchOp) → branch_funct3 op < 2 ^ 3
branch_small branch.Beq = omega arith
branch_small branch.Bne = omega arith
branch_small branch.Blt = omega arith
branch_small branch.Bge = omega arith
branch_small branch.Bltu = omega arith
branch_small branch.Bgeu = omega arith

load_small : (op : LoadOp) → load_funct3 op < 2 ^ 3
load_small load.Lb = omega arith
load_small load.Lh = omega arith
load_small load.Lw = omega arith
load_small load.Ld = omega arith
load_small load.Lbu = omega arith
load_small load.Lhu = omega arith
load_small load.Lwu = omega arith

store_small : (op : StoreOp) → store_funct3 op < 2 ^ 3
store_small store.Sb = omega arith
store_small store.Sh = omega arith
store_small store.Sw = omega arith
store_small store.Sd = omega arith

csr_small : (op : CsrOp) → csr_funct3 op < 2 ^ 3
csr_small csr.Rw = omega arith
csr_small csr.Rs = omega arith
csr_small csr.Rc = omega arith
csr_small csr.Rwi = omega arith
csr_small csr.Rsi = omega arith
csr_small csr.Rci = omega arith

alu_small : (op : AluOp) → ((alu_functs op).0 < 2 ^ 7) × ((alu_functs op).1 < 2 ^ 3)
alu_small alu.Add = (omega arith, omega arith)
alu_small alu.Sub = (omega arith, omega arith)
alu_small alu.Sll = (omega arith, omega arith)
alu_small alu.Slt = (omega arith, omega arith)
alu_small alu.Sltu = (omega arith, omega arith)
alu_small alu.Xor = (omega arith, omega arith)
alu_small alu.Srl = (omega arith, omega arith)
alu_small alu.Sra = (omega arith, omega arith)
alu_small alu.Or = (omega arith, omega arith)
alu_small alu.And = (omega arith, omega arith)

alu_w_small : (op : AluWOp) → ((alu_w_functs op).0 < 2 ^ 7) × ((alu_w_functs op).1 < 2 ^ 3)
alu_w_small alu_w.Addw = (omega arith, omega arith)
alu_w_small alu_w.Subw = (omega arith, omega arith)
alu_w_small alu_w.Sllw = (omega arith, omega arith)
alu_w_small alu_w.Srlw = (omega arith, omega arith)
alu_w_small alu_w.Sraw = (omega arith, omega arith)

mul_small : (op : MulOp) → ((mul_functs op).0 < 2 ^ 7) × ((mul_functs op).1 < 2 ^ 3)
mul_small mul.Mul = (omega arith, omega arith)
mul_small mul.Mulh = (omega arith, omega arith)
mul_small mul.Mulhsu = (omega arith, omega arith)
mul_small mul.Mulhu = (omega arith, omega arith)
mul_small mul.Div = (omega arith, omega arith)
mul_small mul.Divu = (omega arith, omega arith)
mul_small mul.Rem = (omega arith, omega arith)
mul_small mul.Remu = (omega arith, omega arith)
mul_small mul.Mulw = (omega arith, omega arith)
mul_small mul.Divw = (omega arith, omega arith)
mul_small mul.Divuw = (omega arith, omega arith)
mul_small mul.Remw = (omega arith, omega arith)
mul_small mul.Remuw = (omega arith, omega arith)

mul_opcode_small : (op : MulOp) → mul_opcode op < 2 ^ 7
mul_opcode_small mul.Mul = omega arith
mul_opcode_small mul.Mulh = omega arith
mul_opcode_small mul.Mulhsu = omega arith
mul_opcode_small mul.Mulhu = omega arith
mul_opcode_small mul.Div = omega arith
mul_opcode_small mul.Divu = omega arith
mul_opcode_small mul.Rem = omega arith
mul_opcode_small mul.Remu = omega arith
mul_opcode_small mul.Mulw = omega arith
mul_opcode_small mul.Divw = omega arith
mul_opcode_small mul.Divuw = omega arith
mul_opcode_small mul.Remw = omega arith
mul_opcode_small mul.Remuw = omega arith

amo_small : (op : AmoOp) → amo_funct5 op < 2 ^ 5
amo_small amo.Swap = omega arith
amo_small amo.Add = omega arith
amo_small amo.Xor = omega arith
amo_small amo.And = omega arith
amo_small amo.Or = omega arith
amo_small amo.Min = omega arith
amo_small amo.Max = omega arith
amo_small amo.Minu = omega arith
amo_small amo.Maxu = omega arith

unsigned_small : (bits : ℕ) (z : ℤ) → 2 ^ (bits - 1) + 2 ^ (bits - 1) ≡ 2 ^ bits → FitsBits bits z → unsigned bits z < 2 ^ bits
unsigned_small bits (pos n) e h = omega arith
unsigned_small bits (negsuc n) e h = omega arith

-- an immediate of the I and S formats in its two parts
imm_joined : (n : ℕ) → n / 2 ^ 5 * 2 ^ 5 + n % 2 ^ 5 ≡ n
imm_joined n = omega arith

-- ---- the rows

jal_written : (rd : ℕ) (off : ℤ) → IsOffset 21 off → jal_row (fields_for (Jal rd off)) ≡ Some (Jal rd off)
unfolding jal_row
jal_written rd off h =
    let n = unsigned 21 off in
    let small : n < 2 ^ 21 = unsigned_small 21 off refl h.0 in
    let upper : imm_u (fields_for (Jal rd off)) ≡ upper_of_offset n = omega arith in
    ap (λ u. Some (Jal rd (signed 21 (offset_of_upper u)))) upper
    ∙ ap (λ k. Some (Jal rd (signed 21 k))) (offset-upper n small h.1)
    ∙ ap (λ z. Some (Jal rd z)) (signed-unsigned 21 off refl h.0)

jalr_written : (rd rs1 : ℕ) (imm : ℤ) → FitsBits 12 imm → jalr_row (fields_for (Jalr rd rs1 imm)) ≡ Some (Jalr rd rs1 imm)
unfolding jalr_row
jalr_written rd rs1 imm h =
    ap (λ n. Some (Jalr rd rs1 (signed 12 n))) (imm_joined (unsigned 12 imm)) ∙ ap (λ z. Some (Jalr rd rs1 z)) (signed-unsigned 12 imm refl h)

branch_written : (op : BranchOp) (rs1 rs2 : ℕ) (off : ℤ) → IsOffset 13 off → branch_row (fields_for (Branch op rs1 rs2 off)) ≡ Some (Branch op rs1 rs2 off)
unfolding branch_row
branch_written op rs1 rs2 off h =
    let n = unsigned 13 off in
    let f = fields_for (Branch op rs1 rs2 off) in
    ap (option_map (λ o. Branch o rs1 rs2 (signed 13 (imm_b f)))) (branch_known op)
    ∙ ap (λ k. Some (Branch op rs1 rs2 (signed 13 k))) (branch_offset f.rd f.funct7 n (unsigned_small 13 off refl h.0) h.1 refl refl)
    ∙ ap (λ z. Some (Branch op rs1 rs2 z)) (signed-unsigned 13 off refl h.0)

load_written : (op : LoadOp) (rd rs1 : ℕ) (imm : ℤ) → FitsBits 12 imm → load_row (fields_for (Load op rd rs1 imm)) ≡ Some (Load op rd rs1 imm)
unfolding load_row
load_written op rd rs1 imm h =
    ap (option_map (λ o. Load o rd rs1 (signed 12 (imm_i (fields_for (Load op rd rs1 imm)))))) (load_known op)
    ∙ ap (λ n. Some (Load op rd rs1 (signed 12 n))) (imm_joined (unsigned 12 imm)) ∙ ap (λ z. Some (Load op rd rs1 z)) (signed-unsigned 12 imm refl h)

store_written : (op : StoreOp) (rs1 rs2 : ℕ) (imm : ℤ) → FitsBits 12 imm → store_row (fields_for (Store op rs1 rs2 imm)) ≡ Some (Store op rs1 rs2 imm)
unfolding store_row
store_written op rs1 rs2 imm h =
    ap (option_map (λ o. Store o rs1 rs2 (signed 12 (imm_s (fields_for (Store op rs1 rs2 imm)))))) (store_known op)
    ∙ ap (λ n. Some (Store op rs1 rs2 (signed 12 n))) (imm_joined (unsigned 12 imm)) ∙ ap (λ z. Some (Store op rs1 rs2 z)) (signed-unsigned 12 imm refl h)

imm_small : (op : AluOp) → (imm_functs op).1 < 2 ^ 3
imm_small alu.Add = omega arith
imm_small alu.Sub = omega arith
imm_small alu.Sll = omega arith
imm_small alu.Slt = omega arith
imm_small alu.Sltu = omega arith
imm_small alu.Xor = omega arith
imm_small alu.Srl = omega arith
imm_small alu.Sra = omega arith
imm_small alu.Or = omega arith
imm_small alu.And = omega arith

imm_op_written : (op : AluOp) (rd rs1 : ℕ) (imm : ℤ) → FitsBits 12 imm → op_at imm_funct3 imm_ops (imm_functs op).1 ≡ Some op → (imm_functs op).0 ≡ 0
    → alu_imm_row (fields_for (AluImm op rd rs1 imm)) ≡ Some (AluImm op rd rs1 imm)
unfolding alu_imm_row
imm_op_written op rd rs1 imm h known low =
    let f = fields_for (AluImm op rd rs1 imm) in
    ap (λ o. option_or (option_map (λ x. AluImm x rd rs1 (signed 12 (imm_i f))) o) (option_map (λ x. AluImm x rd rs1 (pos (imm_i f % 2 ^ 6))) (op_at_both imm_functs shift_ops (f.funct7 / 2) f.funct3))) known
    ∙ ap (λ n. Some (AluImm op rd rs1 (signed 12 n))) (let whole : imm_i f ≡ unsigned 12 imm = omega arith in whole)
    ∙ ap (λ z. Some (AluImm op rd rs1 z)) (signed-unsigned 12 imm refl h)

shift_written : (op : AluOp) (rd rs1 n : ℕ) → n < 64 → op_at imm_funct3 imm_ops (imm_functs op).1 ≡ None → op_at_both imm_functs shift_ops (imm_functs op).0 (imm_functs op).1 ≡ Some op
    → alu_imm_row (fields_for (AluImm op rd rs1 (pos n))) ≡ Some (AluImm op rd rs1 (pos n))
unfolding alu_imm_row
shift_written op rd rs1 n h none known =
    let f = fields_for (AluImm op rd rs1 (pos n)) in
    ap (λ o. option_or (option_map (λ x. AluImm x rd rs1 (signed 12 (imm_i f))) o) (option_map (λ x. AluImm x rd rs1 (pos (imm_i f % 2 ^ 6))) (op_at_both imm_functs shift_ops (f.funct7 / 2) f.funct3))) none
    ∙ ap (λ k. option_map (λ x. AluImm x rd rs1 (pos (imm_i f % 2 ^ 6))) (op_at_both imm_functs shift_ops k f.funct3)) (let key : f.funct7 / 2 ≡ (imm_functs op).0 = omega arith in key)
    ∙ ap (option_map (λ x. AluImm x rd rs1 (pos (imm_i f % 2 ^ 6)))) known
    ∙ ap (λ k. Some (AluImm op rd rs1 (pos k))) (let whole : imm_i f % 2 ^ 6 ≡ n = omega arith in whole)

shift_by : (op : AluOp) (rd rs1 : ℕ) (imm : ℤ) → IsAmount 64 imm → op_at imm_funct3 imm_ops (imm_functs op).1 ≡ None → op_at_both imm_functs shift_ops (imm_functs op).0 (imm_functs op).1 ≡ Some op
    → alu_imm_row (fields_for (AluImm op rd rs1 imm)) ≡ Some (AluImm op rd rs1 imm)
shift_by op rd rs1 imm p none known =
    subst (λ z. alu_imm_row (fields_for (AluImm op rd rs1 z)) ≡ Some (AluImm op rd rs1 z)) (sym p.1) (shift_written op rd rs1 p.0 p.2 none known)

alu_imm_written : (op : AluOp) (rd rs1 : ℕ) (imm : ℤ) → IsImm op imm → alu_imm_row (fields_for (AluImm op rd rs1 imm)) ≡ Some (AluImm op rd rs1 imm)
alu_imm_written alu.Add rd rs1 imm h = imm_op_written alu.Add rd rs1 imm h refl refl
alu_imm_written alu.Sub rd rs1 imm h = absurd h
alu_imm_written alu.Sll rd rs1 imm h = shift_by alu.Sll rd rs1 imm h refl refl
alu_imm_written alu.Slt rd rs1 imm h = imm_op_written alu.Slt rd rs1 imm h refl refl
alu_imm_written alu.Sltu rd rs1 imm h = imm_op_written alu.Sltu rd rs1 imm h refl refl
alu_imm_written alu.Xor rd rs1 imm h = imm_op_written alu.Xor rd rs1 imm h refl refl
alu_imm_written alu.Srl rd rs1 imm h = shift_by alu.Srl rd rs1 imm h refl refl
alu_imm_written alu.Sra rd rs1 imm h = shift_by alu.Sra rd rs1 imm h refl refl
alu_imm_written alu.Or rd rs1 imm h = imm_op_written alu.Or rd rs1 imm h refl refl
alu_imm_written alu.And rd rs1 imm h = imm_op_written alu.And rd rs1 imm h refl refl

shift_w_written : (op : AluWOp) (rd rs1 n : ℕ) → n < 32 → ((alu_w_functs op).1 == 0) ≡ false → op_at_both alu_w_functs shift_w_ops (alu_w_functs op).0 (alu_w_functs op).1 ≡ Some op
    → alu_w_imm_row (fields_for (AluWImm op rd rs1 (pos n))) ≡ Some (AluWImm op rd rs1 (pos n))
unfolding alu_w_imm_row
shift_w_written op rd rs1 n h other known =
    let f = fields_for (AluWImm op rd rs1 (pos n)) in
    ap (λ b. option_or (when b (Some (AluWImm alu_w.Addw rd rs1 (signed 12 (imm_i f))))) (option_map (λ x. AluWImm x rd rs1 (pos f.rs2)) (op_at_both alu_w_functs shift_w_ops f.funct7 f.funct3))) other
    ∙ ap (λ k. option_map (λ x. AluWImm x rd rs1 (pos f.rs2)) (op_at_both alu_w_functs shift_w_ops k f.funct3)) (let key : f.funct7 ≡ (alu_w_functs op).0 = omega arith in key)
    ∙ ap (option_map (λ x. AluWImm x rd rs1 (pos f.rs2))) known
    ∙ ap (λ k. Some (AluWImm op rd rs1 (pos k))) (let whole : f.rs2 ≡ n = omega arith in whole)

shift_w_by : (op : AluWOp) (rd rs1 : ℕ) (imm : ℤ) → IsAmount 32 imm → ((alu_w_functs op).1 == 0) ≡ false → op_at_both alu_w_functs shift_w_ops (alu_w_functs op).0 (alu_w_functs op).1 ≡ Some op
    → alu_w_imm_row (fields_for (AluWImm op rd rs1 imm)) ≡ Some (AluWImm op rd rs1 imm)
shift_w_by op rd rs1 imm p other known =
    subst (λ z. alu_w_imm_row (fields_for (AluWImm op rd rs1 z)) ≡ Some (AluWImm op rd rs1 z)) (sym p.1) (shift_w_written op rd rs1 p.0 p.2 other known)

alu_w_imm_written : (op : AluWOp) (rd rs1 : ℕ) (imm : ℤ) → IsImmW op imm → alu_w_imm_row (fields_for (AluWImm op rd rs1 imm)) ≡ Some (AluWImm op rd rs1 imm)
unfolding alu_w_imm_row
alu_w_imm_written alu_w.Subw rd rs1 imm h = absurd h
alu_w_imm_written alu_w.Addw rd rs1 imm h =
    ap (λ n. Some (AluWImm alu_w.Addw rd rs1 (signed 12 n))) (let whole : imm_i (fields_for (AluWImm alu_w.Addw rd rs1 imm)) ≡ unsigned 12 imm = omega arith in whole)
    ∙ ap (λ z. Some (AluWImm alu_w.Addw rd rs1 z)) (signed-unsigned 12 imm refl h)
alu_w_imm_written alu_w.Sllw rd rs1 imm h = shift_w_by alu_w.Sllw rd rs1 imm h refl refl
alu_w_imm_written alu_w.Srlw rd rs1 imm h = shift_w_by alu_w.Srlw rd rs1 imm h refl refl
alu_w_imm_written alu_w.Sraw rd rs1 imm h = shift_w_by alu_w.Sraw rd rs1 imm h refl refl

alu_written : (op : AluOp) (rd rs1 rs2 : ℕ) → alu_row (fields_for (Alu op rd rs1 rs2)) ≡ Some (Alu op rd rs1 rs2)
unfolding alu_row
alu_written alu.Add rd rs1 rs2 = refl
alu_written alu.Sub rd rs1 rs2 = refl
alu_written alu.Sll rd rs1 rs2 = refl
alu_written alu.Slt rd rs1 rs2 = refl
alu_written alu.Sltu rd rs1 rs2 = refl
alu_written alu.Xor rd rs1 rs2 = refl
alu_written alu.Srl rd rs1 rs2 = refl
alu_written alu.Sra rd rs1 rs2 = refl
alu_written alu.Or rd rs1 rs2 = refl
alu_written alu.And rd rs1 rs2 = refl

alu_w_written : (op : AluWOp) (rd rs1 rs2 : ℕ) → alu_w_row (fields_for (AluW op rd rs1 rs2)) ≡ Some (AluW op rd rs1 rs2)
unfolding alu_w_row
alu_w_written alu_w.Addw rd rs1 rs2 = refl
alu_w_written alu_w.Subw rd rs1 rs2 = refl
alu_w_written alu_w.Sllw rd rs1 rs2 = refl
alu_w_written alu_w.Srlw rd rs1 rs2 = refl
alu_w_written alu_w.Sraw rd rs1 rs2 = refl

mul_written : (op : MulOp) (rd rs1 rs2 : ℕ) → row_of (fields_for (Mul op rd rs1 rs2)) ≡ Some (Mul op rd rs1 rs2)
unfolding row_of alu_row alu_w_row
mul_written mul.Mul rd rs1 rs2 = refl
mul_written mul.Mulh rd rs1 rs2 = refl
mul_written mul.Mulhsu rd rs1 rs2 = refl
mul_written mul.Mulhu rd rs1 rs2 = refl
mul_written mul.Div rd rs1 rs2 = refl
mul_written mul.Divu rd rs1 rs2 = refl
mul_written mul.Rem rd rs1 rs2 = refl
mul_written mul.Remu rd rs1 rs2 = refl
mul_written mul.Mulw rd rs1 rs2 = refl
mul_written mul.Divw rd rs1 rs2 = refl
mul_written mul.Divuw rd rs1 rs2 = refl
mul_written mul.Remw rd rs1 rs2 = refl
mul_written mul.Remuw rd rs1 rs2 = refl

csr_written : (op : CsrOp) (rd csr src : ℕ) → system_row (fields_for (Csr op rd csr src)) ≡ Some (Csr op rd csr src)
unfolding system_row
csr_written csr.Rw rd n src = ap (λ k. Some (Csr csr.Rw rd k src)) (imm_joined n)
csr_written csr.Rs rd n src = ap (λ k. Some (Csr csr.Rs rd k src)) (imm_joined n)
csr_written csr.Rc rd n src = ap (λ k. Some (Csr csr.Rc rd k src)) (imm_joined n)
csr_written csr.Rwi rd n src = ap (λ k. Some (Csr csr.Rwi rd k src)) (imm_joined n)
csr_written csr.Rsi rd n src = ap (λ k. Some (Csr csr.Rsi rd k src)) (imm_joined n)
csr_written csr.Rci rd n src = ap (λ k. Some (Csr csr.Rci rd k src)) (imm_joined n)

-- the three parts of an atomic row's highest bits
atomic_number : (number : ℕ) (aq rl : Bool) → (number * 4 + from_bool aq * 2 + from_bool rl) / 4 ≡ number
atomic_number number true true = omega arith
atomic_number number true false = omega arith
atomic_number number false true = omega arith
atomic_number number false false = omega arith

atomic_aq : (number : ℕ) (aq rl : Bool) → ((number * 4 + from_bool aq * 2 + from_bool rl) / 2 % 2 == 1) ≡ aq
atomic_aq number true true = eq-eqb _ _ (omega arith)
atomic_aq number true false = eq-eqb _ _ (omega arith)
atomic_aq number false true = ne_eqb _ _ (λ e. omega arith)
atomic_aq number false false = ne_eqb _ _ (λ e. omega arith)

atomic_rl : (number : ℕ) (aq rl : Bool) → ((number * 4 + from_bool aq * 2 + from_bool rl) % 2 == 1) ≡ rl
atomic_rl number true true = eq-eqb _ _ (omega arith)
atomic_rl number true false = ne_eqb _ _ (λ e. omega arith)
atomic_rl number false true = eq-eqb _ _ (omega arith)
atomic_rl number false false = ne_eqb _ _ (λ e. omega arith)

-- the row by these parts
abbrev atomic_by : ℕ → Bool → Bool → Bool → ℕ → ℕ → ℕ → Option Instr
atomic_by k wide aq rl rd rs1 rs2 =
    option_or
    (option_map (λ op. Amo op wide aq rl rd rs1 rs2) (op_at amo_funct5 amo_ops k))
    (option_or
    (when (k == 0x02 && rs2 == 0) (Some (LoadReserved wide aq rl rd rs1)))
    (when (k == 0x03) (Some (StoreCond wide aq rl rd rs1 rs2))))

atomic_written : (number : ℕ) (wide aq rl : Bool) (rd rs1 rs2 : ℕ) → atomic_row (atomic_format number wide aq rl rd rs1 rs2) ≡ atomic_by number wide aq rl rd rs1 rs2
unfolding atomic_row
atomic_written number true aq rl rd rs1 rs2 =
    let f = atomic_format number true aq rl rd rs1 rs2 in
    ap (λ k. atomic_by k true (f.funct7 / 2 % 2 == 1) (f.funct7 % 2 == 1) rd rs1 rs2) (atomic_number number aq rl)
    ∙ ap₂ (λ x y. atomic_by number true x y rd rs1 rs2) (atomic_aq number aq rl) (atomic_rl number aq rl)
atomic_written number false aq rl rd rs1 rs2 =
    let f = atomic_format number false aq rl rd rs1 rs2 in
    ap (λ k. atomic_by k false (f.funct7 / 2 % 2 == 1) (f.funct7 % 2 == 1) rd rs1 rs2) (atomic_number number aq rl)
    ∙ ap₂ (λ x y. atomic_by number false x y rd rs1 rs2) (atomic_aq number aq rl) (atomic_rl number aq rl)

amo_written : (op : AmoOp) (wide aq rl : Bool) (rd rs1 rs2 : ℕ) → atomic_row (fields_for (Amo op wide aq rl rd rs1 rs2)) ≡ Some (Amo op wide aq rl rd rs1 rs2)
amo_written op wide aq rl rd rs1 rs2 =
    atomic_written (amo_funct5 op) wide aq rl rd rs1 rs2
    ∙ ap (λ o. option_or (option_map (λ x. Amo x wide aq rl rd rs1 rs2) o)
    (option_or (when (amo_funct5 op == 0x02 && rs2 == 0) (Some (LoadReserved wide aq rl rd rs1))) (when (amo_funct5 op == 0x03) (Some (StoreCond wide aq rl rd rs1 rs2)))))
    (amo_known op)

-- no whole word has SFENCE.VMA's highest bits
no_call : (n : ℕ) → 0x105 < n → lookup (λ k. k == n) calls ≡ None
no_call n h =
    let a : (0x000 == n) ≡ false = ne_eqb _ _ (λ e. omega arith) in
    let b : (0x001 == n) ≡ false = ne_eqb _ _ (λ e. omega arith) in
    let c : (0x102 == n) ≡ false = ne_eqb _ _ (λ e. omega arith) in
    let d : (0x105 == n) ≡ false = ne_eqb _ _ (λ e. omega arith) in
    simp (a, b, c, d) refl

when_none : {X : Type 0} (b : Bool) → when {X = X} b None ≡ None
when_none true = refl
when_none false = refl

sfence_written : (rs1 rs2 : ℕ) → system_row (fields_for (SfenceVma rs1 rs2)) ≡ Some (SfenceVma rs1 rs2)
unfolding system_row
sfence_written rs1 rs2 =
    ap (λ o. option_or (option_or (when (rs1 == 0) o) (Some (SfenceVma rs1 rs2))) None) (no_call (0x09 * 2 ^ 5 + rs2) (omega arith))
    ∙ ap (λ o. option_or (option_or o (Some (SfenceVma rs1 rs2))) None) (when_none (rs1 == 0))

-- ---- all of them

pub row_written : (i : Instr) → OperandsInRange i → IsRow i → row_of (fields_for i) ≡ Some i
unfolding row_of lui_row auipc_row fence_row system_row
row_written (Lui rd imm) h l = ap (λ n. Some (Lui rd n)) (omega arith)
row_written (Auipc rd imm) h l = ap (λ n. Some (Auipc rd n)) (omega arith)
row_written (Jal rd off) h l = jal_written rd off h.1
row_written (Jalr rd rs1 imm) h l = jalr_written rd rs1 imm h.1
row_written (Branch op rs1 rs2 off) h l = branch_written op rs1 rs2 off h.1
row_written (Load op rd rs1 imm) h l = load_written op rd rs1 imm h.1
row_written (Store op rs1 rs2 imm) h l = store_written op rs1 rs2 imm h.1
row_written (AluImm op rd rs1 imm) h l = alu_imm_written op rd rs1 imm h.1
row_written (AluWImm op rd rs1 imm) h l = alu_w_imm_written op rd rs1 imm h.1
row_written (Alu op rd rs1 rs2) h l = alu_written op rd rs1 rs2
row_written (AluW op rd rs1 rs2) h l = alu_w_written op rd rs1 rs2
row_written (Mul op rd rs1 rs2) h l = mul_written op rd rs1 rs2
row_written (Fence rd rs1 imm) h l = ap (λ n. Some (Fence rd rs1 n)) (imm_joined imm)
row_written (FenceI rd rs1 imm) h l = ap (λ n. Some (FenceI rd rs1 n)) (imm_joined imm)
row_written Ecall h l = refl
row_written Ebreak h l = refl
row_written Sret h l = refl
row_written Wfi h l = refl
row_written (SfenceVma rs1 rs2) h l = sfence_written rs1 rs2
row_written (Csr op rd csr src) h l = csr_written op rd csr src
row_written (LoadReserved wide aq rl rd rs1) h l = atomic_written 0x02 wide aq rl rd rs1 0
row_written (StoreCond wide aq rl rd rs1 rs2) h l = atomic_written 0x03 wide aq rl rd rs1 rs2
row_written (Amo op wide aq rl rd rs1 rs2) h l = amo_written op wide aq rl rd rs1 rs2
row_written (Illegal word) h l = absurd l

registers : (opcode rd funct3 rs1 rs2 funct7 : ℕ) → opcode < 2 ^ 7 → (rd < 2 ^ 5) × (rs1 < 2 ^ 5) × (rs2 < 2 ^ 5) → funct3 < 2 ^ 3 → funct7 < 2 ^ 7 → AreFields (r_format opcode rd funct3 rs1 rs2 funct7)
registers opcode rd funct3 rs1 rs2 funct7 a b c d = record { opcode = a; rd = b.0; funct3 = c; rs1 = b.1; rs2 = b.2; funct7 = d }

atomic_small : (number : ℕ) (wide aq rl : Bool) (rd rs1 rs2 : ℕ) → number < 2 ^ 5 → (rd < 32) × (rs1 < 32) × (rs2 < 32) → AreFields (atomic_format number wide aq rl rd rs1 rs2)
atomic_small number wide aq rl rd rs1 rs2 p q =
    let a = flag_small wide in let b = flag_small aq in let c = flag_small rl in
    registers 0x2F rd (2 + from_bool wide) rs1 rs2 (number * 4 + from_bool aq * 2 + from_bool rl) (omega arith) q (omega arith) (omega arith)

imm_bound : (op : AluOp) (imm : ℤ) → IsImm op imm → (imm_functs op).0 * 2 ^ 6 + unsigned 12 imm < 2 ^ 12
imm_bound alu.Add imm h = let n : unsigned 12 imm < 2 ^ 12 = unsigned_small 12 imm refl h in omega arith
imm_bound alu.Sub imm h = absurd h
imm_bound alu.Sll imm h = let e : unsigned 12 imm ≡ h.0 = ap (unsigned 12) h.1 in omega (arith, h.2)
imm_bound alu.Slt imm h = let n : unsigned 12 imm < 2 ^ 12 = unsigned_small 12 imm refl h in omega arith
imm_bound alu.Sltu imm h = let n : unsigned 12 imm < 2 ^ 12 = unsigned_small 12 imm refl h in omega arith
imm_bound alu.Xor imm h = let n : unsigned 12 imm < 2 ^ 12 = unsigned_small 12 imm refl h in omega arith
imm_bound alu.Srl imm h = let e : unsigned 12 imm ≡ h.0 = ap (unsigned 12) h.1 in omega (arith, h.2)
imm_bound alu.Sra imm h = let e : unsigned 12 imm ≡ h.0 = ap (unsigned 12) h.1 in omega (arith, h.2)
imm_bound alu.Or imm h = let n : unsigned 12 imm < 2 ^ 12 = unsigned_small 12 imm refl h in omega arith
imm_bound alu.And imm h = let n : unsigned 12 imm < 2 ^ 12 = unsigned_small 12 imm refl h in omega arith

imm_w_bound : (op : AluWOp) (imm : ℤ) → IsImmW op imm → (alu_w_functs op).0 * 2 ^ 5 + unsigned 12 imm < 2 ^ 12
imm_w_bound alu_w.Addw imm h = let n : unsigned 12 imm < 2 ^ 12 = unsigned_small 12 imm refl h in omega arith
imm_w_bound alu_w.Subw imm h = absurd h
imm_w_bound alu_w.Sllw imm h = let e : unsigned 12 imm ≡ h.0 = ap (unsigned 12) h.1 in omega (arith, h.2)
imm_w_bound alu_w.Srlw imm h = let e : unsigned 12 imm ≡ h.0 = ap (unsigned 12) h.1 in omega (arith, h.2)
imm_w_bound alu_w.Sraw imm h = let e : unsigned 12 imm ≡ h.0 = ap (unsigned 12) h.1 in omega (arith, h.2)

pub fields_small : (i : Instr) → OperandsInRange i → AreFields (fields_for i)
fields_small (Lui rd imm) h = registers _ _ _ _ _ _ (omega arith) (omega arith, omega arith, omega arith) (omega arith) (omega arith)
fields_small (Auipc rd imm) h = registers _ _ _ _ _ _ (omega arith) (omega arith, omega arith, omega arith) (omega arith) (omega arith)
fields_small (Jal rd off) h = let n : unsigned 21 off < 2 ^ 21 = unsigned_small 21 off refl h.1.0 in registers _ _ _ _ _ _ (omega arith) (omega arith, omega arith, omega arith) (omega arith) (omega arith)
fields_small (Jalr rd rs1 imm) h = let n : unsigned 12 imm < 2 ^ 12 = unsigned_small 12 imm refl h.1 in registers _ _ _ _ _ _ (omega arith) (omega arith, omega arith, omega arith) (omega arith) (omega arith)
fields_small (Branch op rs1 rs2 off) h = let n : unsigned 13 off < 2 ^ 13 = unsigned_small 13 off refl h.1.0 in registers _ _ _ _ _ _ (omega arith) (omega arith, omega arith, omega arith) (branch_small op) (omega arith)
fields_small (Load op rd rs1 imm) h = let n : unsigned 12 imm < 2 ^ 12 = unsigned_small 12 imm refl h.1 in registers _ _ _ _ _ _ (omega arith) (omega arith, omega arith, omega arith) (load_small op) (omega arith)
fields_small (Store op rs1 rs2 imm) h = let n : unsigned 12 imm < 2 ^ 12 = unsigned_small 12 imm refl h.1 in registers _ _ _ _ _ _ (omega arith) (omega arith, omega arith, omega arith) (store_small op) (omega arith)
fields_small (AluImm op rd rs1 imm) h = let n = imm_bound op imm h.1 in let m = imm_small op in registers _ _ _ _ _ _ (omega arith) (omega arith, omega arith, omega arith) (omega arith) (omega arith)
fields_small (AluWImm op rd rs1 imm) h = let n = imm_w_bound op imm h.1 in let m = (alu_w_small op).1 in registers _ _ _ _ _ _ (omega arith) (omega arith, omega arith, omega arith) (omega arith) (omega arith)
fields_small (Alu op rd rs1 rs2) h = registers _ _ _ _ _ _ (omega arith) h (alu_small op).1 (alu_small op).0
fields_small (AluW op rd rs1 rs2) h = registers _ _ _ _ _ _ (omega arith) h (alu_w_small op).1 (alu_w_small op).0
fields_small (Mul op rd rs1 rs2) h = registers _ _ _ _ _ _ (mul_opcode_small op) h (mul_small op).1 (mul_small op).0
fields_small (Fence rd rs1 imm) h = registers _ _ _ _ _ _ (omega arith) (omega arith, omega arith, omega arith) (omega arith) (omega arith)
fields_small (FenceI rd rs1 imm) h = registers _ _ _ _ _ _ (omega arith) (omega arith, omega arith, omega arith) (omega arith) (omega arith)
fields_small Ecall h = registers _ _ _ _ _ _ (omega arith) (omega arith, omega arith, omega arith) (omega arith) (omega arith)
fields_small Ebreak h = registers _ _ _ _ _ _ (omega arith) (omega arith, omega arith, omega arith) (omega arith) (omega arith)
fields_small Sret h = registers _ _ _ _ _ _ (omega arith) (omega arith, omega arith, omega arith) (omega arith) (omega arith)
fields_small Wfi h = registers _ _ _ _ _ _ (omega arith) (omega arith, omega arith, omega arith) (omega arith) (omega arith)
fields_small (SfenceVma rs1 rs2) h = registers _ _ _ _ _ _ (omega arith) h (omega arith) (omega arith)
fields_small (Csr op rd csr src) h = registers _ _ _ _ _ _ (omega arith) (omega arith, omega arith, omega arith) (csr_small op) (omega arith)
fields_small (LoadReserved wide aq rl rd rs1) h = atomic_small 0x02 wide aq rl rd rs1 0 (omega arith) h
fields_small (StoreCond wide aq rl rd rs1 rs2) h = atomic_small 0x03 wide aq rl rd rs1 rs2 (omega arith) h
fields_small (Amo op wide aq rl rd rs1 rs2) h = atomic_small (amo_funct5 op) wide aq rl rd rs1 rs2 (amo_small op) h
fields_small (Illegal word) h = AreFields_of word h.0
