-- What the instructions of RV64IMA give, as whole numbers modulo 2 ^ 64 (unprivileged manual, chapters RV32I, RV64I, M and A).
use Rattle.std.specs.Prelude.{ℕ, ℤ, pos, ◌+◌, ◌-◌, ◌*◌, ◌/◌, ◌%◌, ◌^◌, ◌*ℤ◌, ◌-ℤ◌, ◌==◌, Bool, nat_lt, not, int_lt, int_div, int_rem, unsigned_abs, bit_and, bit_or, bit_xor, if◌then◌else◌}
use Rattle.std.specs.Int.{Width, w32, w64, cast_signed, from_bool, int_shr, int_rem_euclid}
use mir.Val.{bits}
use Rattle.ras_bits.specs.Fields.{sign_extended}
use Rattle.rv64_decode.specs.declared.instr.AluOp.{AluOp}
use Rattle.rv64_decode.specs.declared.instr.AluOp.TheVariants as alu
use Rattle.rv64_decode.specs.declared.instr.AluWOp.{AluWOp}
use Rattle.rv64_decode.specs.declared.instr.AluWOp.TheVariants as alu_w
use Rattle.rv64_decode.specs.declared.instr.MulOp.{MulOp}
use Rattle.rv64_decode.specs.declared.instr.MulOp.TheVariants as mul
use Rattle.rv64_decode.specs.declared.instr.AmoOp.{AmoOp}
use Rattle.rv64_decode.specs.declared.instr.AmoOp.TheVariants as amo
use Rattle.rv64_decode.specs.declared.instr.BranchOp.{BranchOp}
use Rattle.rv64_decode.specs.declared.instr.BranchOp.TheVariants as branch

-- the low 32 bits of a register, read as two's complement
abbrev pub signed_32 : ℕ → ℤ
signed_32 a = cast_signed w32 (a % 2 ^ 32)

-- an integer modulo 2 ^ 64
abbrev pub modulo : ℤ → ℕ
modulo z = unsigned_abs (int_rem_euclid z (pos (2 ^ 64)))

-- the register instructions on whole registers; a shift goes by the low six bits of b
abbrev pub alu_result : AluOp → ℕ → ℕ → ℕ
alu_result alu.Add a b = (a + b) % 2 ^ 64
alu_result alu.Sub a b = modulo (pos a -ℤ pos b)
alu_result alu.Sll a b = a * 2 ^ (b % 64) % 2 ^ 64
alu_result alu.Slt a b = from_bool (int_lt (cast_signed w64 a) (cast_signed w64 b))
alu_result alu.Sltu a b = from_bool (nat_lt a b)
alu_result alu.Xor a b = bit_xor a b
alu_result alu.Srl a b = a / 2 ^ (b % 64)
alu_result alu.Sra a b = modulo (int_shr (cast_signed w64 a) (b % 64))
alu_result alu.Or a b = bit_or a b
alu_result alu.And a b = bit_and a b

-- those on the low 32 bits, whose result's sign is extended; a shift goes by the low five bits of b
abbrev pub alu_w_result : AluWOp → ℕ → ℕ → ℕ
alu_w_result alu_w.Addw a b = sign_extended (a + b) 32
alu_w_result alu_w.Subw a b = sign_extended (modulo (pos a -ℤ pos b)) 32
alu_w_result alu_w.Sllw a b = sign_extended (a * 2 ^ (b % 32)) 32
alu_w_result alu_w.Srlw a b = sign_extended (a % 2 ^ 32 / 2 ^ (b % 32)) 32
alu_w_result alu_w.Sraw a b = modulo (int_shr (signed_32 a) (b % 32))

-- Multiplications, divisions and remainders. A quotient rounds toward zero, and a remainder has the dividend's sign. Division by zero gives all ones and
-- the dividend.
abbrev pub mul_result : MulOp → ℕ → ℕ → ℕ
mul_result mul.Mul a b = a * b % 2 ^ 64
mul_result mul.Mulh a b = modulo (int_shr (cast_signed w64 a *ℤ cast_signed w64 b) 64)
mul_result mul.Mulhsu a b = modulo (int_shr (cast_signed w64 a *ℤ pos b) 64)
mul_result mul.Mulhu a b = a * b / 2 ^ 64
mul_result mul.Div a b = if b == 0 then 2 ^ 64 - 1 else modulo (int_div (cast_signed w64 a) (cast_signed w64 b))
mul_result mul.Divu a b = if b == 0 then 2 ^ 64 - 1 else a / b
mul_result mul.Rem a b = if b == 0 then a else modulo (int_rem (cast_signed w64 a) (cast_signed w64 b))
mul_result mul.Remu a b = if b == 0 then a else a % b
mul_result mul.Mulw a b = sign_extended (a * b) 32
mul_result mul.Divw a b = if b % 2 ^ 32 == 0 then 2 ^ 64 - 1 else sign_extended (modulo (int_div (signed_32 a) (signed_32 b))) 32
mul_result mul.Divuw a b = if b % 2 ^ 32 == 0 then 2 ^ 64 - 1 else sign_extended (a % 2 ^ 32 / (b % 2 ^ 32)) 32
mul_result mul.Remw a b = if b % 2 ^ 32 == 0 then sign_extended a 32 else modulo (int_rem (signed_32 a) (signed_32 b))
mul_result mul.Remuw a b = if b % 2 ^ 32 == 0 then sign_extended a 32 else sign_extended (a % 2 ^ 32 % (b % 2 ^ 32)) 32

-- the condition of a branch
abbrev pub branch_taken : BranchOp → ℕ → ℕ → Bool
branch_taken branch.Beq a b = a == b
branch_taken branch.Bne a b = not (a == b)
branch_taken branch.Blt a b = int_lt (cast_signed w64 a) (cast_signed w64 b)
branch_taken branch.Bge a b = not (int_lt (cast_signed w64 a) (cast_signed w64 b))
branch_taken branch.Bltu a b = nat_lt a b
branch_taken branch.Bgeu a b = not (nat_lt a b)

-- what an atomic memory operation stores, from the old value and the register's, two numbers of this width
abbrev pub amo_value : Width → AmoOp → ℕ → ℕ → ℕ
amo_value w amo.Swap old b = b
amo_value w amo.Add old b = (old + b) % 2 ^ bits w
amo_value w amo.Xor old b = bit_xor old b
amo_value w amo.And old b = bit_and old b
amo_value w amo.Or old b = bit_or old b
amo_value w amo.Min old b = if int_lt (cast_signed w b) (cast_signed w old) then b else old
amo_value w amo.Max old b = if int_lt (cast_signed w old) (cast_signed w b) then b else old
amo_value w amo.Minu old b = if nat_lt b old then b else old
amo_value w amo.Maxu old b = if nat_lt old b then b else old

-- The narrow form works on the low 32 bits of both, and the sign of its result is extended.
abbrev pub amo_result : AmoOp → ℕ → ℕ → Bool → ℕ
amo_result op old b wide =
    if wide then amo_value w64 op old b else sign_extended (amo_value w32 op (old % 2 ^ 32) (b % 2 ^ 32)) 32
