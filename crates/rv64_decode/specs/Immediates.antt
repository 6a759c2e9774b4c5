-- The immediates of the formats (unprivileged manual, "Immediate Encoding Variants").
use Rattle.std.specs.Prelude.{ℕ, ℤ, pos, negsuc, ◌+◌, ◌-◌, ◌*◌, ◌/◌, ◌%◌, ◌^◌, ◌<◌, suc}
use Rattle.rv64_decode.specs.declared.fields.Fields.{Fields}

-- the number of so many bits that is read as z in two's complement
abbrev pub unsigned : ℕ → ℤ → ℕ
unsigned bits (pos n) = n
unsigned bits (negsuc n) = 2 ^ bits - suc n

-- z fits so many bits as two's complement
abbrev pub FitsBits : ℕ → ℤ → Type 0
FitsBits bits (pos n) = n < 2 ^ (bits - 1)
FitsBits bits (negsuc n) = n < 2 ^ (bits - 1)

-- I format: bits 31:20 of the word
abbrev pub imm_i : Fields → ℕ
imm_i f = f.funct7 * 2 ^ 5 + f.rs2

-- S format: bits 31:25 and 11:7
abbrev pub imm_s : Fields → ℕ
imm_s f = f.funct7 * 2 ^ 5 + f.rd

-- B format: bit 31 is bit 12 of the offset, bit 7 is bit 11, bits 30:25 are bits 10:5, and bits 11:8 are bits 4:1
abbrev pub imm_b : Fields → ℕ
imm_b f = f.funct7 / 2 ^ 6 * 2 ^ 12 + f.rd % 2 * 2 ^ 11 + f.funct7 % 2 ^ 6 * 2 ^ 5 + f.rd / 2 * 2

-- U format: bits 31:12
abbrev pub imm_u : Fields → ℕ
imm_u f = f.funct7 * 2 ^ 13 + f.rs2 * 2 ^ 8 + f.rs1 * 2 ^ 3 + f.funct3

-- of these 20 bits: bit 31 of the word is bit 20 of JAL's offset, bits 19:12 stay, bit 20 is bit 11, and bits 30:21
-- are bits 10:1
abbrev pub offset_of_upper : ℕ → ℕ
offset_of_upper u = u / 2 ^ 19 * 2 ^ 20 + u % 2 ^ 8 * 2 ^ 12 + u / 2 ^ 8 % 2 * 2 ^ 11 + u / 2 ^ 9 % 2 ^ 10 * 2

-- the 20 bits in which JAL's offset stands
abbrev pub upper_of_offset : ℕ → ℕ
upper_of_offset n = n / 2 ^ 20 * 2 ^ 19 + n / 2 % 2 ^ 10 * 2 ^ 9 + n / 2 ^ 11 % 2 * 2 ^ 8 + n / 2 ^ 12 % 2 ^ 8

-- J format
abbrev pub imm_j : Fields → ℕ
imm_j f = offset_of_upper (imm_u f)
