-- A word of 32 bits as the six base fields of the instruction formats (unprivileged manual, "Base Instruction Formats").
use Rattle.std.specs.Prelude.{ℕ, ◌+◌, ◌*◌, ◌^◌, ◌<◌}
use Rattle.ras_bits.specs.Fields.{field}
use Rattle.rv64_decode.specs.declared.fields.Fields.{Fields}

-- the base fields of a word: bits 6:0, 11:7, 14:12, 19:15, 24:20 and 31:25
unfoldable pub fields_of : ℕ → Fields
fields_of word = record {
  opcode = field word 0 7;
  rd = field word 7 5;
  funct3 = field word 12 3;
  rs1 = field word 15 5;
  rs2 = field word 20 5;
  funct7 = field word 25 7;
}

-- each number fits the bits of its field
pub record AreFields (f : Fields) : Type 0 where
  pub opcode : f.opcode < 2 ^ 7
  pub rd : f.rd < 2 ^ 5
  pub funct3 : f.funct3 < 2 ^ 3
  pub rs1 : f.rs1 < 2 ^ 5
  pub rs2 : f.rs2 < 2 ^ 5
  pub funct7 : f.funct7 < 2 ^ 7

-- the word that has these fields
unfoldable pub word_of_fields : Fields → ℕ
word_of_fields f =
    f.opcode + f.rd * 2 ^ 7 + f.funct3 * 2 ^ 12 + f.rs1 * 2 ^ 15 + f.rs2 * 2 ^ 20 + f.funct7 * 2 ^ 25
