-- The text of an instruction: its name, and after one space its operands, joined by commas (this project's text, as assemblers
-- write it).
use Rattle.std.specs.Prelude.{ℕ, List, [], ◌∷◌, ◌++◌, codes}
use Rattle.rv64_decode.specs.declared.instr.Instr.{Instr}
use Rattle.rv64_text.specs.declared.operands.Operand.{Operand}
use Rattle.rv64_text.specs.Names.{mnemonic}
use Rattle.rv64_text.specs.Operands.{operand_text, operands}

-- operands, each after a comma
abbrev pub after_commas : List Operand → List ℕ
after_commas [] = []
after_commas (o ∷ os) = codes "," ++ operand_text o ++ after_commas os

-- operands joined by commas, after a space
abbrev pub operands_text : List Operand → List ℕ
operands_text [] = []
operands_text (o ∷ os) = codes " " ++ operand_text o ++ after_commas os

-- the text of an instruction that stands at the pc
abbrev pub text_of : Instr → ℕ → List ℕ
text_of i pc = mnemonic i ++ operands_text (operands i pc)
