-- What the debugger shows of a machine: memory as a read would see it, poisoned words, error banks and instructions.
use Rattle.std.specs.Prelude.{ℕ, zero, suc, ◌+◌, ◌*◌, ◌&&◌, Bool, true, false, nat_lt, if◌then◌else◌, List, [], ◌++◌, unwrap_or, codes, decimal}
use Rattle.std.specs.Int.{from_bool}
use Rattle.ras_bits.specs.Map.{word_address, word_at}
use Rattle.ras_numbers.specs.Numbers.{address_text, hex_text}
use Rattle.poison_mem.specs.declared.cell.Cell.{Cell}
use Rattle.poison_mem.specs.declared.cell.Cell.TheVariants.{Good, Poison}
use Rattle.mem_stack.specs.Stack.{stack_flips}
use Rattle.reri_bank.specs.Bank.{register_at}
use Rattle.reri_bank.specs.BankState.{BankState}
use Rattle.reri_bank.specs.declared.layout.TheConstants.{CONTROL, STRIDE, STATUS, ADDR, INFO, SUPPL, TIMESTAMP}
use Rattle.rv64_decode.specs.Decoding.{row}
use Rattle.rv64_text.specs.Text.{text_of}
use Rattle.rv64_hart.specs.Access.{instruction_at}
use Rattle.ras_machine.specs.Machine.{StackMachine}
use Rattle.ras_debug.specs.declared.fields.TheConstants.{MOST_LINES}

-- word w of RAM as a read would see it
abbrev pub seen : StackMachine → ℕ → Cell
seen m w = stack_flips.view m.state.shared.memory w

-- ---- memory

abbrev pub cell_text : Cell → List ℕ
cell_text (Good value) = address_text value
cell_text Poison = codes "poison"

-- word w
abbrev pub word_line : StackMachine → ℕ → List ℕ
word_line m w = address_text (word_address w) ++ codes " " ++ cell_text (seen m w) ++ codes "\n"

-- so many words from w on
unfoldable pub word_lines : StackMachine → ℕ → ℕ → List ℕ
word_lines m w zero = []
word_lines m w (suc n) = word_lines m w n ++ word_line m (w + n)

-- ---- poisoned words

abbrev pub is_poison : Cell → Bool
is_poison (Good value) = false
is_poison Poison = true

-- how many of the first so many words are poisoned
unfoldable pub poison_count : StackMachine → ℕ → ℕ
poison_count m zero = 0
poison_count m (suc w) = poison_count m w + from_bool (is_poison (seen m w))

-- a poisoned word, where fewer than 256 stand before it
abbrev pub poison_line : StackMachine → ℕ → List ℕ
poison_line m w =
    if is_poison (seen m w) && nat_lt (poison_count m w) MOST_LINES then address_text (word_address w) ++ codes "\n" else []

-- those of the first so many words
unfoldable pub poison_lines : StackMachine → ℕ → List ℕ
poison_lines m zero = []
poison_lines m (suc w) = poison_lines m w ++ poison_line m w

-- the poisoned words of a RAM of so many words, and how many there are
abbrev pub poison_text : StackMachine → ℕ → List ℕ
poison_text m words = poison_lines m words ++ codes "total " ++ decimal (poison_count m words) ++ codes "\n"

-- ---- error banks

-- a register of record r, by its offset from the record's first one
abbrev pub register_in : BankState → ℕ → ℕ → ℕ
register_in bank r offset = unwrap_or (register_at bank (CONTROL + STRIDE * r + offset)) 0

-- a register behind its name
abbrev pub register_text : List ℕ → ℕ → List ℕ
register_text name value = name ++ address_text value

-- what record r of a bank shows of its kept event
abbrev pub kept_text : BankState → ℕ → List ℕ
kept_text bank r =
    register_text (codes " addr ") (register_in bank r ADDR) ++ register_text (codes " info ") (register_in bank r INFO)
    ++ register_text (codes " suppl ") (register_in bank r SUPPL) ++ register_text (codes " time ") (register_in bank r TIMESTAMP)

-- record r of a bank
abbrev pub record_line : BankState → ℕ → List ℕ
record_line bank r =
    codes "rec " ++ decimal r ++ register_text (codes " control ") (register_in bank r 0)
    ++ register_text (codes " status ") (register_in bank r STATUS) ++ kept_text bank r ++ codes "\n"

-- the first so many records of a bank
unfoldable pub record_lines : BankState → ℕ → List ℕ
record_lines bank zero = []
record_lines bank (suc n) = record_lines bank n ++ record_line bank n

-- ---- instructions

-- an instruction word, and its text where it stands at this address
abbrev pub disassembled : ℕ → ℕ → List ℕ
disassembled address word = codes "0x" ++ hex_text 8 word ++ codes " " ++ text_of (row word) address

-- the instruction at an address, in the word that holds it
abbrev pub instruction_text : ℕ → Cell → List ℕ
instruction_text address (Good value) = disassembled address (instruction_at address value)
instruction_text address Poison = codes "poison"

abbrev pub instruction_line : StackMachine → ℕ → List ℕ
instruction_line m address =
    address_text address ++ codes " " ++ instruction_text address (seen m (word_at address)) ++ codes "\n"

-- so many instructions from an address on
unfoldable pub instruction_lines : StackMachine → ℕ → ℕ → List ℕ
instruction_lines m address zero = []
instruction_lines m address (suc n) = instruction_lines m address n ++ instruction_line m (address + 4 * n)
