-- Accesses to memory: the bytes of a word that a load takes and a store changes (unprivileged manual, "Load and Store
-- Instructions").
use Rattle.std.specs.Prelude.{ℕ, Bool, ◌-◌, ◌*◌, ◌/◌, ◌%◌, ◌^◌, ◌==◌, if◌then◌else◌}
use Rattle.ras_bits.specs.Fields.{field, sign_extended}
use Rattle.rv64_decode.specs.declared.instr.LoadOp.{LoadOp}
use Rattle.rv64_decode.specs.declared.instr.LoadOp.TheVariants.{Lb, Lh, Lw, Ld, Lbu, Lhu, Lwu}
use Rattle.rv64_decode.specs.declared.instr.StoreOp.{StoreOp}
use Rattle.rv64_decode.specs.declared.instr.StoreOp.TheVariants.{Sb, Sh, Sw, Sd}
use Rattle.rv64_hart.specs.declared.access.Width.{Width}
use Rattle.rv64_hart.specs.declared.access.Width.TheVariants.{Byte, Halfword, Word, Doubleword}

-- the instruction at the pc, in the word that holds it
abbrev pub instruction_at : ℕ → ℕ → ℕ
instruction_at pc value = if pc % 8 == 4 then value / 2 ^ 32 else value % 2 ^ 32

-- ---- widths

-- how many bytes an access takes
abbrev pub bytes_in : Width → ℕ
bytes_in Byte = 1
bytes_in Halfword = 2
bytes_in Word = 4
bytes_in Doubleword = 8

-- the width of a load
abbrev pub load_width : LoadOp → Width
load_width Lb = Byte
load_width Lh = Halfword
load_width Lw = Word
load_width Ld = Doubleword
load_width Lbu = Byte
load_width Lhu = Halfword
load_width Lwu = Word

-- the width of a store
abbrev pub store_width : StoreOp → Width
store_width Sb = Byte
store_width Sh = Halfword
store_width Sw = Word
store_width Sd = Doubleword

-- an access of this width at this address is aligned
abbrev pub is_aligned : Width → ℕ → Bool
is_aligned width address = address % bytes_in width == 0

-- ---- bytes

-- the lowest bit, in its word, of the byte at this address
abbrev pub first_bit : ℕ → ℕ
first_bit address = 8 * (address % 8)

-- what a load leaves in the register, from its lowest bit on in the value of its word: two's complement with the sign extended, or a plain number
abbrev pub load_result : LoadOp → ℕ → ℕ → ℕ
load_result Lb value lo = sign_extended (value / 2 ^ lo) 8
load_result Lh value lo = sign_extended (value / 2 ^ lo) 16
load_result Lw value lo = sign_extended (value / 2 ^ lo) 32
load_result Ld value lo = value
load_result Lbu value lo = field value lo 8
load_result Lhu value lo = field value lo 16
load_result Lwu value lo = field value lo 32

-- a mask of so many bytes of a word from this one on, one bit for each byte
abbrev pub byte_mask : ℕ → ℕ → ℕ
byte_mask first count = (2 ^ count - 1) * 2 ^ first % 2 ^ 8

-- a value with its lowest byte at this byte of a word
abbrev pub placed : ℕ → ℕ → ℕ
placed first value = value * 2 ^ (8 * first) % 2 ^ 64

-- the bytes that a store changes: as many as the width has, from the address's byte on
abbrev pub store_mask : Width → ℕ → ℕ
store_mask width address = byte_mask (address % 8) (bytes_in width)

-- the value of a store, with its lowest byte at the address's byte
abbrev pub store_value : ℕ → ℕ → ℕ
store_value address value = placed (address % 8) value
