-- The lines of harts.
use Rattle.std.specs.Prelude.{ℕ, zero, suc, ◌==◌, Bool, if◌then◌else◌, List, [], ◌++◌, codes, decimal}
use Rattle.ras_numbers.specs.Numbers.{address_text}
use Rattle.rv64_hart.specs.State.{ArchitecturalState, register}
use Rattle.rv64_hart.specs.Harts.{hart_at}

-- a register with its number, where it isn't 0
abbrev pub register_text : ℕ → ℕ → List ℕ
register_text i value = if value == 0 then [] else codes " x" ++ decimal i ++ codes "=" ++ address_text value

-- the registers x1 to x n that aren't 0, in rising order
unfoldable pub registers_to : ArchitecturalState → ℕ → List ℕ
registers_to hart zero = []
registers_to hart (suc n) = registers_to hart n ++ register_text (suc n) (register hart (suc n))

-- which hart a line is of: hart 0's has no number, and doesn't say whether it is started
abbrev pub hart_name : ℕ → Bool → List ℕ
hart_name i started =
    if i == 0 then codes "regs" else codes "hart " ++ decimal i ++ (if started then codes " started" else codes " stopped")

-- the line of hart i behind a prefix: its pc, and its registers that aren't 0
abbrev pub hart_line : List ℕ → ℕ → ArchitecturalState → List ℕ
hart_line prefix i hart =
    prefix ++ hart_name i hart.started ++ codes " pc=" ++ address_text hart.pc ++ registers_to hart 31 ++ codes "\n"

-- the lines of the first n harts, each behind the prefix
unfoldable pub hart_lines : List ℕ → List ArchitecturalState → ℕ → List ℕ
hart_lines prefix harts zero = []
hart_lines prefix harts (suc n) = hart_lines prefix harts n ++ hart_line prefix n (hart_at harts n)
