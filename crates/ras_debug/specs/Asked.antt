-- The requests that a machine with a RAM of so many words can answer: the words that they name are there.
use Rattle.std.specs.Prelude.{◌≡◌, ℕ, ◌+◌, ◌*◌, ◌≤◌, ◌%◌}
use Rattle.ras_bits.specs.declared.map.TheConstants.{RAM_START, LAST_STEP}
use Rattle.ras_bits.specs.Map.{word_address}
use Rattle.ras_debug.specs.declared.fields.TheConstants.{MOST_LINES}
use Rattle.ras_debug.specs.declared.requests.Request.{Request}
use Rattle.ras_debug.specs.declared.requests.Request.TheVariants as request

abbrev pub CanAnswer : ℕ → Request → Type 0
CanAnswer ram_words request.Nothing = Unit {0}
CanAnswer ram_words (request.Step n) = (1 ≤ n) × (n ≤ LAST_STEP)
CanAnswer ram_words request.Run = Unit {0}
CanAnswer ram_words (request.Break address) = Unit {0}
CanAnswer ram_words request.Regs = Unit {0}
CanAnswer ram_words (request.Mem w n) = (n ≤ MOST_LINES) × (w + n ≤ ram_words)
CanAnswer ram_words request.Poison = Unit {0}
CanAnswer ram_words (request.Bank bank) = bank ≤ 2
CanAnswer ram_words (request.List address n) =
    (n ≤ MOST_LINES) × (RAM_START ≤ address) × (address % 4 ≡ 0) × (address + 4 * n ≤ word_address ram_words)
CanAnswer ram_words request.Quit = Unit {0}
