-- What a word is read for (a profile of RERI 1.0, "Error bank and error record registers").
use Rattle.std.specs.Prelude.{ℕ}
use Rattle.poison_mem.specs.declared.cell.UseKind.{UseKind}
use Rattle.poison_mem.specs.declared.cell.UseKind.TheVariants.{Fetch, Walk, Load, Amo, Sbi}

-- the number of a use in an event
abbrev pub use_number : UseKind → ℕ
use_number Fetch = 0
use_number Walk = 1
use_number Load = 2
use_number Amo = 3
use_number Sbi = 4
