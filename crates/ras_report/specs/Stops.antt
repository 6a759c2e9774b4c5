-- Why a run stopped.
use Rattle.std.specs.Prelude.{ℕ, List, ◌++◌, codes, decimal}
use Rattle.ras_bits.specs.Map.{word_address}
use Rattle.ras_numbers.specs.Numbers.{address_text}
use Rattle.poison_mem.specs.declared.cell.UseKind.{UseKind}
use Rattle.poison_mem.specs.declared.cell.UseKind.TheVariants.{Fetch, Walk, Load, Amo, Sbi}
use Rattle.ras_machine.specs.declared.ending.Stop.{Stop}
use Rattle.ras_machine.specs.declared.ending.Stop.TheVariants.{Shutdown, Reboot, Budget, ConsoleFull, Consumed, Injected}

-- what a poisoned word was asked for
abbrev pub use_text : UseKind → List ℕ
use_text Fetch = codes "fetch"
use_text Walk = codes "walk"
use_text Load = codes "load"
use_text Amo = codes "amo"
use_text Sbi = codes "sbi"

-- why a run stopped
abbrev pub stop_text : Stop → List ℕ
stop_text (Shutdown reason) = codes "shutdown:" ++ decimal reason
stop_text (Reboot reboot_kind) = codes "reboot:" ++ decimal reboot_kind
stop_text Budget = codes "budget"
stop_text ConsoleFull = codes "console-full"
stop_text (Consumed w use_kind pc) =
    codes "consumed:" ++ address_text (word_address w) ++ codes ":" ++ use_text use_kind ++ codes ":" ++ address_text pc
stop_text (Injected bank rec) = codes "injected:" ++ decimal bank ++ codes "." ++ decimal rec
