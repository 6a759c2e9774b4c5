-- The report of a run: its ending, what firmware collected, and the registers of its harts.
use Rattle.std.specs.Prelude.{ℕ, List, [], ◌++◌, length, Option, Some, None, codes, decimal}
use Rattle.ras_bits.specs.Map.{word_address}
use Rattle.ras_numbers.specs.Numbers.{address_text}
use Rattle.ras_firmware.specs.Records.{KeptState}
use Rattle.rv64_hart.specs.State.{ArchitecturalState}
use Rattle.ras_machine.specs.declared.ending.Ending.{Ending}
use Rattle.ras_report.specs.Stops.{stop_text}
use Rattle.ras_report.specs.Harts.{hart_lines}

-- the step and the word of the first third flip, where there was one
abbrev pub beyond_text : Option (ℕ × ℕ) → List ℕ
beyond_text None = codes "none"
beyond_text (Some (step, w)) = decimal step ++ codes ":" ++ address_text (word_address w)

-- the line of an ending: why the run stopped, after how many steps, how many records are kept and dropped, and the first third flip
abbrev pub ending_line : Ending → KeptState → Option (ℕ × ℕ) → List ℕ
ending_line ending records beyond =
    codes "stop=" ++ stop_text ending.stop ++ codes " steps=" ++ decimal ending.steps
    ++ codes " records=" ++ decimal (length records.views) ++ codes " dropped=" ++ decimal records.left_out
    ++ codes " beyond=" ++ beyond_text beyond ++ codes "\n"

-- the report of a run: the line of its ending, and a line for each of its harts, of which there are so many
abbrev pub report_of : Ending → KeptState → Option (ℕ × ℕ) → List ArchitecturalState → ℕ → List ℕ
report_of ending records beyond harts count = ending_line ending records beyond ++ hart_lines [] harts count

-- the line of an ending of the flat machine
abbrev pub flat_ending_line : Ending → List ℕ
flat_ending_line ending = codes "flat stop=" ++ stop_text ending.stop ++ codes " steps=" ++ decimal ending.steps ++ codes "\n"

-- the report of a run of the flat machine: the line of its ending, and a line for each of its harts, all behind its name
abbrev pub flat_report_of : Ending → List ArchitecturalState → List ℕ
flat_report_of ending harts = flat_ending_line ending ++ hart_lines (codes "flat ") harts (length harts)
