-- The inject lines of a record, in the order in which they act.
use Rattle.std.specs.Prelude.{ℕ, zero, suc, List, [], ◌∷◌, ◌++◌, if◌then◌else◌}
use Rattle.poison_mem.specs.declared.record_id.RecordId.{RecordId}
use Rattle.reri_bank.specs.StateAt.{is_record}
use Rattle.reri_inject.specs.Due.{InjectLine}
use Rattle.fault_script.specs.declared.lines.Act.{Act}
use Rattle.fault_script.specs.declared.lines.Act.TheVariants.{Flip, Scrub, Inject, Control}
use Rattle.fault_script.specs.declared.lines.ScriptLine.{ScriptLine}
use Rattle.fault_script.specs.Steps.{at_step}

-- the inject line of a record that an act in step n is, where it is one
abbrev pub injected_by : RecordId → ℕ → Act → List InjectLine
injected_by id n (Flip w bit) = []
injected_by id n (Scrub w) = []
injected_by id n (Inject bank rec class delay address) =
    if is_record bank rec id then record { step = n; delay = delay; injection = record { class = class; addr = address } } ∷ [] else []
injected_by id n (Control bank rec value) = []

-- those among some lines of step n
abbrev pub injected_in : RecordId → ℕ → List ScriptLine → List InjectLine
injected_in id n [] = []
injected_in id n (line ∷ lines) = injected_by id n line.act ++ injected_in id n lines

-- those of the steps below n
unfoldable pub inject_lines : List ScriptLine → RecordId → ℕ → List InjectLine
inject_lines lines id zero = []
inject_lines lines id (suc n) = inject_lines lines id n ++ injected_in id n (at_step n lines)
