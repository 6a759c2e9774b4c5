-- What is done in a step, in this order: the budget, due injections, the script's lines, the patrol, the look for a fatal error,
-- the drain, and the hart of this turn.
use Rattle.std.specs.Prelude.{ℕ, ◌==◌, List, [], ◌∷◌, ◌++◌, map, Option, Some, None, if◌then◌else◌}
use Rattle.std.specs.List.{push}
use Rattle.poison_mem.specs.declared.event.Event.{Event}
use Rattle.poison_mem.specs.Bus.{BusMeaning}
use Rattle.poison_mem.specs.Cells.{is_third}
use Rattle.poison_mem.specs.Event.{consumption_of}
use Rattle.poison_mem.specs.Flips.{FlipMeaning}
use Rattle.poison_mem.specs.RecordId.{record_id}
use Rattle.poison_mem.specs.declared.record_id.RecordId.{RecordId}
use Rattle.ras_bits.specs.Map.{word_address}
use Rattle.fault_script.specs.declared.lines.Act.{Act}
use Rattle.fault_script.specs.declared.lines.Act.TheVariants.{Flip, Scrub, Inject, Control}
use Rattle.fault_script.specs.declared.lines.ScriptLine.{ScriptLine}
use Rattle.fault_script.specs.Steps.{at_step}
use Rattle.scrubber.specs.Patrol.{due_at, moved_on}
use Rattle.reri_bank.specs.Banks.{first_critical}
use Rattle.reri_inject.specs.Inject.{staged_now}
use Rattle.ras_firmware.specs.Firmware.{FirmwareCall, LogEvent, SetNow, WriteControl, SetStaged, firmware_run, firmware_stopped, drain_calls}
use Rattle.rv64_hart.specs.Harts.{HartsStepped, hart_at, harts_scene, harts_step_of}
use Rattle.rv64_hart.specs.declared.ends.TurnEnd.{TurnEnd}
use Rattle.rv64_hart.specs.declared.ends.TurnEnd.TheVariants as ends
use Rattle.ras_machine.specs.declared.ending.Stop.{Stop}
use Rattle.ras_machine.specs.declared.ending.Stop.TheVariants as stops
use Rattle.ras_machine.specs.declared.settings.Settings.{Settings}
use Rattle.ras_machine.specs.declared.state.MachineState.{MachineState}
use Rattle.ras_machine.specs.declared.ending.Ending.{Ending}
use Rattle.ras_machine.specs.Acted.{Acted, goes, stops_as, ◌>>=◌, ending_at}
use Rattle.ras_machine.specs.CountDowns.{count_calls}
use Rattle.ras_machine.specs.Ends.{turn_stop, turn_steps, fatal_of}
use Rattle.ras_machine.specs.Schedule.{Given}
use Rattle.ras_machine.specs.Flat.{acting, turn_of}

-- the error side is told these calls: the one way to change it in a step
abbrev pub told : {B : Type 0} → List FirmwareCall → MachineState B → Acted (MachineState B)
told calls s = record { after = record s { firmware = firmware_run s.firmware calls }; calls = calls; stop = None }

-- events are told in their order
abbrev pub logs : List Event → List FirmwareCall
logs events = map LogEvent events

-- 1. Where as many steps were made as the budget, the run stops.
abbrev pub budget_looked_at : {B : Type 0} → Settings → MachineState B → Acted (MachineState B)
budget_looked_at settings s = if s.steps == settings.budget then stops_as stops.Budget s else goes s

-- 2. Events get this step's number from now on; staged injections come one step nearer, and those that are due are logged.
abbrev pub injections_due : {B : Type 0} → MachineState B → Acted (MachineState B)
injections_due s = told (SetNow s.steps ∷ count_calls s.firmware.banks) s

-- how many words the memory of a machine has
abbrev pub words_in : {B : Type 0} → BusMeaning B → MachineState B → ℕ
words_in bus s = bus.words s.shared.memory

-- ---- 3. the script's lines

-- the memory after an act: a flip strikes it, a scrub scrubs it
abbrev pub struck : {B : Type 0} → FlipMeaning B → Act → B → B
struck flips (Flip w bit) b = flips.cells.strike b w bit
struck flips (Scrub w) b = (flips.cells.scrub b w).after
struck flips (Inject bank rec class delay addr) b = b
struck flips (Control bank rec value) b = b

-- what is told for the record that a bank and a number name
abbrev pub calls_for : Option RecordId → (RecordId → FirmwareCall) → List FirmwareCall
calls_for None call = []
calls_for (Some id) call = call id ∷ []

-- what an act tells: a scrub its events, an injection that it is staged, a control that it is written
abbrev pub act_calls : {B : Type 0} → FlipMeaning B → Act → B → List FirmwareCall
act_calls flips (Flip w bit) b = []
act_calls flips (Scrub w) b = logs (flips.cells.scrub b w).events
act_calls flips (Inject bank rec class delay addr) b = calls_for (record_id bank rec) (λ id. SetStaged id (Some (staged_now class delay addr)))
act_calls flips (Control bank rec value) b = calls_for (record_id bank rec) (λ id. WriteControl id value)

-- the step and the word of an act in step n that is a third flip of its word
abbrev pub third_flip : {B : Type 0} → FlipMeaning B → ℕ → Act → B → Option (ℕ × ℕ)
third_flip flips n (Flip w bit) b = if is_third (flips.cells.cell b w) then Some (n, w) else None
third_flip flips n (Scrub w) b = None
third_flip flips n (Inject bank rec class delay addr) b = None
third_flip flips n (Control bank rec value) b = None

-- what was found first
abbrev pub or_else : {X : Type 0} → Option X → Option X → Option X
or_else (Some x) other = Some x
or_else None other = other

-- an act: it changes the memory, the first third flip of a word is kept, and the error side is told
abbrev pub act_done : {B : Type 0} → FlipMeaning B → Act → MachineState B → Acted (MachineState B)
act_done flips act s =
    told (act_calls flips act s.shared.memory) (record s {
      shared = record s.shared { memory = struck flips act s.shared.memory };
      beyond = or_else s.beyond (third_flip flips s.steps act s.shared.memory);
    })

-- the acts of lines, in their order
abbrev pub lines_acted : {B : Type 0} → FlipMeaning B → List ScriptLine → MachineState B → Acted (MachineState B)
lines_acted flips [] s = goes s
lines_acted flips (line ∷ lines) s = act_done flips line.act s >>= lines_acted flips lines

-- ---- 4. to 6.

-- 4. Where a patrol is due, its word is scrubbed, and it moves on.
abbrev pub patrolled_at : {B : Type 0} → FlipMeaning B → Option ℕ → MachineState B → Acted (MachineState B)
patrolled_at flips None s = goes s
patrolled_at flips (Some w) s =
    let scrubbed = flips.cells.scrub s.shared.memory w in
    told (logs scrubbed.events) (record s { shared = record s.shared { memory = scrubbed.after }; patrol = moved_on s.patrol })

abbrev pub patrolled : {B : Type 0} → FlipMeaning B → MachineState B → Acted (MachineState B)
patrolled flips s = patrolled_at flips (due_at s.patrol s.steps) s

-- 5. Where a record keeps a critical error, the run stops with the first that does.
abbrev pub stopped_at : {B : Type 0} → Option (ℕ × ℕ) → MachineState B → Acted (MachineState B)
stopped_at None s = goes s
stopped_at (Some found) s = stops_as (stops.Injected found.0 found.1) s

abbrev pub fatal_looked_at : {B : Type 0} → MachineState B → Acted (MachineState B)
fatal_looked_at s = stopped_at (first_critical s.firmware.banks) s

-- 6. The drain does what it has to do in this step.
abbrev pub drained : {B : Type 0} → MachineState B → Acted (MachineState B)
drained s = told (drain_calls s.steps s.poll) s

-- ---- 7. the hart

-- the step of the hart whose turn it is, over the memory and a list of events
abbrev pub hart_step : {B : Type 0} → BusMeaning B → Given → MachineState B → HartsStepped B (List Event)
hart_step bus given s =
    harts_step_of bus push (acting given s.steps s.shared.harts) (turn_of given s.steps (bus.words s.shared.memory) s.shared.harts s.place)
    (harts_scene s.shared.harts s.place s.console s.shared.memory [])

-- the consumption that a step of hart i with this pc ends with, where it does
abbrev pub consumption_in : ℕ → TurnEnd → ℕ → List Event
consumption_in i (ends.Went effect) pc = []
consumption_in i (ends.Stop stop) pc = []
consumption_in i (ends.Poisoned w use_kind) pc = consumption_of use_kind i (word_address w) pc ∷ []

-- a machine after that step of hart i: its events are told, and the consumption of poison before the run stops there
abbrev pub after_turn : {B : Type 0} → ℕ → MachineState B → HartsStepped B (List Event) → Acted (MachineState B)
after_turn i s t =
    let pc = (hart_at s.shared.harts i).pc in
    record (told (logs (t.after.log ++ consumption_in i t.answer pc)) (record s {
      shared = record { harts = t.after.harts; memory = t.after.bus };
      place = t.after.place;
      console = t.after.console;
      steps = turn_steps t.answer s.steps;
    })) { stop = turn_stop t.answer pc }

-- 7. The hart whose turn it is makes its step.
abbrev pub hart_acted : {B : Type 0} → BusMeaning B → Given → MachineState B → Acted (MachineState B)
hart_acted bus given s = after_turn (acting given s.steps s.shared.harts) s (hart_step bus given s)

-- ---- the step

-- One step.
unfoldable pub machine_step : {B : Type 0} → BusMeaning B → FlipMeaning B → Settings → Given → List ScriptLine → MachineState B
    → Acted (MachineState B)
machine_step bus flips settings given script s = do
  a ← budget_looked_at settings s
  b ← injections_due a
  c ← lines_acted flips (at_step b.steps script) b
  d ← patrolled flips c
  e ← fatal_looked_at d
  f ← drained e
  hart_acted bus given f

-- the state after the actions before the look for a fatal error
abbrev pub prepared : {B : Type 0} → FlipMeaning B → List ScriptLine → MachineState B → MachineState B
prepared flips script s =
    let begun = (injections_due s).after in
    (patrolled flips (lines_acted flips (at_step begun.steps script) begun).after).after

-- ---- the stop

-- at a stop every valid record is emitted, and a fatal one is shown in the boot error region
abbrev pub at_stop : {B : Type 0} → Option Stop → MachineState B → MachineState B
at_stop None s = s
at_stop (Some stop) s = record s { firmware = firmware_stopped (fatal_of stop) s.firmware }

-- the state that actions leave, and the ending that they bring, where they bring one
abbrev pub left_by : {B : Type 0} → Acted (MachineState B) → MachineState B
left_by a = at_stop a.stop a.after

abbrev pub step_ending : {B : Type 0} → Acted (MachineState B) → Option Ending
step_ending a = ending_at a.stop a.after.steps
