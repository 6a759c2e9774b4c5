-- One record alone: its live registers as the drain treats them.
use Rattle.std.proofs.Common.{false, List, [], ◌++◌, Option, None}
use Rattle.std.specs.Option.{option_to_list}
use Rattle.poison_mem.specs.declared.event.RecordView.{RecordView}
use Rattle.reri_bank.specs.declared.layout.Control.{Control}
use Rattle.reri_bank.specs.declared.state.RecState.{RecState}
use Rattle.reri_bank.specs.State.{state_logged}
use Rattle.reri_bank.specs.Bank.{state_staged}
use Rattle.ras_firmware.specs.Drain.{note_of, marked, emission, cleared}
use Rattle.ras_firmware.specs.Pieces.{RecordAction, Log, Write, Stage, Mark, Clear}
use Rattle.std.specs.List.{fold}

-- a record's state, its note, and what was emitted of it
pub record RecordCell : Type 0 where
  pub state : RecState
  pub note : Option RecordView
  pub emitted : List RecordView

-- a new record with this control
abbrev pub new_cell : Control → RecordCell
new_cell control = record { state = record { kept = None; rdip = false; control = control; staged = None }; note = None; emitted = [] }

-- a record after what happens to it
abbrev pub cell_after : RecordCell → RecordAction → RecordCell
cell_after c (Log e) = record { state = state_logged c.state e; note = c.note; emitted = c.emitted }
cell_after c (Write control) = record { state = record { kept = c.state.kept; rdip = c.state.rdip; control = control; staged = c.state.staged }; note = c.note; emitted = c.emitted }
cell_after c (Stage staged) = record { state = state_staged staged c.state; note = c.note; emitted = c.emitted }
cell_after c Mark = record { state = marked c.state; note = note_of c.state; emitted = c.emitted }
cell_after c Clear = record { state = cleared c.note c.state; note = None; emitted = c.emitted ++ option_to_list (emission c.note c.state) }

-- a record after all that happens to it
abbrev pub cell_run : RecordCell → List RecordAction → RecordCell
cell_run c actions = fold cell_after c actions
