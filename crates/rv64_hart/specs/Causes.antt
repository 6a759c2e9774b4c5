-- How a step ends, by the play of its turn, and what it leaves where the machine doesn't go on.
use Rattle.std.specs.Prelude.{◌≡◌, ◌≢◌, Bool, true, false}
use Rattle.poison_mem.specs.Asking.{Played, Ended, Poisoned}
use Rattle.sbi_calls.specs.declared.stop.GuestStop.TheVariants.{ConsoleFull}
use Rattle.rv64_hart.specs.declared.ends.TurnEnd.TheVariants as ends
use Rattle.rv64_hart.specs.State.{next_pc}
use Rattle.rv64_hart.specs.Outcome.{Outcome, OutcomeEnd, Goes, Stops, has_room}
use Rattle.rv64_hart.specs.Step.{Scene, Stepped}

-- where the console has room: it goes on with this effect; or a call stops the machine, and of the hart the pc alone changes
abbrev pub EndCauses : {B L : Type 0} → OutcomeEnd → Scene B L → B → L → Stepped B L → Type 0
EndCauses (Goes effect) s b log t = t.answer ≡ ends.Went effect
EndCauses (Stops stop) s b log t =
    (t.answer ≡ ends.Stop stop) × (stop ≢ ConsoleFull) × (t.after ≡ record s { hart = next_pc s.hart; bus = b; log = log })

-- by whether the console has room; where it has none, nothing changes but by the reads
abbrev pub RoomCauses : {B L : Type 0} → Bool → OutcomeEnd → Scene B L → B → L → Stepped B L → Type 0
RoomCauses false ending s b log t = (t.answer ≡ ends.Stop ConsoleFull) × (t.after ≡ record s { bus = b; log = log })
RoomCauses true ending s b log t = EndCauses ending s b log t

-- Each end of a step has one cause. At poison nothing changes but by the reads; these are the bus and the log of the play.
abbrev pub Causes : {B L : Type 0} → Scene B L → Played Outcome B L → Stepped B L → Type 0
Causes s (Poisoned w use_kind b log) t = (t.answer ≡ ends.Poisoned w use_kind) × (t.after ≡ record s { bus = b; log = log })
Causes s (Ended o b log) t = RoomCauses (has_room s.console o.bytes) o.ending s b log t
