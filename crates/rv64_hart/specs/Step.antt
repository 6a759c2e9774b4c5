-- What a step over a bus makes of a turn.
use Rattle.std.specs.Prelude.{ℕ, Bool, true, false, List, [], ◌∷◌, ◌++◌, ◌+◌}
use Rattle.poison_mem.specs.declared.event.Event.{Event}
use Rattle.poison_mem.specs.Bus.{BusMeaning, logged_all}
use Rattle.poison_mem.specs.Asking.{Asking, Played, Ended, Poisoned, play}
use Rattle.sbi_calls.specs.declared.stop.GuestStop.TheVariants.{ConsoleFull}
use Rattle.rv64_hart.specs.declared.ends.TurnEnd.{TurnEnd}
use Rattle.rv64_hart.specs.declared.ends.TurnEnd.TheVariants as ends
use Rattle.rv64_hart.specs.State.{ArchitecturalState}
use Rattle.rv64_hart.specs.Outcome.{Outcome, OutcomeEnd, Goes, Stops, Store, has_room}

-- what a step works on: the hart, the place in the input, the console's bytes, the bus, and the log of events
pub record Scene (B L : Type 0) : Type 0 where
  pub hart : ArchitecturalState
  pub place : ℕ
  pub console : List ℕ
  pub bus : B
  pub log : L

-- what a step answers and leaves
pub record Stepped (B L : Type 0) : Type 0 where
  pub answer : TurnEnd
  pub after : Scene B L

-- the scene of these parts
abbrev pub scene : {B L : Type 0} → ArchitecturalState → ℕ → List ℕ → B → L → Scene B L
scene hart place console bus log = record { hart = hart; place = place; console = console; bus = bus; log = log }

-- this answer, and this scene after it
abbrev pub stepped : {B L : Type 0} → TurnEnd → Scene B L → Stepped B L
stepped answer after = record { answer = answer; after = after }

-- a bus and a log after stores, in order
abbrev pub stored : {B L : Type 0} → BusMeaning B → (L → Event → L) → List Store → B → L → B × L
stored bus logged [] b log = (b, log)
stored bus logged (s ∷ stores) b log =
    let storing = bus.store b s.w s.value s.mask in
    stored bus logged stores storing.after (logged_all logged log storing.events)

-- how a step ends
abbrev pub end_of : OutcomeEnd → TurnEnd
end_of (Goes effect) = ends.Went effect
end_of (Stops stop) = ends.Stop stop

-- what an outcome leaves, by whether the console has room for its bytes
abbrev pub finished_by : {B L : Type 0} → Bool → BusMeaning B → (L → Event → L) → Scene B L → Outcome → B → L → Stepped B L
finished_by false bus logged s o b log = stepped (ends.Stop ConsoleFull) (record s { bus = b; log = log })
finished_by true bus logged s o b log =
    let after = stored bus logged o.stores b log in
    stepped (end_of o.ending) (scene o.after (s.place + o.taken) (s.console ++ o.bytes) after.0 after.1)

-- What a step makes of a turn that was played: where the console has room, the stores, the bytes and the state. Else, and
-- at poison, hart, place and console are as before, and nothing is stored.
unfoldable pub finished : {B L : Type 0} → BusMeaning B → (L → Event → L) → Scene B L → Played Outcome B L → Stepped B L
finished bus logged s (Ended o b log) = finished_by (has_room s.console o.bytes) bus logged s o b log
finished bus logged s (Poisoned w use_kind b log) = stepped (ends.Poisoned w use_kind) (record s { bus = b; log = log })

-- a step over a bus whose turn is this
abbrev pub step_of : {B L : Type 0} → BusMeaning B → (L → Event → L) → Asking Outcome → Scene B L → Stepped B L
step_of bus logged m s = finished bus logged s (play bus logged m s.bus s.log)

-- a step whose log is shown by another
abbrev pub stepped_with_log : {B L M : Type 0} → (L → M) → Stepped B L → Stepped B M
stepped_with_log f t = stepped t.answer (scene t.after.hart t.after.place t.after.console t.after.bus (f t.after.log))
