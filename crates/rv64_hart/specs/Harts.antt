-- What a step of one hart does to all harts of its machine, which stand in the list by their numbers.
use Rattle.std.specs.Prelude.{◌≡◌, ℕ, zero, suc, ◌+◌, ◌-◌, ◌*◌, ◌==◌, ◌≤◌, Bool, true, false, List, [], ◌∷◌, ◌++◌, length, map, slice_set, slice_index_or, if◌then◌else◌}
use Rattle.std.specs.Int.{from_bool}
use Rattle.ras_bits.specs.Bits.{has_bit}
use Rattle.poison_mem.specs.declared.event.Event.{Event}
use Rattle.poison_mem.specs.Bus.{BusMeaning}
use Rattle.poison_mem.specs.Asking.{Asking, Played, Ended, Poisoned, play}
use Rattle.sbi_calls.specs.declared.stop.GuestStop.TheVariants.{ConsoleFull}
use Rattle.rv64_hart.specs.declared.ends.Effect.{Effect}
use Rattle.rv64_hart.specs.declared.ends.Effect.TheVariants.{Nothing, Start, StopSelf, Ipi}
use Rattle.rv64_hart.specs.declared.ends.TurnEnd.{TurnEnd}
use Rattle.rv64_hart.specs.declared.ends.TurnEnd.TheVariants as ends
use Rattle.rv64_hart.specs.declared.peers.Peers.{Peers}
use Rattle.rv64_hart.specs.State.{ArchitecturalState, reset, started_at, stopped, interrupted, saw_store}
use Rattle.rv64_hart.specs.Outcome.{Outcome, Store, has_room}
use Rattle.rv64_hart.specs.Step.{stored, end_of}

-- a hart after these stores of another hart, in order
abbrev pub saw_stores : List Store → ArchitecturalState → ArchitecturalState
saw_stores [] h = h
saw_stores (s ∷ stores) h = saw_stores stores (saw_store s.w h)

-- what an effect of hart `acting` does to a hart
abbrev pub affected : ℕ → Effect → ArchitecturalState → ArchitecturalState
affected acting Nothing h = h
affected acting (Start id entry opaque) h = if h.number == id then started_at id entry opaque else h
affected acting StopSelf h = if h.number == acting then stopped h else h
affected acting (Ipi harts) h = if has_bit harts h.number then interrupted h else h

-- the harts after the effect of a step of hart `acting`; only a step with which the machine goes on has one
abbrev pub effect_applied : ℕ → TurnEnd → List ArchitecturalState → List ArchitecturalState
effect_applied acting (ends.Went effect) harts = map (affected acting effect) harts
effect_applied acting (ends.Stop stop) harts = harts
effect_applied acting (ends.Poisoned w use_kind) harts = harts

-- The harts after an outcome of hart `acting`: all others see its stores, it has its new state, and then comes its effect.
abbrev pub end_applied : ℕ → Outcome → List ArchitecturalState → List ArchitecturalState
end_applied acting o harts =
    effect_applied acting (end_of o.ending) (slice_set (map (saw_stores o.stores) harts) acting o.after)

-- a bit for each hart, that of hart 0 the lowest: whether it is started
abbrev pub started_bits : List ArchitecturalState → ℕ
started_bits [] = 0
started_bits (h ∷ harts) = from_bool h.started + 2 * started_bits harts

-- what hart `acting` of these is told: how many they are, and which are started
abbrev pub peers_of : List ArchitecturalState → Peers
peers_of harts = record { harts = length harts; started = started_bits harts }

-- hart i of them
abbrev pub hart_at : List ArchitecturalState → ℕ → ArchitecturalState
hart_at harts i = slice_index_or harts i (reset i 0)

-- the harts of these numbers from n on, in order
abbrev pub AreNumberedFrom : ℕ → List ArchitecturalState → Type 0
AreNumberedFrom n [] = Unit {0}
AreNumberedFrom n (h ∷ harts) = (h.number ≡ n) × AreNumberedFrom (n + 1) harts

-- the harts of a machine: 1 to 4, by their numbers
pub record AreHarts (harts : List ArchitecturalState) : Type 0 where
  pub some : 1 ≤ length harts
  pub few : length harts ≤ 4
  pub numbered : AreNumberedFrom 0 harts

-- n stopped harts from hart `id` on, with this pc
abbrev pub stopped_from : ℕ → ℕ → ℕ → List ArchitecturalState
stopped_from id zero entry = []
stopped_from id (suc n) entry = reset id entry ∷ stopped_from (id + 1) n entry

-- the harts of a machine that starts at this address: hart 0 is started, the others are stopped
abbrev pub first_harts : ℕ → ℕ → List ArchitecturalState
first_harts n entry = started_at 0 entry 0 ∷ stopped_from 1 (n - 1) entry

-- the harts of a machine, and the memory that they share
pub record HartsState (B : Type 0) : Type 0 where
  pub harts : List ArchitecturalState
  pub memory : B

-- ---- a step of one of them

-- what a step of several harts works on
pub record HartsScene (B L : Type 0) : Type 0 where
  pub harts : List ArchitecturalState
  pub place : ℕ
  pub console : List ℕ
  pub bus : B
  pub log : L

-- what it answers and leaves
pub record HartsStepped (B L : Type 0) : Type 0 where
  pub answer : TurnEnd
  pub after : HartsScene B L

-- the scene of these parts
abbrev pub harts_scene : {B L : Type 0} → List ArchitecturalState → ℕ → List ℕ → B → L → HartsScene B L
harts_scene harts place console bus log = record { harts = harts; place = place; console = console; bus = bus; log = log }

-- this answer, and this scene after it
abbrev pub harts_stepped : {B L : Type 0} → TurnEnd → HartsScene B L → HartsStepped B L
harts_stepped answer after = record { answer = answer; after = after }

-- what an outcome of hart `acting` leaves, by whether the console has room for its bytes
abbrev pub harts_finished_by : {B L : Type 0} → Bool → BusMeaning B → (L → Event → L) → ℕ → HartsScene B L → Outcome → B → L → HartsStepped B L
harts_finished_by false bus logged acting s o b log = harts_stepped (ends.Stop ConsoleFull) (record s { bus = b; log = log })
harts_finished_by true bus logged acting s o b log =
    let after = stored bus logged o.stores b log in
    harts_stepped (end_of o.ending) (harts_scene (end_applied acting o s.harts) (s.place + o.taken) (s.console ++ o.bytes) after.0 after.1)

-- what a step of hart `acting` makes of its turn that was played; at poison nothing changes but by the reads
unfoldable pub harts_finished : {B L : Type 0} → BusMeaning B → (L → Event → L) → ℕ → HartsScene B L → Played Outcome B L → HartsStepped B L
harts_finished bus logged acting s (Ended o b log) =
    harts_finished_by (has_room s.console o.bytes) bus logged acting s o b log
harts_finished bus logged acting s (Poisoned w use_kind b log) =
    harts_stepped (ends.Poisoned w use_kind) (record s { bus = b; log = log })

-- a step of hart `acting` whose turn is this
abbrev pub harts_step_of : {B L : Type 0} → BusMeaning B → (L → Event → L) → ℕ → Asking Outcome → HartsScene B L → HartsStepped B L
harts_step_of bus logged acting m s = harts_finished bus logged acting s (play bus logged m s.bus s.log)
