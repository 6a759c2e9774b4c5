-- The causes of a step's end.
use Rattle.std.proofs.Common.{◌≡◌, ℕ, ◌+◌, ◌-◌, Bool, true, false, List, [], ◌++◌, refl, arith, append-nil}
use Rattle.poison_mem.specs.declared.cell.Cell.{Cell}
use Rattle.poison_mem.specs.declared.cell.Cell.TheVariants.{Good, Poison}
use Rattle.poison_mem.specs.declared.cell.UseKind.{UseKind}
use Rattle.poison_mem.specs.declared.event.Event.{Event}
use Rattle.poison_mem.specs.Bus.{BusMeaning, logged_all}
use Rattle.poison_mem.specs.Asking.{Asking, Answer, Ask, Played, Ended, Poisoned, by_cell, play, AsksWithin}
use Rattle.rv64_hart.specs.Around.{Around}
use Rattle.rv64_hart.specs.State.{ArchitecturalState, next_pc}
use Rattle.rv64_hart.specs.Outcome.{Outcome, OutcomeEnd, Goes, Stops, Store, has_room}
use Rattle.rv64_hart.specs.Step.{Scene, Stepped, scene, stored, finished_by, finished, step_of}
use Rattle.rv64_hart.specs.Causes.{RoomCauses, Causes}
use Rattle.rv64_hart.specs.Turn.{turn}
use Rattle.rv64_hart.specs.Within.{OutcomeWithin, StopsAlone, CanBeDone}
use Rattle.rv64_hart.specs.WithinLaws.{turn_within}

-- the answer of a play that ended is as this says
abbrev pub EndsAs : {X B L : Type 0} → (X → Type 0) → Played X B L → Type 0
EndsAs IsRight (Ended x b log) = IsRight x
EndsAs IsRight (Poisoned w use_kind b log) = Unit {0}

ends_by_cell : {X B L : Type 0} (IsRight : X → Type 0) (cell : Cell) (go_on : ℕ → Played X B L) (w : ℕ) (use_kind : UseKind) (b : B) (log : L)
    → ((value : ℕ) → EndsAs IsRight (go_on value)) → EndsAs IsRight (by_cell cell go_on (Poisoned w use_kind b log))
ends_by_cell IsRight (Good value) go_on w use_kind b log each = each value
ends_by_cell IsRight Poison go_on w use_kind b log each = tt

pub play_ends : {X B L : Type 0} (bus : BusMeaning B) (logged : L → Event → L) (words : ℕ) (IsRight : X → Type 0) (m : Asking X) (most : ℕ) (b : B) (log : L)
    → AsksWithin words most IsRight m → EndsAs IsRight (play bus logged m b log)
play_ends bus logged words IsRight (Answer x) most b log fact = fact
play_ends bus logged words IsRight (Ask w use_kind go_on) most b log (there, left, each) =
    ends_by_cell IsRight (bus.read b w).cell _ w use_kind _ _
    (λ value. play_ends bus logged words IsRight (go_on value) (most - 1) (bus.read b w).after (logged_all logged log (bus.read b w).events) (each value))

-- the hart has the same number and is as started, and what is done to other harts can be done
abbrev pub Stays : {B L : Type 0} → ArchitecturalState → Stepped B L → Type 0
Stays h t = (t.after.hart.number ≡ h.number) × (t.after.hart.started ≡ h.started) × CanBeDone t.answer

module _ {B L : Type 0} (bus : BusMeaning B) (logged : L → Event → L) where
  -- a stop leaves the next pc, and nothing else
  stop_leaves : (h after : ArchitecturalState) (place taken : ℕ) (console bytes : List ℕ) (stores : List Store) (b : B) (log : L)
      → after ≡ next_pc h → taken ≡ 0 → stores ≡ [] → bytes ≡ []
      → scene after (place + taken) (console ++ bytes) (stored bus logged stores b log).0 (stored bus logged stores b log).1 ≡ scene (next_pc h) place console b log
  stop_leaves h after place taken console bytes stores b log moved untaken unstored unwritten =
      rw (moved, untaken, unstored, unwritten) grind (arith, append-nil)

  room_caused : (fits : Bool) (s : Scene B L) (after : ArchitecturalState) (taken : ℕ) (stores : List Store) (bytes : List ℕ) (ending : OutcomeEnd) (b : B) (log : L)
      → (let o : Outcome = record { after = after; taken = taken; stores = stores; bytes = bytes; ending = ending } in StopsAlone s.hart o ending)
      → (let o : Outcome = record { after = after; taken = taken; stores = stores; bytes = bytes; ending = ending } in RoomCauses fits ending s b log (finished_by fits bus logged s o b log))
  room_caused false s after taken stores bytes ending b log alone = (refl, refl)
  room_caused true s after taken stores bytes (Goes effect) b log alone = refl
  room_caused true s after taken stores bytes (Stops stop) b log (called, moved, untaken, unstored, unwritten) =
      (refl, called, stop_leaves s.hart after s.place taken s.console bytes stores b log moved untaken unstored unwritten)

  finished_caused : (words : ℕ) (s : Scene B L) (P : Played Outcome B L) → EndsAs (OutcomeWithin words s.hart) P → Causes s P (finished bus logged s P)
  unfolding finished
  finished_caused words s (Ended o b log) within = room_caused (has_room s.console o.bytes) s o.after o.taken o.stores o.bytes o.ending b log within.stops
  finished_caused words s (Poisoned w use_kind b log) within = (refl, refl)

  pub turn_caused : (around : Around) (s : Scene B L) (t : Stepped B L)
      → step_of bus logged (turn around s.hart) s ≡ t → Causes s (play bus logged (turn around s.hart) s.bus s.log) t
  turn_caused around s t e =
      rw (← e) (finished_caused around.words s (play bus logged (turn around s.hart) s.bus s.log)
      (play_ends bus logged around.words (OutcomeWithin around.words s.hart) (turn around s.hart) 600 s.bus s.log (turn_within around s.hart)))

  -- a step leaves the hart's number, and whether it is started, and what it does to other harts can be done
  stays_by : (fits : Bool) (words : ℕ) (s : Scene B L) (o : Outcome) (b : B) (log : L) → OutcomeWithin words s.hart o
      → Stays s.hart (finished_by fits bus logged s o b log)
  stays_by true words s o b log within = (within.number, within.started, within.effect)
  stays_by false words s o b log within = (refl, refl, tt)

  finished_stays : (words : ℕ) (s : Scene B L) (P : Played Outcome B L) → EndsAs (OutcomeWithin words s.hart) P → Stays s.hart (finished bus logged s P)
  unfolding finished
  finished_stays words s (Ended o b log) within = stays_by (has_room s.console o.bytes) words s o b log within
  finished_stays words s (Poisoned w use_kind b log) within = (refl, refl, tt)

  pub turn_stays : (around : Around) (s : Scene B L) (t : Stepped B L) → step_of bus logged (turn around s.hart) s ≡ t → Stays s.hart t
  turn_stays around s t e =
      rw (← e) (finished_stays around.words s (play bus logged (turn around s.hart) s.bus s.log)
      (play_ends bus logged around.words (OutcomeWithin around.words s.hart) (turn around s.hart) 600 s.bus s.log (turn_within around s.hart)))
