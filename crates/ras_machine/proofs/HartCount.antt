-- A step of a hart leaves as many harts.
use Rattle.std.proofs.Common.{ℕ, ◌-◌, ◌≤◌, ◌≡◌, ◌∙◌, arith, Bool, true, false, List, length, map, refl}
use Rattle.std.specs.Prelude.{slice_set}
use Rattle.std.proofs.lemmas.List.{length-map, length-set}
use Rattle.poison_mem.specs.declared.event.Event.{Event}
use Rattle.poison_mem.specs.Bus.{BusMeaning}
use Rattle.poison_mem.specs.Asking.{Asking, Played, Ended, Poisoned, play}
use Rattle.rv64_hart.specs.State.{ArchitecturalState}
use Rattle.rv64_hart.specs.Outcome.{Outcome, has_room}
use Rattle.rv64_hart.specs.Step.{end_of}
use Rattle.rv64_hart.specs.Harts.{first_harts, HartsScene, saw_stores, affected, effect_applied, end_applied, harts_finished_by, harts_finished, harts_step_of}
use Rattle.rv64_hart.proofs.HartsLemmas.{length_stopped}
use Rattle.rv64_hart.specs.declared.ends.TurnEnd.{TurnEnd}
use Rattle.rv64_hart.specs.declared.ends.TurnEnd.TheVariants as ends

-- the first harts are as many as they are to be
pub first_count : (n entry : ℕ) → 1 ≤ n → length (first_harts n entry) ≡ n
first_count n entry some = let rest = length_stopped 1 (n - 1) entry in omega arith

effect_count : (i : ℕ) (answer : TurnEnd) (harts : List ArchitecturalState) → length (effect_applied i answer harts) ≡ length harts
effect_count i (ends.Went effect) harts = length-map harts (affected i effect)
effect_count i (ends.Stop stop) harts = refl
effect_count i (ends.Poisoned w use_kind) harts = refl

end_count : (i : ℕ) (o : Outcome) (harts : List ArchitecturalState) → length (end_applied i o harts) ≡ length harts
end_count i o harts =
    let seen = map (saw_stores o.stores) harts in
    effect_count i (end_of o.ending) (slice_set seen i o.after) ∙ length-set seen i o.after ∙ length-map harts (saw_stores o.stores)

module _ {B L : Type 0} (bus : BusMeaning B) (logged : L → Event → L) (i : ℕ) (s : HartsScene B L) where
  by_room_count : (fits : Bool) (o : Outcome) (b : B) (log : L) → length (harts_finished_by fits bus logged i s o b log).after.harts ≡ length s.harts
  by_room_count true o b log = end_count i o s.harts
  by_room_count false o b log = refl

  finished_count : (P : Played Outcome B L) → length (harts_finished bus logged i s P).after.harts ≡ length s.harts
  unfolding harts_finished
  finished_count (Ended o b log) = by_room_count (has_room s.console o.bytes) o b log
  finished_count (Poisoned w use_kind b log) = refl

  pub step_count : (m : Asking Outcome) → length (harts_step_of bus logged i m s).after.harts ≡ length s.harts
  step_count m = finished_count (play bus logged m s.bus s.log)
