-- No event of a hart's step is critical, over a memory that logs none.
use Rattle.std.proofs.Common.{ℕ, Bool, true, false, List, [], ◌∷◌}
use Rattle.std.specs.List.{push}
use Rattle.poison_mem.specs.declared.cell.Cell.{Cell}
use Rattle.poison_mem.specs.declared.cell.Cell.TheVariants.{Good, Poison}
use Rattle.poison_mem.specs.declared.event.Event.{Event}
use Rattle.poison_mem.specs.Asking.{Asking, Answer, Ask, Played, Ended, Poisoned, by_cell, play}
use Rattle.poison_mem.specs.Bus.{BusMeaning, logged_all}
use Rattle.poison_mem.specs.Flips.{FlipMeaning}
use Rattle.mem_stack.specs.EventsLaws.{AreMild, both_mild, LogsMildly}
use Rattle.rv64_hart.specs.Harts.{HartsScene, harts_finished_by, harts_finished, harts_step_of}
use Rattle.rv64_hart.specs.Outcome.{Outcome, Store, has_room}
use Rattle.rv64_hart.specs.Step.{stored}

more_mild : (events log : List Event) → AreMild events → AreMild log → AreMild (logged_all push log events)
more_mild [] log h k = k
more_mild (e ∷ events) log h k = more_mild events (push log e) h.1 (both_mild log (e ∷ []) k (h.0, tt))

-- the log at the end of a play
abbrev played_log : {X B : Type 0} → Played X B (List Event) → List Event
played_log (Ended x b log) = log
played_log (Poisoned w use_kind b log) = log

module _ {B : Type 0} (bus : BusMeaning B) (flips : FlipMeaning B) (mild : LogsMildly bus flips) where
  after_cell : {X : Type 0} (c : Cell) (go_on : ℕ → Played X B (List Event)) (stop : Played X B (List Event)) → ((value : ℕ) → AreMild (played_log (go_on value)))
      → AreMild (played_log stop) → AreMild (played_log (by_cell c go_on stop))
  after_cell (Good value) go_on stop good bad = good value
  after_cell Poison go_on stop good bad = bad

  play_mild : {X : Type 0} (m : Asking X) (b : B) (log : List Event) → AreMild log → AreMild (played_log (play bus push m b log))
  play_mild (Answer x) b log h = h
  play_mild (Ask w use_kind go_on) b log h =
      let events = (bus.read b w).events in
      let now : AreMild (logged_all push log events) = more_mild events log (mild.read b w) h in
      after_cell (bus.read b w).cell _ _ (λ value. play_mild (go_on value) (bus.read b w).after (logged_all push log events) now) now

  stored_mild : (stores : List Store) (b : B) (log : List Event) → AreMild log → AreMild (stored bus push stores b log).1
  stored_mild [] b log h = h
  stored_mild (s ∷ stores) b log h =
      let storing = bus.store b s.w s.value s.mask in
      stored_mild stores storing.after (logged_all push log storing.events) (more_mild storing.events log (mild.store b s.w s.value s.mask) h)

  by_room_mild : (fits : Bool) (acting : ℕ) (s : HartsScene B (List Event)) (o : Outcome) (b : B) (log : List Event) → AreMild log
      → AreMild (harts_finished_by fits bus push acting s o b log).after.log
  by_room_mild true acting s o b log h = stored_mild o.stores b log h
  by_room_mild false acting s o b log h = h

  finished_mild : (acting : ℕ) (s : HartsScene B (List Event)) (P : Played Outcome B (List Event)) → AreMild (played_log P)
      → AreMild (harts_finished bus push acting s P).after.log
  unfolding harts_finished
  finished_mild acting s (Ended o b log) h = by_room_mild (has_room s.console o.bytes) acting s o b log h
  finished_mild acting s (Poisoned w use_kind b log) h = h

  pub step_logs_mildly : (acting : ℕ) (m : Asking Outcome) (s : HartsScene B (List Event)) → AreMild s.log → AreMild (harts_step_of bus push acting m s).after.log
  step_logs_mildly acting m s h = finished_mild acting s (play bus push m s.bus s.log) (play_mild m s.bus s.log h)
