-- A step of one of the harts over any log is that over a list of events, which are then logged in order.
use Rattle.std.proofs.Common.{◌≡◌, ℕ, ◌+◌, List, [], ◌∷◌, ◌++◌, Bool, true, false, refl, ap, sym, ◌∙◌}
use Rattle.std.specs.List.{push}
use Rattle.poison_mem.specs.declared.event.Event.{Event}
use Rattle.poison_mem.specs.Bus.{BusMeaning, logged_all}
use Rattle.poison_mem.specs.BusLaws.{logged_append}
use Rattle.poison_mem.specs.Asking.{Asking, Played, Ended, Poisoned, play, with_log}
use Rattle.poison_mem.specs.AskingLaws.{play_by_events}
use Rattle.rv64_hart.specs.Outcome.{Outcome, Store, has_room}
use Rattle.rv64_hart.specs.Step.{stored, end_of}
use Rattle.rv64_hart.specs.Harts.{HartsScene, HartsStepped, end_applied, harts_scene, harts_stepped, harts_finished_by, harts_finished, harts_step_of}

-- what a step leaves, with its events logged
abbrev pub with_events : {B L : Type 0} → (L → Event → L) → L → HartsStepped B (List Event) → HartsStepped B L
with_events logged log t =
    harts_stepped t.answer (harts_scene t.after.harts t.after.place t.after.console t.after.bus (logged_all logged log t.after.log))

module _ {B L : Type 0} (bus : BusMeaning B) (logged : L → Event → L) where
  -- events after others that were logged are logged behind them
  logged_behind : (log : L) (before events : List Event) → logged_all logged (logged_all logged log before) events ≡ logged_all logged log (logged_all push before events)
  logged_behind log before [] = refl
  logged_behind log before (event ∷ events) =
      ap (λ log. logged_all logged log events) (sym (logged_append logged log before (event ∷ [])))
      ∙ logged_behind log (push before event) events

  -- stores over a log that was logged to are stores over the events
  stored_by_events : (stores : List Store) (b : B) (log : L) (before : List Event)
      → stored bus logged stores b (logged_all logged log before) ≡ ((stored bus push stores b before).0, logged_all logged log (stored bus push stores b before).1)
  stored_by_events [] b log before = refl
  stored_by_events (s ∷ stores) b log before =
      let storing = bus.store b s.w s.value s.mask in
      ap (stored bus logged stores storing.after) (logged_behind log before storing.events)
      ∙ stored_by_events stores storing.after log (logged_all push before storing.events)

  module _ (acting : ℕ) (s : HartsScene B L) where
    -- the same over no events yet
    abbrev bare : HartsScene B (List Event)
    bare = harts_scene s.harts s.place s.console s.bus []

    by_room : (fits : Bool) (o : Outcome) (b : B) (events : List Event)
        → harts_finished_by fits bus logged acting s o b (logged_all logged s.log events) ≡ with_events logged s.log (harts_finished_by fits bus push acting bare o b events)
    by_room false o b events = refl
    by_room true o b events =
        ap (λ p. harts_stepped (end_of o.ending) (harts_scene (end_applied acting o s.harts) (s.place + o.taken) (s.console ++ o.bytes) p.0 p.1))
        (stored_by_events o.stores b s.log events)

    finished_by_events : (P : Played Outcome B (List Event))
        → harts_finished bus logged acting s (with_log (logged_all logged s.log) P) ≡ with_events logged s.log (harts_finished bus push acting bare P)
    unfolding harts_finished
    finished_by_events (Ended o b events) = by_room (has_room s.console o.bytes) o b events
    finished_by_events (Poisoned w use_kind b events) = refl

    pub step_by_events : (m : Asking Outcome) → harts_step_of bus logged acting m s ≡ with_events logged s.log (harts_step_of bus push acting m bare)
    step_by_events m =
        ap (harts_finished bus logged acting s) (play_by_events bus logged m s.bus s.log)
        ∙ finished_by_events (play bus push m s.bus [])
