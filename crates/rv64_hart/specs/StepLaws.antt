-- Laws of steps over any bus.
use Rattle.std.specs.Prelude.{◌≡◌, ◌+◌, List, [], ◌∷◌, ◌++◌, Bool, true, false}
use Rattle.std.specs.List.{push}
use Rattle.std.proofs.Common.{refl, ap, sym, ◌∙◌}
use Rattle.poison_mem.specs.declared.event.Event.{Event}
use Rattle.poison_mem.specs.Bus.{BusMeaning, KeepsWords, logged_all}
use Rattle.poison_mem.specs.BusLaws.{logged_append}
use Rattle.poison_mem.specs.Asking.{Asking, Played, Ended, Poisoned, bus_of, play, with_log}
use Rattle.poison_mem.specs.AskingLaws.{play_keeps_words, play_by_events}
use Rattle.rv64_hart.specs.Outcome.{Outcome, Store, has_room}
use Rattle.rv64_hart.specs.Step.{Scene, scene, stepped, stored, end_of, finished_by, finished, step_of, stepped_with_log}

-- ---- the number of words

-- stores keep the number of words
pub stored_keeps_words : {B L : Type 0} (bus : BusMeaning B) (logged : L → Event → L) (stores : List Store) (b : B) (log : L)
    → KeepsWords bus → bus.words (stored bus logged stores b log).0 ≡ bus.words b
stored_keeps_words bus logged [] b log keeps = refl
stored_keeps_words bus logged (s ∷ stores) b log keeps =
    stored_keeps_words bus logged stores (bus.store b s.w s.value s.mask).after (logged_all logged log (bus.store b s.w s.value s.mask).events) keeps
    ∙ keeps.store b s.w s.value s.mask

finished_by_keeps_words : {B L : Type 0} (fits : Bool) (bus : BusMeaning B) (logged : L → Event → L) (s : Scene B L) (o : Outcome) (b : B) (log : L)
    → KeepsWords bus → bus.words (finished_by fits bus logged s o b log).after.bus ≡ bus.words b
finished_by_keeps_words true bus logged s o b log keeps = stored_keeps_words bus logged o.stores b log keeps
finished_by_keeps_words false bus logged s o b log keeps = refl

finished_keeps_words : {B L : Type 0} (bus : BusMeaning B) (logged : L → Event → L) (s : Scene B L) (P : Played Outcome B L)
    → KeepsWords bus → bus.words (finished bus logged s P).after.bus ≡ bus.words (bus_of P)
unfolding finished
finished_keeps_words bus logged s (Ended o b log) keeps = finished_by_keeps_words (has_room s.console o.bytes) bus logged s o b log keeps
finished_keeps_words bus logged s (Poisoned w use_kind b log) keeps = refl

-- a step keeps the number of words
pub step_keeps_words : {B L : Type 0} (bus : BusMeaning B) (logged : L → Event → L) (m : Asking Outcome) (s : Scene B L)
    → KeepsWords bus → bus.words (step_of bus logged m s).after.bus ≡ bus.words s.bus
step_keeps_words bus logged m s keeps =
    finished_keeps_words bus logged s (play bus logged m s.bus s.log) keeps ∙ play_keeps_words bus logged m s.bus s.log keeps

-- ---- the log

-- events after others that were logged are logged behind them
logged_behind : {L : Type 0} (logged : L → Event → L) (log : L) (before events : List Event)
    → logged_all logged (logged_all logged log before) events ≡ logged_all logged log (logged_all push before events)
logged_behind logged log before [] = refl
logged_behind logged log before (event ∷ events) =
    ap (λ log. logged_all logged log events) (sym (logged_append logged log before (event ∷ [])))
    ∙ logged_behind logged log (push before event) events

-- stores over a log that was logged to are stores over the events
stored_by_events : {B L : Type 0} (bus : BusMeaning B) (logged : L → Event → L) (stores : List Store) (b : B) (log : L) (before : List Event)
    → stored bus logged stores b (logged_all logged log before)
    ≡ ((stored bus push stores b before).0, logged_all logged log (stored bus push stores b before).1)
stored_by_events bus logged [] b log before = refl
stored_by_events bus logged (s ∷ stores) b log before =
    let storing = bus.store b s.w s.value s.mask in
    ap (stored bus logged stores storing.after) (logged_behind logged log before storing.events)
    ∙ stored_by_events bus logged stores storing.after log (logged_all push before storing.events)

finished_by_by_events : {B L : Type 0} (fits : Bool) (bus : BusMeaning B) (logged : L → Event → L) (s : Scene B L) (o : Outcome) (b : B) (events : List Event)
    → finished_by fits bus logged s o b (logged_all logged s.log events)
    ≡ stepped_with_log (logged_all logged s.log) (finished_by fits bus push (scene s.hart s.place s.console s.bus []) o b events)
finished_by_by_events false bus logged s o b events = refl
finished_by_by_events true bus logged s o b events =
    ap (λ p. stepped (end_of o.ending) (scene o.after (s.place + o.taken) (s.console ++ o.bytes) p.0 p.1))
    (stored_by_events bus logged o.stores b s.log events)

finished_by_events : {B L : Type 0} (bus : BusMeaning B) (logged : L → Event → L) (s : Scene B L) (P : Played Outcome B (List Event))
    → finished bus logged s (with_log (logged_all logged s.log) P)
    ≡ stepped_with_log (logged_all logged s.log) (finished bus push (scene s.hart s.place s.console s.bus []) P)
unfolding finished
finished_by_events bus logged s (Ended o b events) = finished_by_by_events (has_room s.console o.bytes) bus logged s o b events
finished_by_events bus logged s (Poisoned w use_kind b events) = refl

-- a step over any log is the step over a list of events, which are then logged in order
pub step_by_events : {B L : Type 0} (bus : BusMeaning B) (logged : L → Event → L) (m : Asking Outcome) (s : Scene B L)
    → step_of bus logged m s
    ≡ stepped_with_log (logged_all logged s.log) (step_of bus push m (scene s.hart s.place s.console s.bus []))
step_by_events bus logged m s =
    ap (finished bus logged s) (play_by_events bus logged m s.bus s.log)
    ∙ finished_by_events bus logged s (play bus push m s.bus [])
