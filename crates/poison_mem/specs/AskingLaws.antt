-- Laws of computations over a bus.
use Rattle.std.specs.Prelude.{◌≡◌, ℕ, List, [], ◌∷◌, ◌++◌}
use Rattle.std.proofs.Common.{refl, sym, ap, ◌∙◌}
use Rattle.std.proofs.lemmas.List.{append-nil, append_assoc}
use Rattle.std.specs.List.{push}
use Rattle.poison_mem.specs.BusLaws.{logged_append}
use Rattle.poison_mem.specs.declared.cell.Cell.{Cell}
use Rattle.poison_mem.specs.declared.cell.Cell.TheVariants.{Good, Poison}
use Rattle.poison_mem.specs.declared.cell.UseKind.{UseKind}
use Rattle.poison_mem.specs.declared.event.Event.{Event}
use Rattle.poison_mem.specs.Bus.{BusMeaning, KeepsWords, logged_all}
use Rattle.poison_mem.specs.Asking.{Asking, Answer, Ask, Played, Poisoned, ◌>>=◌, ◌then◌, by_cell, bus_of, follow, play, replies_of, IsEndOf, with_log}

cell_then : {X Y B L : Type 0} (f : X → B → L → Played Y B L) (cell : Cell) (go_on : ℕ → Played X B L) (go_on' : ℕ → Played Y B L) (w : ℕ) (use_kind : UseKind) (b : B) (log : L)
    → ((value : ℕ) → go_on' value ≡ (go_on value then f))
    → by_cell cell go_on' (Poisoned w use_kind b log) ≡ (by_cell cell go_on (Poisoned w use_kind b log) then f)
cell_then f (Good value) go_on go_on' w use_kind b log h = h value
cell_then f Poison go_on go_on' w use_kind b log h = refl

-- two computations, one after the other, play one after the other
pub play_bind : {X Y B L : Type 0} (bus : BusMeaning B) (logged : L → Event → L) (m : Asking X) (f : X → Asking Y) (b : B) (log : L)
    → play bus logged (m >>= f) b log ≡ (play bus logged m b log then (λ x b log. play bus logged (f x) b log))
play_bind bus logged (Answer x) f b log = refl
play_bind bus logged (Ask w use_kind go_on) f b log =
    cell_then _ (bus.read b w).cell _ _ w use_kind _ _ (λ value. play_bind bus logged (go_on value) f (bus.read b w).after (logged_all logged log (bus.read b w).events))

after_cell : {X B L : Type 0} (words : B → ℕ) (cell : Cell) (go_on : ℕ → Played X B L) (stop : Played X B L) (n : ℕ)
    → ((value : ℕ) → words (bus_of (go_on value)) ≡ n) → words (bus_of stop) ≡ n → words (bus_of (by_cell cell go_on stop)) ≡ n
after_cell words (Good value) go_on stop n good bad = good value
after_cell words Poison go_on stop n good bad = bad

-- a play keeps the number of words
pub play_keeps_words : {X B L : Type 0} (bus : BusMeaning B) (logged : L → Event → L) (m : Asking X) (b : B) (log : L)
    → KeepsWords bus → bus.words (bus_of (play bus logged m b log)) ≡ bus.words b
play_keeps_words bus logged (Answer x) b log keeps = refl
play_keeps_words bus logged (Ask w use_kind go_on) b log keeps =
    after_cell bus.words (bus.read b w).cell _ _ _
    (λ value. play_keeps_words bus logged (go_on value) (bus.read b w).after (logged_all logged log (bus.read b w).events) keeps ∙ keeps.read b w)
    (keeps.read b w)

end_by_cell : {X B L : Type 0} (cell : Cell) (w : ℕ) (use_kind : UseKind) (go_on : ℕ → Asking X) (P : ℕ → Played X B L) (b : B) (log : L) (rest : ℕ → List ℕ)
    → ((value : ℕ) → IsEndOf (P value) (follow (go_on value) (rest value)))
    → IsEndOf (by_cell cell P (Poisoned w use_kind b log)) (follow (Ask w use_kind go_on) (by_cell cell (λ value. value ∷ rest value) []))
end_by_cell (Good value) w use_kind go_on P b log rest h = h value
end_by_cell Poison w use_kind go_on P b log rest h = (go_on, refl)

-- A play asks exactly what the replies lead to: after the bus's good replies the computation has answered, or next asks for the poisoned word.
pub play_shows : {X B L : Type 0} (bus : BusMeaning B) (logged : L → Event → L) (m : Asking X) (b : B) (log : L)
    → IsEndOf (play bus logged m b log) (follow m (replies_of bus m b))
play_shows bus logged (Answer x) b log = refl
play_shows bus logged (Ask w use_kind go_on) b log =
    end_by_cell (bus.read b w).cell w use_kind go_on (λ value. play bus logged (go_on value) (bus.read b w).after (logged_all logged log (bus.read b w).events)) _ _
    (λ value. replies_of bus (go_on value) (bus.read b w).after)
    (λ value. play_shows bus logged (go_on value) (bus.read b w).after _)

with_log_by_cell : {X B L M : Type 0} (f : L → M) (cell : Cell) (go_on : ℕ → Played X B L) (go_on' : ℕ → Played X B M) (w : ℕ) (use_kind : UseKind) (b : B) (log : L)
    → ((value : ℕ) → go_on' value ≡ with_log f (go_on value))
    → by_cell cell go_on' (Poisoned w use_kind b (f log)) ≡ with_log f (by_cell cell go_on (Poisoned w use_kind b log))
with_log_by_cell f (Good value) go_on go_on' w use_kind b log h = h value
with_log_by_cell f Poison go_on go_on' w use_kind b log h = refl

-- a list that is logged to is the events before and behind
pushed_all : (before events : List Event) → logged_all push before events ≡ before ++ events
pushed_all before [] = sym (append-nil before)
pushed_all before (event ∷ events) = pushed_all (before ++ event ∷ []) events ∙ append_assoc before (event ∷ []) events

play_from : {X B L : Type 0} (bus : BusMeaning B) (logged : L → Event → L) (m : Asking X) (b : B) (log : L) (before : List Event)
    → play bus logged m b (logged_all logged log before) ≡ with_log (logged_all logged log) (play bus push m b before)
play_from bus logged (Answer x) b log before = refl
play_from bus logged (Ask w use_kind go_on) b log before =
    let events = (bus.read b w).events in
    let same : logged_all logged (logged_all logged log before) events ≡ logged_all logged log (logged_all push before events) =
    sym (logged_append logged log before events) ∙ ap (logged_all logged log) (sym (pushed_all before events)) in
    ap (λ log. by_cell (bus.read b w).cell (λ value. play bus logged (go_on value) (bus.read b w).after log) (Poisoned w use_kind (bus.read b w).after log)) same
    ∙ with_log_by_cell (logged_all logged log) (bus.read b w).cell _ _ w use_kind (bus.read b w).after (logged_all push before events)
    (λ value. play_from bus logged (go_on value) (bus.read b w).after log (logged_all push before events))

-- a play over any log is the play over a list of events, and then these events logged in order
pub play_by_events : {X B L : Type 0} (bus : BusMeaning B) (logged : L → Event → L) (m : Asking X) (b : B) (log : L)
    → play bus logged m b log ≡ with_log (logged_all logged log) (play bus push m b [])
play_by_events bus logged m b log = play_from bus logged m b log []
