-- Laws of a memory that harts share: a step over it is a step over the memory, after which the waiting harts have seen its stores.
use Rattle.std.specs.Prelude.{◌≡◌, ℕ, ◌+◌, Bool, true, false, List, [], ◌∷◌, ◌++◌, map, slice_set}
use Rattle.std.proofs.Common.{refl, sym, ap, ◌∙◌}
use Rattle.std.proofs.lemmas.List.{map-id, map-set, set-set}
use Rattle.poison_mem.specs.declared.cell.Cell.{Cell}
use Rattle.poison_mem.specs.declared.cell.Cell.TheVariants.{Good, Poison}
use Rattle.poison_mem.specs.declared.cell.UseKind.{UseKind}
use Rattle.poison_mem.specs.declared.event.Event.{Event}
use Rattle.poison_mem.specs.Bus.{BusMeaning, KeepsWords, logged_all}
use Rattle.poison_mem.specs.Asking.{Asking, Answer, Ask, Played, Ended, Poisoned, by_cell, play}
use Rattle.rv64_hart.specs.State.{ArchitecturalState, saw_store}
use Rattle.rv64_hart.specs.Outcome.{Outcome, Store, has_room}
use Rattle.rv64_hart.specs.Step.{Stepped, scene, stepped, stored, end_of, finished_by, finished, step_of}
use Rattle.rv64_hart.specs.Shared.{SharedState, shared_meaning}
use Rattle.rv64_hart.specs.Harts.{saw_stores, effect_applied, HartsScene, HartsStepped, harts_scene, harts_stepped, harts_finished_by, harts_finished, harts_step_of}

pub shared_keeps_words : {B : Type 0} (bus : BusMeaning B) → KeepsWords bus → KeepsWords (shared_meaning bus)
shared_keeps_words bus keeps = record {
  read = λ s w. keeps.read s.memory w;
  store = λ s w value mask. keeps.store s.memory w value mask;
}

map_twice : {A B C : Type 0} (g : B → C) (f : A → B) (xs : List A) → map g (map f xs) ≡ map (λ x. g (f x)) xs
map_twice g f [] = refl
map_twice g f (x ∷ xs) = ap (λ ys. g (f x) ∷ ys) (map_twice g f xs)

-- a memory with these waiting harts
abbrev with_waiting : {B : Type 0} → List ArchitecturalState → B → SharedState B
with_waiting waiting memory = record { memory = memory; waiting = waiting }

-- a play over the memory alone, with these waiting harts beside it
abbrev played_beside : {X B L : Type 0} → List ArchitecturalState → Played X B L → Played X (SharedState B) L
played_beside waiting (Ended x b log) = Ended x (with_waiting waiting b) log
played_beside waiting (Poisoned w use_kind b log) = Poisoned w use_kind (with_waiting waiting b) log

beside_by_cell : {X B L : Type 0} (waiting : List ArchitecturalState) (cell : Cell) (go_on : ℕ → Played X B L) (go_on' : ℕ → Played X (SharedState B) L) (w : ℕ) (use_kind : UseKind) (b : B) (log : L)
    → ((value : ℕ) → go_on' value ≡ played_beside waiting (go_on value))
    → by_cell cell go_on' (Poisoned w use_kind (with_waiting waiting b) log) ≡ played_beside waiting (by_cell cell go_on (Poisoned w use_kind b log))
beside_by_cell waiting (Good value) go_on go_on' w use_kind b log each = each value
beside_by_cell waiting Poison go_on go_on' w use_kind b log each = refl

play_beside : {X B L : Type 0} (bus : BusMeaning B) (logged : L → Event → L) (m : Asking X) (waiting : List ArchitecturalState) (b : B) (log : L)
    → play (shared_meaning bus) logged m (with_waiting waiting b) log ≡ played_beside waiting (play bus logged m b log)
play_beside bus logged (Answer x) waiting b log = refl
play_beside bus logged (Ask w use_kind go_on) waiting b log =
    beside_by_cell waiting (bus.read b w).cell _ _ w use_kind (bus.read b w).after (logged_all logged log (bus.read b w).events)
    (λ value. play_beside bus logged (go_on value) waiting (bus.read b w).after (logged_all logged log (bus.read b w).events))

-- stores over it are the memory's, and the waiting harts see them
stored_beside : {B L : Type 0} (bus : BusMeaning B) (logged : L → Event → L) (stores : List Store) (waiting : List ArchitecturalState) (b : B) (log : L)
    → stored (shared_meaning bus) logged stores (with_waiting waiting b) log
    ≡ (with_waiting (map (saw_stores stores) waiting) (stored bus logged stores b log).0, (stored bus logged stores b log).1)
stored_beside bus logged [] waiting b log = ap (λ waiting. (with_waiting waiting b, log)) (sym (map-id waiting))
stored_beside bus logged (s ∷ stores) waiting b log =
    let storing = bus.store b s.w s.value s.mask in
    let log' = logged_all logged log storing.events in
    stored_beside bus logged stores (map (saw_store s.w) waiting) storing.after log'
    ∙ ap (λ waiting. (with_waiting waiting (stored bus logged stores storing.after log').0, (stored bus logged stores storing.after log').1))
    (map_twice (saw_stores stores) (saw_store s.w) waiting)

-- what a step over the memory with the waiting harts leaves, as a step of all harts
abbrev pub of_shared : {B L : Type 0} → ℕ → Stepped (SharedState B) L → HartsStepped B L
of_shared acting t =
    harts_stepped t.answer
    (harts_scene (effect_applied acting t.answer (slice_set t.after.bus.waiting acting t.after.hart)) t.after.place t.after.console t.after.bus.memory t.after.log)

module _ {B L : Type 0} (bus : BusMeaning B) (logged : L → Event → L) (acting : ℕ) (h : ArchitecturalState) (waiting : List ArchitecturalState) (place : ℕ) (console : List ℕ) (memory : B) (before : L) where
  -- the harts of which one acts, and all that the step works on
  abbrev harts_before : HartsScene B L
  harts_before = harts_scene (slice_set waiting acting h) place console memory before

  shared_by : (fits : Bool) (o : Outcome) (b : B) (log : L)
      → harts_finished_by fits bus logged acting harts_before o b log
      ≡ of_shared acting (finished_by fits (shared_meaning bus) logged (scene h place console (with_waiting waiting memory) before) o (with_waiting waiting b) log)
  shared_by false o b log = refl
  shared_by true o b log =
      ap (λ harts. harts_stepped (end_of o.ending) (harts_scene (effect_applied acting (end_of o.ending) harts) (place + o.taken) (console ++ o.bytes) (stored bus logged o.stores b log).0 (stored bus logged o.stores b log).1))
      (ap (λ harts. slice_set harts acting o.after) (map-set (saw_stores o.stores) waiting acting h) ∙ set-set (map (saw_stores o.stores) waiting) acting (saw_stores o.stores h) o.after)
      ∙ ap (λ p. of_shared acting (stepped (end_of o.ending) (scene o.after (place + o.taken) (console ++ o.bytes) p.0 p.1)))
      (sym (stored_beside bus logged o.stores waiting b log))

  shared_finished : (P : Played Outcome B L)
      → harts_finished bus logged acting harts_before P
      ≡ of_shared acting (finished (shared_meaning bus) logged (scene h place console (with_waiting waiting memory) before) (played_beside waiting P))
  unfolding finished harts_finished
  shared_finished (Ended o b log) = shared_by (has_room console o.bytes) o b log
  shared_finished (Poisoned w use_kind b log) = refl

  -- a step of one of several harts is its own step over the memory that they share, and then its effect
  pub shared_step : (m : Asking Outcome)
      → harts_step_of bus logged acting m harts_before
      ≡ of_shared acting (step_of (shared_meaning bus) logged m (scene h place console (record { memory = memory; waiting = waiting }) before))
  shared_step m =
      shared_finished (play bus logged m memory before)
      ∙ ap (λ P. of_shared acting (finished (shared_meaning bus) logged (scene h place console (with_waiting waiting memory) before) P))
      (sym (play_beside bus logged m waiting memory before))
