use Rattle.std.proofs.Common.{ℕ, ◌+◌, ◌≡◌, Bool, true, false, List, [], ◌∷◌, ◌++◌, Some, slice_index, slice_set, length, refl, sym, ap, subst, ◌∙◌, add-one, if◌then◌else◌}
use Rattle.poison_mem.specs.declared.event.Event.{Event}
use Rattle.poison_mem.specs.Asking.{Asking, Answer, Ask, Ended, play}
use Rattle.poison_mem.specs.Flat.{flat_meaning}
use Rattle.poison_mem.specs.Merge.{merged_value}
use Rattle.rv64_hart.specs.Outcome.{Outcome, OutcomeEnd, Goes, Stops, Store, has_room}
use Rattle.rv64_hart.specs.Step.{stored, end_of}
use Rattle.rv64_hart.specs.Around.{around_at}
use Rattle.rv64_hart.specs.Turn.{turn}
use Rattle.rv64_hart.specs.Harts.{HartsScene, HartsStepped, hart_at, peers_of, end_applied, harts_scene, harts_finished_by, harts_finished, harts_step_of}
use Rattle.ras_machine.specs.declared.ending.Stop.TheVariants as stops
use Rattle.ras_machine.specs.Flat.{FlatState, FlatMove, acting, flat_answered, ram_after, flat_outcome, flat_turn, flat_step, flat_run}
use Rattle.ras_machine.specs.Ends.{guest_ends, ending_by, IsUnpoisoned}
use Rattle.ras_machine.specs.Schedule.{Given, given_by, pick}
use Rattle.ras_machine.specs.Runs.{ended_or}

-- over plain words a computation meets no poison, and leaves the words and the log as they were
play_flat : {X L : Type 0} (logged : L → Event → L) (m : Asking X) (ram : List ℕ) (log : L)
    → play flat_meaning logged m ram log ≡ Ended (flat_answered ram m) ram log
play_flat logged (Answer x) ram log = refl
play_flat logged (Ask w use_kind go_on) ram log = play_flat logged (go_on (slice_index ram w)) ram log

stored_flat : {L : Type 0} (logged : L → Event → L) (stores : List Store) (ram : List ℕ) (log : L)
    → stored flat_meaning logged stores ram log ≡ (ram_after ram stores, log)
stored_flat logged [] ram log = refl
stored_flat logged (s ∷ stores) ram log =
    stored_flat logged stores (slice_set ram s.w (merged_value (slice_index ram s.w) s.value s.mask)) log

-- a step over plain words as a move of the flat machine
abbrev pub move_of : {L : Type 0} → ℕ → HartsStepped (List ℕ) L → FlatMove
move_of n t = record { after = record { harts = t.after.harts; place = t.after.place; ram = t.after.bus; console = t.after.console }; ending = ending_by t.answer n }

same_ending : (ending : OutcomeEnd) (n : ℕ) → guest_ends ending n ≡ ending_by (end_of ending) n
same_ending (Goes effect) n = refl
same_ending (Stops stop) n = refl

-- what an outcome makes of the state, by whether the console has room
end_move : ℕ → ℕ → FlatState → Outcome → Bool → FlatMove
end_move i n s o fits =
    if fits
    then record {
      after = record { harts = end_applied i o s.harts; place = s.place + o.taken; ram = ram_after s.ram o.stores; console = s.console ++ o.bytes };
      ending = guest_ends o.ending n;
    }
    else record { after = s; ending = Some (record { stop = stops.ConsoleFull; steps = n }) }

-- what the step works on
abbrev scene_of : {L : Type 0} → FlatState → L → HartsScene (List ℕ) L
scene_of s log = harts_scene s.harts s.place s.console s.ram log

end_moves : {L : Type 0} (logged : L → Event → L) (i n : ℕ) (s : FlatState) (log : L) (o : Outcome) (fits : Bool)
    → end_move i n s o fits ≡ move_of n (harts_finished_by fits flat_meaning logged i (scene_of s log) o s.ram log)
unfolding end_move
end_moves logged i n s log o true =
    let e = stored_flat logged o.stores s.ram log in
    let k = same_ending o.ending n in
    rw (k, e) refl
end_moves logged i n s log o false = refl

outcome_move : {L : Type 0} (logged : L → Event → L) (i n : ℕ) (s : FlatState) (log : L) (o : Outcome)
    → flat_outcome i n s o ≡ move_of n (harts_finished flat_meaning logged i (scene_of s log) (Ended o s.ram log))
unfolding flat_outcome harts_finished end_move
outcome_move logged i n s log o = end_moves logged i n s log o (has_room s.console o.bytes)

-- a step over plain words is a step of the flat machine
pub step_moves : {L : Type 0} (logged : L → Event → L) (given : Given) (n : ℕ) (s : FlatState) (log : L) (t : HartsStepped (List ℕ) L)
    → harts_step_of flat_meaning logged (acting given n s.harts) (flat_turn given n s) (harts_scene s.harts s.place s.console s.ram log) ≡ t
    → flat_step given n s ≡ move_of n t
step_moves logged given n s log t e =
    outcome_move logged (acting given n s.harts) n s log _
    ∙ ap (λ P. move_of n (harts_finished flat_meaning logged (acting given n s.harts) (scene_of s log) P)) (sym (play_flat logged (flat_turn given n s) s.ram log))
    ∙ ap (move_of n) e

-- what is known of a hart that was picked is known of the one whose turn it is
pub flat_turn_taken : {L : Type 0} (logged : L → Event → L) (input schedule : List ℕ) (n : ℕ) (s : FlatState) (log : L) (t : HartsStepped (List ℕ) L) (i count : ℕ)
    → i ≡ pick schedule count n → count ≡ length s.harts
    → (let around = around_at (length s.ram) (peers_of s.harts) n input s.place in
    harts_step_of flat_meaning logged i (turn around (hart_at s.harts i)) (harts_scene s.harts s.place s.console s.ram log) ≡ t)
    → (let given = given_by input schedule in
    harts_step_of flat_meaning logged (acting given n s.harts) (flat_turn given n s) (harts_scene s.harts s.place s.console s.ram log) ≡ t)
flat_turn_taken logged input schedule n s log t i count picked counted step =
    subst (λ k. harts_step_of flat_meaning logged k (turn (around_at (length s.ram) (peers_of s.harts) n input s.place) (hart_at s.harts k)) (harts_scene s.harts s.place s.console s.ram log) ≡ t)
    (picked ∙ ap (λ count. pick schedule count n) counted) step

end_unpoisoned : (ending : OutcomeEnd) → IsUnpoisoned (end_of ending)
end_unpoisoned (Goes effect) = tt
end_unpoisoned (Stops stop) = tt

outcome_unpoisoned : {L : Type 0} (logged : L → Event → L) (i : ℕ) (s : FlatState) (o : Outcome) (log : L)
    → IsUnpoisoned (harts_finished flat_meaning logged i (scene_of s log) (Ended o s.ram log)).answer
unfolding harts_finished
outcome_unpoisoned logged i s o log = by_room (has_room s.console o.bytes)
  where
    by_room : (fits : Bool) → IsUnpoisoned (harts_finished_by fits flat_meaning logged i (scene_of s log) o s.ram log).answer
    by_room true = end_unpoisoned o.ending
    by_room false = tt

-- a step over plain words meets no poison
pub never_poisoned : {L : Type 0} (logged : L → Event → L) (i : ℕ) (m : Asking Outcome) (s : FlatState) (log : L) (t : HartsStepped (List ℕ) L)
    → harts_step_of flat_meaning logged i m (harts_scene s.harts s.place s.console s.ram log) ≡ t → IsUnpoisoned t.answer
never_poisoned logged i m s log t e =
    subst (λ (t : HartsStepped (List ℕ) _). IsUnpoisoned t.answer)
    (ap (λ P. harts_finished flat_meaning logged i (scene_of s log) P) (sym (play_flat logged m s.ram log)) ∙ e)
    (outcome_unpoisoned logged i s (flat_answered s.ram m) log)

-- the run by its first step
pub run_step : (given : Given) (left left' n : ℕ) (s : FlatState) (move : FlatMove) → left ≡ left' + 1 → flat_step given n s ≡ move
    → flat_run given left n s ≡ ended_or move.ending move.after (flat_run given left' (n + 1) move.after)
unfolding flat_run
run_step given left left' n s move more e =
    rw (more, add-one left') (ap (λ move. ended_or move.ending move.after (flat_run given left' (n + 1) move.after)) e)

-- the run where no step is left
pub run_over : (given : Given) (left n : ℕ) (s : FlatState) → left ≡ 0 → flat_run given left n s ≡ record { after = s; ending = record { stop = stops.Budget; steps = n } }
unfolding flat_run
run_over given left n s none = rw none refl
