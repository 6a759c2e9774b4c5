-- The flat machine's run by its states.
use Rattle.std.proofs.Common.{ℕ, zero, suc, ◌+◌, ◌-◌, ◌≡◌, ◌≤◌, ◌<◌, Bool, true, false, List, [], ◌∷◌, ◌++◌, Option, Some, None, length, refl, ap, ◌∙◌, subst, arith, add-one, inl, inr, slice_index, slice_set}
use Rattle.std.specs.Prelude.{if◌then◌else◌, IfSome}
use Rattle.std.proofs.lemmas.Bool.{cases_lt}
use Rattle.std.proofs.Math.ListN.{length-set}
use Rattle.poison_mem.specs.declared.cell.UseKind.{UseKind}
use Rattle.poison_mem.specs.Merge.{merged_value}
use Rattle.rv64_hart.specs.Outcome.{Outcome, OutcomeEnd, Goes, Stops, Store, has_room}
use Rattle.rv64_hart.specs.Harts.{end_applied}
use Rattle.sbi_calls.specs.declared.stop.GuestStop.{GuestStop}
use Rattle.ras_machine.specs.declared.ending.Ending.{Ending}
use Rattle.ras_machine.specs.declared.ending.Stop.{Stop}
use Rattle.ras_machine.specs.Ends.{guest_ends}
use Rattle.ras_machine.specs.declared.ending.Stop.TheVariants as stops
use Rattle.ras_machine.specs.Runs.{ended_or}
use Rattle.ras_machine.specs.Flat.{FlatState, FlatMove, FlatRun, acting, flat_answered, flat_turn, ram_after, flat_outcome, flat_step, flat_run, flat_after}
use Rattle.ras_machine.specs.Ways.{GoesOn}
use Rattle.ras_machine.specs.Schedule.{Given}
use Rattle.ras_machine.proofs.Steps.{run_step, run_over}

-- stores keep the number of words
ram_after-length : (stores : List Store) (ram : List ℕ) → length (ram_after ram stores) ≡ length ram
ram_after-length [] ram = refl
ram_after-length (s ∷ stores) ram =
    ram_after-length stores (slice_set ram s.w (merged_value (slice_index ram s.w) s.value s.mask)) ∙ length-set ram s.w _

outcome-length : (i n : ℕ) (s : FlatState) (outcome : Outcome) → length (flat_outcome i n s outcome).after.ram ≡ length s.ram
unfolding flat_outcome
outcome-length i n s o = either (has_room s.console o.bytes) _ _ (ram_after-length o.stores s.ram) refl
  where
    either : (fits : Bool) (m m' : FlatMove) → length m.after.ram ≡ length s.ram → length m'.after.ram ≡ length s.ram → length (if fits then m else m').after.ram ≡ length s.ram
    either true m m' fits_here full = fits_here
    either false m m' fits_here full = full

-- the RAM keeps its words
pub after-length : (given : Given) (start : FlatState) (n : ℕ) → length (flat_after given start n).ram ≡ length start.ram
unfolding flat_after
after-length given start zero = refl
after-length given start (suc n) =
    let f = flat_after given start n in
    outcome-length (acting given n f.harts) n f (flat_answered f.ram (flat_turn given n f)) ∙ after-length given start n

-- the next state
pub after_next : (given : Given) (start : FlatState) (n : ℕ) → flat_after given start (n + 1) ≡ (flat_step given n (flat_after given start n)).after
unfolding flat_after
after_next given start n = rw (add-one n) refl

-- one step more that goes on
pub goes_on_more : (given : Given) (start : FlatState) (n : ℕ) → GoesOn given start n → (flat_step given n (flat_after given start n)).ending ≡ None → GoesOn given start (n + 1)
goes_on_more given start n goes here m below = elim (cases_lt m n) [
  | inl less ↦ goes m less
  | inr more ↦ let e : n ≡ m = omega arith in subst (λ m. (flat_step given m (flat_after given start m)).ending ≡ None) e here
]

one_more : (given : Given) (left n : ℕ) (e : Option Ending) (after : FlatState) → e ≡ None → ended_or e after (flat_run given left n after) ≡ flat_run given left n after
one_more given left n None after is = refl
one_more given left n (Some e) after is = cc

-- the run from its first step is the run from step n, where none before ends it
pub run_from : (given : Given) (start : FlatState) (budget n : ℕ) → GoesOn given start n → n ≤ budget
    → flat_run given budget 0 start ≡ flat_run given (budget - n) n (flat_after given start n)
unfolding flat_after
run_from given start budget zero goes low = let all : budget - 0 ≡ budget = omega arith in rw all refl
run_from given start budget (suc n) goes low =
    let f = flat_after given start n in
    run_from given start budget n (λ m below. goes m (omega arith)) (omega arith)
    ∙ run_step given (budget - n) (budget - suc n) n f (flat_step given n f) (omega arith) refl
    ∙ one_more given (budget - suc n) (n + 1) (flat_step given n f).ending (flat_step given n f).after (goes n (omega arith))
    ∙ ap (λ m. flat_run given (budget - suc n) m (flat_step given n f).after) (add-one n)

some_ends : (given : Given) (e : Option Ending) (ending : Ending) (after : FlatState) (more : FlatRun) → e ≡ Some ending → ended_or e after more ≡ record { after = after; ending = ending }
some_ends given None ending after more is = cc
some_ends given (Some found) ending after more is = ap (λ ending. record { after = after; ending = ending }) (same_some found ending is)
  where
    same_some : (a b : Ending) → Some a ≡ Some b → a ≡ b
    same_some a b e = cc

-- the run where step n ends it
pub run_ends : (given : Given) (start : FlatState) (budget n : ℕ) (ending : Ending) → GoesOn given start n → n < budget → (flat_step given n (flat_after given start n)).ending ≡ Some ending
    → flat_run given budget 0 start ≡ record { after = (flat_step given n (flat_after given start n)).after; ending = ending }
run_ends given start budget n ending goes low is =
    let f = flat_after given start n in
    run_from given start budget n goes (omega arith)
    ∙ run_step given (budget - n) (budget - (n + 1)) n f (flat_step given n f) (omega arith) refl
    ∙ some_ends given (flat_step given n f).ending ending (flat_step given n f).after _ is

-- the run that its budget ends
pub run_spent : (given : Given) (start : FlatState) (budget : ℕ) → GoesOn given start budget
    → flat_run given budget 0 start ≡ record { after = flat_after given start budget; ending = record { stop = stops.Budget; steps = budget } }
run_spent given start budget goes = run_from given start budget budget goes (omega arith) ∙ run_over given (budget - budget) budget _ (omega arith)

-- What holds of each stop but one at poison holds of the stop of a run.
module _ (P : Stop → Type 0) (shutdown : (reason : ℕ) → P (stops.Shutdown reason)) (reboot : (reboot_kind : ℕ) → P (stops.Reboot reboot_kind)) (spent : P stops.Budget) (full : P stops.ConsoleFull) where
  guest_stops : (ending : OutcomeEnd) (n : ℕ) → IfSome (guest_ends ending n) (λ (e : Ending). P e.stop)
  guest_stops (Goes effect) n = tt
  guest_stops (Stops (GuestStop.Shutdown reason)) n = shutdown reason
  guest_stops (Stops (GuestStop.Reboot reboot_kind)) n = reboot reboot_kind
  guest_stops (Stops GuestStop.ConsoleFull) n = full

  outcome_stops : (i n : ℕ) (s : FlatState) (o : Outcome) → IfSome (flat_outcome i n s o).ending (λ (e : Ending). P e.stop)
  unfolding flat_outcome
  outcome_stops i n s o = by_room (has_room s.console o.bytes)
    where
      by_room : (room : Bool) → let move : FlatMove = if room
          then record {
            after = record { harts = end_applied i o s.harts; place = s.place + o.taken; ram = ram_after s.ram o.stores; console = s.console ++ o.bytes };
            ending = guest_ends o.ending n;
          }
          else record { after = s; ending = Some (record { stop = stops.ConsoleFull; steps = n }) } in
          IfSome move.ending (λ (e : Ending). P e.stop)
      by_room true = guest_stops o.ending n
      by_room false = full

  ended_stops : (e : Option Ending) (s : FlatState) (more : FlatRun) → IfSome e (λ (x : Ending). P x.stop) → P more.ending.stop → P (ended_or e s more).ending.stop
  ended_stops None s more h g = g
  ended_stops (Some e) s more h g = h

  pub flat_stops : (given : Given) (left n : ℕ) (s : FlatState) → P (flat_run given left n s).ending.stop
  unfolding flat_run
  flat_stops given zero n s = spent
  flat_stops given (suc left) n s =
      let move = flat_step given n s in
      ended_stops move.ending move.after (flat_run given left (n + 1) move.after) (outcome_stops _ n s _) (flat_stops given left (n + 1) move.after)

-- no step of the flat machine ends at poison
abbrev NotConsumed : Stop → Type 0
NotConsumed (stops.Shutdown reason) = Unit {0}
NotConsumed (stops.Reboot reboot_kind) = Unit {0}
NotConsumed stops.Budget = Unit {0}
NotConsumed stops.ConsoleFull = Unit {0}
NotConsumed (stops.Consumed w use_kind pc) = ⊥
NotConsumed (stops.Injected bank rec) = Unit {0}

pub flat_unpoisoned : (given : Given) (n : ℕ) (s : FlatState) (w : ℕ) (use_kind : UseKind) (pc steps : ℕ)
    → (flat_step given n s).ending ≡ Some (record { stop = stops.Consumed w use_kind pc; steps = steps }) → ⊥
flat_unpoisoned given n s w use_kind pc steps is =
    subst (λ (e : Option Ending). IfSome e (λ (x : Ending). NotConsumed x.stop)) is
    (outcome_stops NotConsumed (λ reason. tt) (λ reboot_kind. tt) tt tt _ n s (flat_answered s.ram (flat_turn given n s)))
