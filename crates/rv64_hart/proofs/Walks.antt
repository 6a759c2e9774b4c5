-- A walk by what it wants next, and the steps over a play.
use Rattle.std.proofs.Common.{◌≡◌, ℕ, Bool, true, false, Option, Some, None, List, if◌then◌else◌, refl, ap, ◌∙◌, sym, arith, append-nil}
use Rattle.ras_bits.specs.declared.terms.Access.{Access}
use Rattle.ras_bits.specs.Map.{is_ram, word_at}
use Rattle.sv39_walk.specs.declared.step.WalkStep.{WalkStep}
use Rattle.sv39_walk.specs.declared.step.WalkStep.TheVariants as step
use Rattle.sv39_walk.specs.Walking.{Walking, Done, Fault, Need, next_of, after_entry}
use Rattle.poison_mem.specs.Bus.{BusMeaning, logged_all}
use Rattle.poison_mem.specs.declared.event.Event.{Event}
use Rattle.poison_mem.specs.declared.cell.UseKind.{UseKind}
use Rattle.poison_mem.specs.declared.cell.Cell.TheVariants.{Good, Poison}
use Rattle.poison_mem.specs.Asking.{Asking, Answer, Ask, Played, play, Ended, Poisoned, ◌>>=◌, ◌then◌}
use Rattle.poison_mem.specs.AskingLaws.{play_bind}
use Rattle.rv64_hart.specs.Around.{Around}
use Rattle.rv64_hart.specs.State.{ArchitecturalState}
use Rattle.rv64_hart.specs.Access.{is_aligned}
use Rattle.rv64_hart.specs.Operations.{width_of, kind_of, performed_at, accessed}
use Rattle.rv64_hart.specs.declared.operation.Operation.{Operation}
use Rattle.rv64_hart.specs.declared.traps.Exception.{Exception}
use Rattle.rv64_hart.specs.Traps.{access_fault, page_fault, raised}
use Rattle.rv64_hart.specs.Outcome.{Outcome, went, has_room}
use Rattle.rv64_hart.specs.Translation.{Location, At, Refused, located, walked, entry_asked, in_ram}
use Rattle.rv64_hart.specs.Program.{located_at, located_end}
use Rattle.rv64_hart.specs.declared.locate.Located.{Located}
use Rattle.rv64_hart.specs.declared.locate.Located.TheVariants as found
use Rattle.rv64_hart.specs.Step.{scene, stepped, finished_by, finished, step_of}
use Rattle.rv64_hart.specs.Turn.{instruction_turn, fetched_at}
use Rattle.rv64_hart.specs.declared.ends.TurnEnd.TheVariants as ends
use Rattle.rv64_hart.specs.declared.ends.Effect.TheVariants.{Nothing}

-- the address in a step
address_in : WalkStep → ℕ
address_in (step.Need a) = a
address_in (step.Done a) = a
address_in (step.Fault a) = a

pub walked_done : (words : ℕ) (kind : Access) (left : Walking) (address : ℕ) → step.Done address ≡ next_of left
    → walked words kind left ≡ Answer (in_ram words kind address)
unfolding walked address_in
walked_done words kind (Done a) address h = ap (λ n. Answer (in_ram words kind n)) (sym (ap address_in h))
walked_done words kind (Fault a) address h = cc
walked_done words kind (Need a go_on) address h = cc

pub walked_fault : (words : ℕ) (kind : Access) (left : Walking) (cause : ℕ) → step.Fault cause ≡ next_of left
    → walked words kind left ≡ Answer (Refused (page_fault kind))
unfolding walked address_in
walked_fault words kind (Done a) cause h = cc
walked_fault words kind (Fault a) cause h = refl
walked_fault words kind (Need a go_on) cause h = cc

pub walked_need : (words : ℕ) (kind : Access) (left : Walking) (address : ℕ) → step.Need address ≡ next_of left
    → walked words kind left ≡ entry_asked words kind address (λ entry. walked words kind (after_entry left entry))
unfolding walked address_in
walked_need words kind (Done a) address h = cc
walked_need words kind (Fault a) address h = cc
walked_need words kind (Need a go_on) address h =
    ap (λ n. entry_asked words kind n (λ entry. walked words kind (go_on entry))) (sym (ap address_in h))

test_of_none : (t : Bool) (w : ℕ) → None ≡ (if t then Some w else None) → t ≡ false
test_of_none true w h = cc
test_of_none false w h = refl

chosen_some : {X : Type 0} (t : Bool) (v w : ℕ) (x : ℕ → X) (y : X) → Some w ≡ (if t then Some v else None) → (if t then x v else y) ≡ x w
chosen_some true v w x y h = ap x (sym (ap number_in h)) where
  number_in : Option ℕ → ℕ
  number_in None = 0
  number_in (Some n) = n
chosen_some false v w x y h = cc

outside : {X : Type 0} (t : Bool) (x y : X) → t ≡ false → (if t then x else y) ≡ y
outside t x y h = rw h refl

-- what the program finds at a physical address is where the access goes
found_ended : {B L : Type 0} (t : Bool) (physical : ℕ) (exception : Exception) (b : B) (log : L)
    → Ended (if t then At physical else Refused exception) b log ≡ located_end (if t then found.At physical else found.Refused exception) b log
found_ended true physical exception b log = refl
found_ended false physical exception b log = refl

module _ {B L : Type 0} (bus : BusMeaning B) (logged : L → Event → L) where
  -- what is finished of a play doesn't depend on bus and log before it
  scene_after : (h : ArchitecturalState) (place : ℕ) (console : List ℕ) (b b' : B) (log log' : L) (P : Played Outcome B L)
      → finished bus logged (scene h place console b log) P ≡ finished bus logged (scene h place console b' log') P
  unfolding finished
  scene_after h place console b b' log log' (Ended o c events) = by_room (has_room console o.bytes)
    where
      by_room : (fits : Bool) → finished_by fits bus logged (scene h place console b log) o c events ≡ finished_by fits bus logged (scene h place console b' log') o c events
      by_room true = refl
      by_room false = refl
  scene_after h place console b b' log log' (Poisoned w use_kind c events) = refl

  -- a walk that ended with an address
  pub played_done : (words : ℕ) (kind : Access) (left : Walking) (physical : ℕ) (result : Located) (b : B) (log : L)
      → step.Done physical ≡ next_of left → located_at words kind physical ≡ result
      → play bus logged (walked words kind left) b log ≡ located_end result b log
  played_done words kind left physical result b log h e =
      ap (λ m. play bus logged m b log) (walked_done words kind left physical h)
      ∙ found_ended (is_ram words physical) physical (access_fault kind) b log
      ∙ ap (λ at. located_end at b log) e

  -- an entry outside RAM
  pub played_outside : (words : ℕ) (kind : Access) (left : Walking) (address : ℕ) (b : B) (log : L)
      → step.Need address ≡ next_of left → None ≡ (if is_ram words address then Some (word_at address) else None)
      → play bus logged (walked words kind left) b log ≡ Ended (Refused (access_fault kind)) b log
  played_outside words kind left address b log h e =
      ap (λ m. play bus logged m b log)
      (walked_need words kind left address h ∙ outside (is_ram words address) _ (Answer (Refused (access_fault kind))) (test_of_none _ _ e))

  played_at : (words : ℕ) (kind : Access) (left : Walking) (address w : ℕ) (b : B) (log : L)
      → step.Need address ≡ next_of left → Some w ≡ (if is_ram words address then Some (word_at address) else None)
      → play bus logged (walked words kind left) b log ≡ play bus logged (Ask w UseKind.Walk (λ entry. walked words kind (after_entry left entry))) b log
  played_at words kind left address w b log h e =
      ap (λ m. play bus logged m b log)
      (walked_need words kind left address h
      ∙ chosen_some (is_ram words address) (word_at address) w (λ v. Ask v UseKind.Walk (λ entry. walked words kind (after_entry left entry))) _ e)

  -- a poisoned entry
  pub played_poison : (words : ℕ) (kind : Access) (left : Walking) (address w : ℕ) (b b' : B) (log log' : L)
      → step.Need address ≡ next_of left → Some w ≡ (if is_ram words address then Some (word_at address) else None)
      → Poison ≡ (bus.read b w).cell → b' ≡ (bus.read b w).after → log' ≡ logged_all logged log (bus.read b w).events
      → play bus logged (walked words kind left) b log ≡ Poisoned w UseKind.Walk b' log'
  played_poison words kind left address w b b' log log' h e cell after events =
      played_at words kind left address w b log h e ∙ rw (← cell, after, events) refl

  -- an entry that is given to the walk
  pub played_good : (words : ℕ) (kind : Access) (left left' : Walking) (address w pte : ℕ) (b b' : B) (log log' : L)
      → step.Need address ≡ next_of left → Some w ≡ (if is_ram words address then Some (word_at address) else None)
      → Good pte ≡ (bus.read b w).cell → b' ≡ (bus.read b w).after → log' ≡ logged_all logged log (bus.read b w).events
      → left' ≡ after_entry left pte
      → play bus logged (walked words kind left) b log ≡ play bus logged (walked words kind left') b' log'
  played_good words kind left left' address w pte b b' log log' h e cell after events given =
      played_at words kind left address w b log h e ∙ rw (← cell, after, events, given) refl

  -- a step whose first part ended with an answer
  pub step_ended : {X : Type 0} (m : Asking X) (f : X → Asking Outcome) (x : X) (h : ArchitecturalState) (place : ℕ) (console : List ℕ) (b b' : B) (log log' : L)
      → play bus logged m b log ≡ Ended x b' log'
      → step_of bus logged (m >>= f) (scene h place console b log) ≡ step_of bus logged (f x) (scene h place console b' log')
  unfolding finished
  step_ended m f x h place console b b' log log' e =
      ap (finished bus logged (scene h place console b log)) (play_bind bus logged m f b log ∙ ap (λ p. p then (λ x b log. play bus logged (f x) b log)) e)
      ∙ scene_after h place console b b' log log' (play bus logged (f x) b' log')

  -- a step whose first part met poison
  pub step_poisoned : {X : Type 0} (m : Asking X) (f : X → Asking Outcome) (w : ℕ) (use_kind : UseKind) (h : ArchitecturalState) (place : ℕ) (console : List ℕ) (b b' : B) (log log' : L)
      → play bus logged m b log ≡ Poisoned w use_kind b' log'
      → step_of bus logged (m >>= f) (scene h place console b log) ≡ stepped (ends.Poisoned w use_kind) (scene h place console b' log')
  unfolding finished
  step_poisoned m f w use_kind h place console b b' log log' e =
      ap (finished bus logged (scene h place console b log)) (play_bind bus logged m f b log ∙ ap (λ p. p then (λ x b log. play bus logged (f x) b log)) e)

  -- an access of which it is known where it goes
  pub accessed_ended : (words : ℕ) (h : ArchitecturalState) (op : Operation) (kind : Access) (address : ℕ) (location : Location) (place : ℕ) (console : List ℕ) (b b' : B) (log log' : L)
      → is_aligned (width_of op) address ≡ true → kind ≡ kind_of op
      → play bus logged (located words h kind address) b log ≡ Ended location b' log'
      → step_of bus logged (accessed words h op address) (scene h place console b log) ≡ step_of bus logged (performed_at h op address location) (scene h place console b' log')
  unfolding accessed
  accessed_ended words h op kind address location place console b b' log log' aligned is e =
      rw (aligned, ← is) (step_ended (located words h kind address) (performed_at h op address) location h place console b b' log log' e)

  -- an access whose walk met poison
  pub accessed_poisoned : (words : ℕ) (h : ArchitecturalState) (op : Operation) (kind : Access) (address w : ℕ) (place : ℕ) (console : List ℕ) (b b' : B) (log log' : L)
      → is_aligned (width_of op) address ≡ true → kind ≡ kind_of op
      → play bus logged (located words h kind address) b log ≡ Poisoned w UseKind.Walk b' log'
      → step_of bus logged (accessed words h op address) (scene h place console b log) ≡ stepped (ends.Poisoned w UseKind.Walk) (scene h place console b' log')
  unfolding accessed
  accessed_poisoned words h op kind address w place console b b' log log' aligned is e =
      rw (aligned, ← is) (step_poisoned (located words h kind address) (performed_at h op address) w UseKind.Walk h place console b b' log log' e)

  -- a fetch of which it is known where it goes
  pub turned_ended : (around : Around) (h : ArchitecturalState) (pc : ℕ) (location : Location) (place : ℕ) (console : List ℕ) (b b' : B) (log log' : L)
      → pc ≡ h.pc → play bus logged (located around.words h Access.Fetch pc) b log ≡ Ended location b' log'
      → step_of bus logged (instruction_turn around h) (scene h place console b log) ≡ step_of bus logged (fetched_at around h location) (scene h place console b' log')
  unfolding instruction_turn
  turned_ended around h pc location place console b b' log log' is e =
      step_ended (located around.words h Access.Fetch h.pc) (fetched_at around h) location h place console b b' log log'
      (ap (λ pc. play bus logged (located around.words h Access.Fetch pc) b log) (sym is) ∙ e)

  -- a fetch whose walk met poison
  pub turned_poisoned : (around : Around) (h : ArchitecturalState) (pc w : ℕ) (place : ℕ) (console : List ℕ) (b b' : B) (log log' : L)
      → pc ≡ h.pc → play bus logged (located around.words h Access.Fetch pc) b log ≡ Poisoned w UseKind.Walk b' log'
      → step_of bus logged (instruction_turn around h) (scene h place console b log) ≡ stepped (ends.Poisoned w UseKind.Walk) (scene h place console b' log')
  unfolding instruction_turn
  turned_poisoned around h pc w place console b b' log log' is e =
      step_poisoned (located around.words h Access.Fetch h.pc) (fetched_at around h) w UseKind.Walk h place console b b' log log'
      (ap (λ pc. play bus logged (located around.words h Access.Fetch pc) b log) (sym is) ∙ e)

  -- a turn that leaves this state and nothing else
  pub went_so : (h after after' : ArchitecturalState) (place : ℕ) (console : List ℕ) (b : B) (log : L) → after' ≡ after
      → step_of bus logged (went after) (scene h place console b log) ≡ stepped (ends.Went Nothing) (scene after' place console b log)
  unfolding finished
  went_so h after after' place console b log e = rw e grind (arith, append-nil)

  -- a fetch that traps
  pub fetch_refused : (around : Around) (h after : ArchitecturalState) (exception : Exception) (pc : ℕ) (place : ℕ) (console : List ℕ) (b : B) (log : L) → pc ≡ h.pc → after ≡ raised h exception pc
      → step_of bus logged (fetched_at around h (Refused exception)) (scene h place console b log) ≡ stepped (ends.Went Nothing) (scene after place console b log)
  unfolding fetched_at
  fetch_refused around h after exception pc place console b log is e = went_so h (raised h exception h.pc) after place console b log (e ∙ ap (raised h exception) is)
