-- The hart's step over a memory that stands for the flat machine's RAM.
use Rattle.std.proofs.Common.{ℕ, ◌+◌, ◌-◌, ◌≡◌, ◌≢◌, ◌≤◌, ◌<◌, ◌⊎◌, inl, inr, Bool, true, false, ◌&&◌, ◌||◌, List, [], ◌∷◌, ◌++◌, Some, length, refl, sym, ◌∙◌, subst, arith, slice_index, slice_set}
use Rattle.std.specs.Prelude.{◌==◌, if◌then◌else◌}
use Rattle.std.proofs.lemmas.Bool.{cases_eq}
use Rattle.std.proofs.lemmas.Bool.Decides.{nat_tests}
use Rattle.std.proofs.lemmas.List.{get_or-set_other, get_or-set_same}
use Rattle.std.proofs.Math.ListN.{length-set}
use Rattle.poison_mem.specs.declared.cell.Cell.{Cell}
use Rattle.poison_mem.specs.declared.cell.Cell.TheVariants.{Good, Poison}
use Rattle.poison_mem.specs.declared.cell.UseKind.{UseKind}
use Rattle.poison_mem.specs.declared.event.Event.{Event}
use Rattle.poison_mem.specs.Asking.{Asking, Answer, Ask, AsksWithin, Played, Ended, Poisoned, by_cell, play}
use Rattle.poison_mem.specs.Bus.{BusMeaning, KeepsWords, logged_all}
use Rattle.poison_mem.specs.Flips.{FlipMeaning, IsFaithful, Shows, stored_at, renewed_at}
use Rattle.poison_mem.specs.Merge.{merged_value}
use Rattle.poison_mem.specs.FlipsLaws.{stored_at-same, stored_at-other}
use Rattle.rv64_hart.specs.State.{ArchitecturalState}
use Rattle.rv64_hart.specs.Outcome.{Outcome, OutcomeEnd, Goes, Stops, Store, has_room}
use Rattle.rv64_hart.specs.Step.{stored, end_of}
use Rattle.rv64_hart.specs.Harts.{HartsScene, HartsStepped, end_applied, harts_scene, harts_finished_by, harts_finished, harts_step_of}
use Rattle.rv64_hart.specs.Within.{StoresWithin, OutcomeWithin}
use Rattle.rv64_hart.specs.declared.ends.TurnEnd.TheVariants as ends
use Rattle.ras_machine.specs.declared.ending.Stop.TheVariants as stops
use Rattle.ras_machine.specs.Flat.{FlatState, FlatMove, flat_answered, ram_after, flat_outcome}
use Rattle.ras_machine.specs.Acted.{ending_at}
use Rattle.ras_machine.specs.Ends.{guest_ends, turn_stop, turn_steps}
use Rattle.ras_machine.specs.Since.{stores_of, stores_whole}
use Rattle.ras_machine.specs.Ways.{AsksFor}
use Rattle.ras_machine.specs.TwoRuns.{StandsFor}

-- a store of the first bytes, then the later stores
renewed : (at whole later : Bool) (q : ℕ) → (if later then 0 else (if at then (if whole then 0 else q) else q)) ≤ (if (at && whole) || later then 0 else q)
renewed true true true q = omega arith
renewed true true false q = omega arith
renewed true false true q = omega arith
renewed true false false q = omega arith
renewed false true true q = omega arith
renewed false true false q = omega arith
renewed false false true q = omega arith
renewed false false false q = omega arith

-- the RAM after a store, word by word
stored_ram : (ram : List ℕ) (w value mask k : ℕ) → w < length ram
    → slice_index (slice_set ram w (merged_value (slice_index ram w) value mask)) k ≡ stored_at (slice_index ram) w value mask k
stored_ram ram w value mask k inside = by_word (cases_eq k w)
  where
    by_word : (k ≡ w) ⊎ (k ≢ w) → slice_index (slice_set ram w (merged_value (slice_index ram w) value mask)) k ≡ stored_at (slice_index ram) w value mask k
    by_word (inl same) =
        subst (λ n. slice_index (slice_set ram w (merged_value (slice_index ram w) value mask)) n ≡ stored_at (slice_index ram) w value mask n) (sym same)
        (get_or-set_same ram w _ 0 inside ∙ sym (stored_at-same (slice_index ram) w value mask))
    by_word (inr other) = get_or-set_other ram w k _ 0 other ∙ sym (stored_at-other (slice_index ram) w value mask k other)

module _ {B L : Type 0} (bus : BusMeaning B) (flips : FlipMeaning B) (logged : L → Event → L) (stands : B → (ℕ → ℕ) → (ℕ → ℕ) → Type 0) where
  -- Two plays of one computation come to the same answer, or the first meets poison at a word that the second asks for.
  data Alike (ram : List ℕ) (q : ℕ → ℕ) (h : ArchitecturalState) (m : Asking Outcome) (P : Played Outcome B L) : Type 0 where
    both : (b : B) (log : L) → P ≡ Ended (flat_answered ram m) b log → StandsFor bus stands ram q b → OutcomeWithin (length ram) h (flat_answered ram m) → Alike ram q h m P
    consumed : (w : ℕ) (use_kind : UseKind) (b : B) (log : L) → P ≡ Poisoned w use_kind b log → AsksFor ram m w use_kind → 2 ≤ q w → Alike ram q h m P

  ask_alike : (ram : List ℕ) (q : ℕ → ℕ) (h : ArchitecturalState) (w : ℕ) (use_kind : UseKind) (go_on : ℕ → Asking Outcome) (P : Played Outcome B L)
      → Alike ram q h (go_on (slice_index ram w)) P → Alike ram q h (Ask w use_kind go_on) P
  ask_alike ram q h w use_kind go_on P (both b log p it within) = both b log p it within
  ask_alike ram q h w use_kind go_on P (consumed u for b log p asks twice) = consumed u for b log p (inr asks) twice

  read_alike : (ram : List ℕ) (q : ℕ → ℕ) (h : ArchitecturalState) (w : ℕ) (use_kind : UseKind) (go_on : ℕ → Asking Outcome) (cell : Cell) (X : ℕ → Played Outcome B L) (b : B) (log : L)
      → Shows (slice_index ram w) (q w) cell → Alike ram q h (go_on (slice_index ram w)) (X (slice_index ram w)) → Alike ram q h (Ask w use_kind go_on) (by_cell cell X (Poisoned w use_kind b log))
  read_alike ram q h w use_kind go_on (Good v) X b log shows rest =
      subst (λ n. Alike ram q h (Ask w use_kind go_on) (X n)) (sym shows.0) (ask_alike ram q h w use_kind go_on (X (slice_index ram w)) rest)
  read_alike ram q h w use_kind go_on Poison X b log shows rest = consumed w use_kind b log refl (inl (refl, refl)) shows

  -- the asks of a turn
  turn_alike : KeepsWords bus → IsFaithful bus flips stands → (h : ArchitecturalState) (m : Asking Outcome) (most : ℕ) (ram : List ℕ) (q : ℕ → ℕ) (b : B) (log : L)
      → StandsFor bus stands ram q b → AsksWithin (length ram) most (OutcomeWithin (length ram) h) m → Alike ram q h m (play bus logged m b log)
  turn_alike keeps faithful h (Answer outcome) most ram q b log it within = both b log refl it within
  turn_alike keeps faithful h (Ask w use_kind go_on) most ram q b log it within =
      let inside : w < bus.words b = let same = it.words in let there = within.0 in omega arith in
      let log' : L = logged_all logged log (bus.read b w).events in
      read_alike ram q h w use_kind go_on (bus.read b w).cell (λ value. play bus logged (go_on value) (bus.read b w).after log') (bus.read b w).after log'
      (faithful.read_shows b w (slice_index ram) q inside it.each)
      (turn_alike keeps faithful h (go_on (slice_index ram w)) (most - 1) ram q (bus.read b w).after log'
      (record { words = keeps.read b w ∙ it.words; each = faithful.read_keeps b w (slice_index ram) q inside it.each }) (within.2 (slice_index ram w)))

  -- the stores of a step
  stores_stand : KeepsWords bus → IsFaithful bus flips stands → (stores : List Store) (ram : List ℕ) (q : ℕ → ℕ) (b : B) (log : L)
      → StandsFor bus stands ram q b → StoresWithin (length ram) stores
      → StandsFor bus stands (ram_after ram stores) (λ w. if stores_whole w stores then 0 else q w) (stored bus logged stores b log).0
  stores_stand keeps faithful [] ram q b log it within = it
  stores_stand keeps faithful (s ∷ stores) ram q b log it within =
      let inside : s.w < bus.words b = let same = it.words in let there = within.0 in omega arith in
      let after : List ℕ = slice_set ram s.w (merged_value (slice_index ram s.w) s.value s.mask) in
      let storing = bus.store b s.w s.value s.mask in
      let long : length after ≡ length ram = length-set ram s.w _ in
      let words : bus.words storing.after ≡ length after = keeps.store b s.w s.value s.mask ∙ it.words ∙ sym long in
      let here : StandsFor bus stands after (renewed_at q s.w s.mask) storing.after = record {
        words = words;
        each = faithful.same storing.after (stored_at (slice_index ram) s.w s.value s.mask) (slice_index after) (renewed_at q s.w s.mask) (renewed_at q s.w s.mask)
            (faithful.store_keeps b s.w s.value s.mask (slice_index ram) q inside it.each)
            (λ k below. stored_ram ram s.w s.value s.mask k within.0) (λ k below. omega arith);
      } in
      let rest = stores_stand keeps faithful stores after (renewed_at q s.w s.mask) storing.after (logged_all logged log storing.events) here (subst (λ n. StoresWithin n stores) (sym long) within.1) in
      record {
        words = rest.words;
        each = faithful.same _ _ _ (λ k. if stores_whole k stores then 0 else renewed_at q s.w s.mask k) (λ k. if stores_whole k (s ∷ stores) then 0 else q k) rest.each
            (λ k below. refl) (λ k below. either k (stores_whole k stores));
      }
    where
      either : (k : ℕ) (later : Bool) → (if later then 0 else renewed_at q s.w s.mask k) ≤ (if ((s.w == k) && (s.mask == 255)) || later then 0 else q k)
      either k later = rw (swapped k s.w) (renewed (s.w == k) (s.mask == 255) later (q k))
        where
          swapped : (k w : ℕ) → (k == w) ≡ (w == k)
          swapped k w = grind (arith, nat_tests)

  -- Two steps alike: they come to the same, or the first ends at a poisoned word that the second asks for.
  pub data StepsAlike (n : ℕ) (s : FlatState) (q : ℕ → ℕ) (m : Asking Outcome) (stores : List Store) (t : HartsStepped B L) (move : FlatMove) : Type 0 where
    both_step : ((pc : ℕ) → ending_at (turn_stop t.answer pc) (turn_steps t.answer n) ≡ move.ending)
        → t.after.harts ≡ move.after.harts → t.after.place ≡ move.after.place → t.after.console ≡ move.after.console
        → StandsFor bus stands move.after.ram (λ w. if stores_whole w stores then 0 else q w) t.after.bus → StepsAlike n s q m stores t move
    consumes : (w : ℕ) (use_kind : UseKind) → t.answer ≡ ends.Poisoned w use_kind → t.after.harts ≡ s.harts → t.after.place ≡ s.place → t.after.console ≡ s.console
        → AsksFor s.ram m w use_kind → 2 ≤ q w → StepsAlike n s q m stores t move

  same_end : (ending : OutcomeEnd) (n pc : ℕ) → ending_at (turn_stop (end_of ending) pc) (turn_steps (end_of ending) n) ≡ guest_ends ending n
  same_end (Goes effect) n pc = refl
  same_end (Stops stop) n pc = refl

  -- what the step of the flat machine's harts works on, over a bus
  abbrev pub scene_of : FlatState → B → L → HartsScene B L
  scene_of s b log = harts_scene s.harts s.place s.console b log

  finish_alike : KeepsWords bus → IsFaithful bus flips stands → (i n : ℕ) (s : FlatState) (q : ℕ → ℕ) (m : Asking Outcome) (outcome : Outcome) (b b' : B) (log log' : L)
      → StandsFor bus stands s.ram q b' → StoresWithin (length s.ram) outcome.stores
      → StepsAlike n s q m (stores_of s.console outcome) (harts_finished bus logged i (scene_of s b log) (Ended outcome b' log')) (flat_outcome i n s outcome)
  unfolding harts_finished flat_outcome
  finish_alike keeps faithful i n s q m o b b' log log' it within = by_room (has_room s.console o.bytes)
    where
      by_room : (fits : Bool) → StepsAlike n s q m (if fits then o.stores else [])
          (harts_finished_by fits bus logged i (scene_of s b log) o b' log')
          (if fits
          then record {
            after = record { harts = end_applied i o s.harts; place = s.place + o.taken; ram = ram_after s.ram o.stores; console = s.console ++ o.bytes };
            ending = guest_ends o.ending n;
          }
          else record { after = s; ending = Some (record { stop = stops.ConsoleFull; steps = n }) })
      by_room true = both_step (λ pc. same_end o.ending n pc) refl refl refl (stores_stand keeps faithful o.stores s.ram q b' log' it within)
      by_room false = both_step (λ pc. refl) refl refl refl it

  -- a step over both
  pub step_alike : KeepsWords bus → IsFaithful bus flips stands → (i n : ℕ) (s : FlatState) (q : ℕ → ℕ) (h : ArchitecturalState) (m : Asking Outcome) (most : ℕ) (b : B) (log : L)
      → StandsFor bus stands s.ram q b → AsksWithin (length s.ram) most (OutcomeWithin (length s.ram) h) m
      → StepsAlike n s q m (stores_of s.console (flat_answered s.ram m)) (harts_step_of bus logged i m (scene_of s b log)) (flat_outcome i n s (flat_answered s.ram m))
  unfolding harts_finished
  step_alike keeps faithful i n s q h m most b log it within = from (play bus logged m b log) (turn_alike keeps faithful h m most s.ram q b log it within)
    where
      from : (P : Played Outcome B L) → Alike s.ram q h m P
          → StepsAlike n s q m (stores_of s.console (flat_answered s.ram m)) (harts_finished bus logged i (scene_of s b log) P) (flat_outcome i n s (flat_answered s.ram m))
      from P (both b' log' p it' within') =
          subst (λ P. StepsAlike n s q m (stores_of s.console (flat_answered s.ram m)) (harts_finished bus logged i (scene_of s b log) P) (flat_outcome i n s (flat_answered s.ram m))) (sym p)
          (finish_alike keeps faithful i n s q m (flat_answered s.ram m) b b' log log' it' within'.stores)
      from P (consumed w use_kind b' log' p asks twice) =
          subst (λ P. StepsAlike n s q m (stores_of s.console (flat_answered s.ram m)) (harts_finished bus logged i (scene_of s b log) P) (flat_outcome i n s (flat_answered s.ram m))) (sym p)
          (consumes w use_kind refl refl refl refl asks twice)
