-- Lists of harts by their numbers.
use Rattle.std.proofs.Common.{◌≡◌, ◌≢◌, ℕ, zero, suc, ◌+◌, ◌-◌, ◌*◌, ◌/◌, ◌%◌, ◌^◌, ◌<◌, ◌≤◌, Bool, true, false, List, [], ◌∷◌, ◌++◌, map, length, drop, refl, sym, ap, ◌∙◌, subst, arith, add-one}
use Rattle.std.specs.Prelude.{◌==◌, slice_set, slice_index_or, if◌then◌else◌}
use Rattle.std.specs.Int.{from_bool}
use Rattle.std.proofs.Math.Nat.{div-eq_of_lt}
use Rattle.std.proofs.lemmas.Bool.Decides.{nat_tests}
use Rattle.std.proofs.lemmas.Grind.{pow_more}
use Rattle.std.proofs.Math.Pow.{pow_mono}
use Rattle.std.proofs.lemmas.List.{length-set, set-set, set_comm, set-get_or, get_or-set_same, length-map, length-drop, map-set, map-id}
use Rattle.ras_bits.specs.Bits.{has_bit}
use Rattle.poison_mem.specs.declared.event.Event.{Event}
use Rattle.poison_mem.specs.Bus.{BusMeaning}
use Rattle.poison_mem.specs.Asking.{Played, Ended, Poisoned, play}
use Rattle.rv64_hart.specs.declared.ends.Effect.{Effect}
use Rattle.rv64_hart.specs.declared.ends.Effect.TheVariants.{Nothing, Start, StopSelf, Ipi}
use Rattle.rv64_hart.specs.declared.ends.TurnEnd.{TurnEnd}
use Rattle.rv64_hart.specs.declared.ends.TurnEnd.TheVariants as ends
use Rattle.rv64_hart.specs.declared.peers.Peers.{Peers}
use Rattle.rv64_hart.specs.Around.{Around, around_at}
use Rattle.rv64_hart.specs.State.{ArchitecturalState, reset}
use Rattle.rv64_hart.specs.Outcome.{Outcome, Store, has_room}
use Rattle.rv64_hart.specs.Step.{scene, stepped, end_of, step_of}
use Rattle.rv64_hart.specs.Shared.{SharedState, shared_meaning}
use Rattle.rv64_hart.specs.SharedLaws.{of_shared, shared_step}
use Rattle.rv64_hart.specs.Turn.{turn}
use Rattle.rv64_hart.specs.Within.{OutcomeWithin}
use Rattle.rv64_hart.specs.WithinLaws.{turn_within}
use Rattle.rv64_hart.specs.Harts.{saw_stores, affected, effect_applied, end_applied, started_bits, peers_of, hart_at, AreNumberedFrom, AreHarts, stopped_from, HartsScene, HartsStepped, harts_scene, harts_stepped, harts_finished_by, harts_finished, harts_step_of}
use Rattle.rv64_hart.proofs.Endings.{EndsAs, play_ends}

-- ---- a map, element by element

-- the first n elements mapped, the others as they are
abbrev pub map_first : {A : Type 0} → (A → A) → ℕ → List A → List A
map_first f zero xs = xs
map_first f (suc n) [] = []
map_first f (suc n) (x ∷ xs) = f x ∷ map_first f n xs

pub map_first_all : {A : Type 0} (f : A → A) (xs : List A) → map_first f (length xs) xs ≡ map f xs
map_first_all f [] = refl
map_first_all f (x ∷ xs) = ap (λ ys. f x ∷ ys) (map_first_all f xs)

pub length_map_first : {A : Type 0} (f : A → A) (n : ℕ) (xs : List A) → length (map_first f n xs) ≡ length xs
length_map_first f zero xs = refl
length_map_first f (suc n) [] = refl
length_map_first f (suc n) (x ∷ xs) = ap suc (length_map_first f n xs)

map_first_next : {A : Type 0} (f : A → A) (n : ℕ) (xs : List A) (d : A) → n < length xs
    → slice_set (map_first f n xs) n (f (slice_index_or (map_first f n xs) n d)) ≡ map_first f (suc n) xs
map_first_next f zero [] d within = absurd (omega arith)
map_first_next f zero (x ∷ xs) d within = refl
map_first_next f (suc n) [] d within = absurd (omega arith)
map_first_next f (suc n) (x ∷ xs) d within = ap (λ ys. f x ∷ ys) (map_first_next f n xs d (omega arith))

-- one element more
pub map_first_more : {A : Type 0} (f : A → A) (n : ℕ) (xs ys : List A) (d : A) → ys ≡ map_first f n xs → n < length ys
    → slice_set ys n (f (slice_index_or ys n d)) ≡ map_first f (n + 1) xs
map_first_more f n xs ys d is within =
    let more : n < length xs = subst (λ m. n < m) (ap length is ∙ length_map_first f n xs) within in
    rw (add-one n, is) (map_first_next f n xs d more)

-- all elements
pub map_first_done : {A : Type 0} (f : A → A) (n : ℕ) (xs ys : List A) → ys ≡ map_first f n xs → n ≡ length ys → ys ≡ map f xs
map_first_done f n xs ys is all =
    let whole : n ≡ length xs = all ∙ ap length is ∙ length_map_first f n xs in
    is ∙ rw whole (map_first_all f xs)

-- one stopped hart more
stopped_next : (id n entry : ℕ) → stopped_from id (suc n) entry ≡ stopped_from id n entry ++ reset (id + n) entry ∷ []
stopped_next id zero entry = ap (λ id. reset id entry ∷ []) (omega arith)
stopped_next id (suc n) entry =
    ap (λ harts. reset id entry ∷ harts)
    (stopped_next (id + 1) n entry ∙ ap (λ id'. stopped_from (id + 1) n entry ++ reset id' entry ∷ []) (omega arith))

pub stopped_more : (n entry : ℕ) → stopped_from 0 (n + 1) entry ≡ stopped_from 0 n entry ++ reset n entry ∷ []
stopped_more n entry = rw (add-one n) (stopped_next 0 n entry ∙ ap (λ id. stopped_from 0 n entry ++ reset id entry ∷ []) (omega arith))

pub length_stopped : (id n entry : ℕ) → length (stopped_from id n entry) ≡ n
length_stopped id zero entry = refl
length_stopped id (suc n) entry = ap suc (length_stopped (id + 1) n entry)

numbered_stopped : (id n entry : ℕ) → AreNumberedFrom id (stopped_from id n entry)
numbered_stopped id zero entry = tt
numbered_stopped id (suc n) entry = (refl, numbered_stopped (id + 1) n entry)

-- ---- which are started

pub bool_small : (b : Bool) → from_bool b ≤ 1
bool_small true = omega arith
bool_small false = omega arith

pub bits_below : (harts : List ArchitecturalState) → started_bits harts < 2 ^ length harts
bits_below [] = omega arith
bits_below (h ∷ harts) =
    let small : from_bool h.started ≤ 1 = bool_small h.started in
    let rest : started_bits harts < 2 ^ length harts = bits_below harts in
    let more : 2 ^ (length harts + 1) ≡ 2 ^ length harts * 2 = pow_more 2 (length harts) in
    let next : 2 ^ suc (length harts) ≡ 2 ^ (length harts + 1) = ap (λ n. 2 ^ n) (sym (add-one (length harts))) in
    omega arith

-- few harts have few bits
pub bits_few : (harts : List ArchitecturalState) (i : ℕ) → length harts ≤ 4 → started_bits (drop i harts) ≤ 15
bits_few harts i few =
    let below : started_bits (drop i harts) < 2 ^ length (drop i harts) = bits_below (drop i harts) in
    let len : length (drop i harts) ≡ length harts - i = length-drop i harts in
    let power : 2 ^ length (drop i harts) ≤ 2 ^ 4 = pow_mono {i = length (drop i harts)} {j = 4} (omega arith) in
    omega arith

-- a mask of eight bits has no bit for any other hart
pub beyond_mask : (mask n : ℕ) → mask < 256 → 8 ≤ n → has_bit mask n ≡ false
beyond_mask mask n small far =
    let power : 2 ^ 8 ≤ 2 ^ n = pow_mono far in
    let none : mask / 2 ^ n ≡ 0 = div-eq_of_lt (omega arith) in
    ap (λ q. q % 2 == 1) none

-- ---- numbers

pub numbered_at : (n : ℕ) (harts : List ArchitecturalState) (i : ℕ) (d : ArchitecturalState) → AreNumberedFrom n harts → i < length harts
    → (slice_index_or harts i d).number ≡ n + i
numbered_at n [] i d numbered within = absurd (omega arith)
numbered_at n (h ∷ harts) zero d (is, rest) within = is ∙ omega arith
numbered_at n (h ∷ harts) (suc i) d (is, rest) within = numbered_at (n + 1) harts i d rest (omega arith) ∙ omega arith

numbered_map : (f : ArchitecturalState → ArchitecturalState) → ((h : ArchitecturalState) → (f h).number ≡ h.number) → (n : ℕ) (harts : List ArchitecturalState)
    → AreNumberedFrom n harts → AreNumberedFrom n (map f harts)
numbered_map f same n [] numbered = tt
numbered_map f same n (h ∷ harts) (is, rest) = (same h ∙ is, numbered_map f same (n + 1) harts rest)

numbered_set : (n : ℕ) (harts : List ArchitecturalState) (i : ℕ) (x : ArchitecturalState) → AreNumberedFrom n harts → x.number ≡ n + i
    → AreNumberedFrom n (slice_set harts i x)
numbered_set n [] i x numbered is = tt
numbered_set n (h ∷ harts) zero x (old, rest) is = (is ∙ omega arith, rest)
numbered_set n (h ∷ harts) (suc i) x (old, rest) is = (old, numbered_set (n + 1) harts i x rest (is ∙ omega arith))

saw_stores_number : (stores : List Store) (h : ArchitecturalState) → (saw_stores stores h).number ≡ h.number
saw_stores_number [] h = refl
saw_stores_number (s ∷ stores) h = saw_stores_number stores _

either_number : (b : Bool) (x y : ArchitecturalState) (n : ℕ) → (b ≡ true → x.number ≡ n) → y.number ≡ n → (if b then x else y).number ≡ n
either_number true x y n first second = first refl
either_number false x y n first second = second

same_by_test : (n m : ℕ) → (n == m) ≡ true → m ≡ n
same_by_test n m h = grind (arith, nat_tests)

affected_number : (acting : ℕ) (effect : Effect) (h : ArchitecturalState) → (affected acting effect h).number ≡ h.number
affected_number acting Nothing h = refl
affected_number acting (Start id entry opaque) h = either_number (h.number == id) _ h h.number (λ is. same_by_test h.number id is) refl
affected_number acting StopSelf h = either_number (h.number == acting) _ h h.number (λ is. refl) refl
affected_number acting (Ipi harts) h = either_number (has_bit harts h.number) _ h h.number (λ is. refl) refl

-- harts that stay as many and numbered
pub record StayHarts (before after : List ArchitecturalState) : Type 0 where
  pub len : length after ≡ length before
  pub are : AreHarts after

stay : (before after : List ArchitecturalState) → AreHarts before → length after ≡ length before → AreNumberedFrom 0 after → StayHarts before after
stay before after harts len numbered = record {
  len = len;
  are = record {
    some = let some : 1 ≤ length before = harts.some in omega arith;
    few = let few : length before ≤ 4 = harts.few in omega arith;
    numbered = numbered;
  };
}

pub effect_stays : (acting : ℕ) (answer : TurnEnd) (harts : List ArchitecturalState) → AreHarts harts → StayHarts harts (effect_applied acting answer harts)
effect_stays acting (ends.Went effect) harts are =
    stay harts (map (affected acting effect) harts) are (length-map harts (affected acting effect)) (numbered_map (affected acting effect) (affected_number acting effect) 0 harts are.numbered)
effect_stays acting (ends.Stop stop) harts are = stay harts harts are refl are.numbered
effect_stays acting (ends.Poisoned w use_kind) harts are = stay harts harts are refl are.numbered

end_stays : (acting : ℕ) (o : Outcome) (harts : List ArchitecturalState) → AreHarts harts → o.after.number ≡ acting → StayHarts harts (end_applied acting o harts)
end_stays acting o harts are is =
    let seen = map (saw_stores o.stores) harts in
    let set : StayHarts harts (slice_set seen acting o.after) =
    stay harts (slice_set seen acting o.after) are (length-set seen acting o.after ∙ length-map harts (saw_stores o.stores))
    (numbered_set 0 seen acting o.after (numbered_map (saw_stores o.stores) (saw_stores_number o.stores) 0 harts are.numbered) (is ∙ omega arith)) in
    let done = effect_stays acting (end_of o.ending) (slice_set seen acting o.after) set.are in
    record { len = done.len ∙ set.len; are = done.are }

module _ {B L : Type 0} (bus : BusMeaning B) (logged : L → Event → L) (acting : ℕ) (s : HartsScene B L) where
  finished_by_stays : (fits : Bool) (o : Outcome) (b : B) (log : L) → AreHarts s.harts → o.after.number ≡ acting
      → StayHarts s.harts (harts_finished_by fits bus logged acting s o b log).after.harts
  finished_by_stays true o b log are is = end_stays acting o s.harts are is
  finished_by_stays false o b log are is = stay s.harts s.harts are refl are.numbered

  finished_stays : (words : ℕ) (h : ArchitecturalState) (P : Played Outcome B L) → AreHarts s.harts → h.number ≡ acting → EndsAs (OutcomeWithin words h) P
      → StayHarts s.harts (harts_finished bus logged acting s P).after.harts
  unfolding harts_finished
  finished_stays words h (Ended o b log) are is within = finished_by_stays (has_room s.console o.bytes) o b log are (within.number ∙ is)
  finished_stays words h (Poisoned w use_kind b log) are is within = stay s.harts s.harts are refl are.numbered

  -- a step of one hart leaves as many harts with the same numbers
  pub harts_step_stays : (around : Around) (h : ArchitecturalState) → AreHarts s.harts → h.number ≡ acting
      → StayHarts s.harts (harts_step_of bus logged acting (turn around h) s).after.harts
  harts_step_stays around h are is =
      finished_stays around.words h (play bus logged (turn around h) s.bus s.log) are is
      (play_ends bus logged around.words (OutcomeWithin around.words h) (turn around h) 600 s.bus s.log (turn_within around h))

alone_bits : (waiting : List ArchitecturalState) (at : ℕ) (h : ArchitecturalState) → at < length waiting → length (slice_set waiting at h) ≡ 1
    → from_bool h.started ≡ started_bits (slice_set waiting at h)
alone_bits [] at h within one = absurd (omega arith)
alone_bits (x ∷ []) zero h within one = omega arith
alone_bits (x ∷ []) (suc at) h within one = absurd (omega arith)
alone_bits (x ∷ y ∷ rest) at h within one =
    let len : length (slice_set (x ∷ y ∷ rest) at h) ≡ length (x ∷ y ∷ rest) = length-set (x ∷ y ∷ rest) at h in
    absurd (omega arith)

-- what a hart is told that is the only one
pub alone_peers : (waiting : List ArchitecturalState) (at : ℕ) (h : ArchitecturalState) (harts : List ArchitecturalState) (count started : ℕ)
    → at < length waiting → slice_set waiting at h ≡ harts → length harts ≡ 1 → count ≡ length harts → started ≡ from_bool h.started
    → record { harts = count; started = started } ≡ peers_of harts
alone_peers waiting at h harts count started within is one counted bit =
    let bits : from_bool h.started ≡ started_bits harts = subst (λ hs. from_bool h.started ≡ started_bits hs) is (alone_bits waiting at h within (ap length is ∙ one)) in
    rw (counted, bit, bits) refl

-- ---- over the shared memory

-- an effect on the hart that acts and on those that wait is one on all harts
pub effect_on_all : (acting : ℕ) (effect : Effect) (waiting : List ArchitecturalState) (i : ℕ) (h : ArchitecturalState)
    → slice_set (map (affected acting effect) waiting) i (affected acting effect h) ≡ map (affected acting effect) (slice_set waiting i h)
effect_on_all acting effect waiting i h = sym (map-set (affected acting effect) waiting i h)

pub no_effect : (acting : ℕ) (effect : Effect) (harts : List ArchitecturalState) → effect ≡ Nothing → harts ≡ map (affected acting effect) harts
no_effect acting effect harts is = rw is (sym (map-id harts))

-- two harts change places, so that another one acts
pub selected : (waiting : List ArchitecturalState) (at i : ℕ) (acting d e : ArchitecturalState)
    → (let w = slice_set waiting at acting in slice_set (slice_set w i d) i (slice_index_or w i e) ≡ w)
selected waiting at i acting d e =
    let w = slice_set waiting at acting in
    set-set w i d (slice_index_or w i e) ∙ set-get_or w i e

module _ {B L : Type 0} (bus : BusMeaning B) (logged : L → Event → L) where
  -- a step of the hart that acts over the shared memory, and its effect, is a step of all harts
  pub whole_step : (i : ℕ) (h after acted : ArchitecturalState) (waiting : List ArchitecturalState) (memory : B) (stepped_to affected_to : SharedState B) (peers : Peers) (answer : TurnEnd)
      (now : ℕ) (input : List ℕ) (place place' : ℕ) (console console' : List ℕ) (log log' : L)
      → i < length waiting → peers ≡ peers_of (slice_set waiting i h)
      → step_of (shared_meaning bus) logged (turn (around_at (bus.words memory) peers now input place) h) (scene h place console (record { memory = memory; waiting = waiting }) log)
      ≡ stepped answer (scene after place' console' stepped_to log')
      → slice_set affected_to.waiting i acted ≡ effect_applied i answer (slice_set stepped_to.waiting i after)
      → affected_to.memory ≡ stepped_to.memory
      → (let harts = slice_set waiting i h in
      harts_step_of bus logged i (turn (around_at (bus.words memory) (peers_of harts) now input place) (hart_at harts i)) (harts_scene harts place console memory log)
      ≡ harts_stepped answer (harts_scene (slice_set affected_to.waiting i acted) place' console' affected_to.memory log'))
  whole_step i h after acted waiting memory stepped_to affected_to peers answer now input place place' console console' log log' within are step applied same =
      rw (← are, get_or-set_same waiting i h (reset i 0) within, applied, same)
      (shared_step bus logged i h waiting place console memory log (turn (around_at (bus.words memory) peers now input place) h)
      ∙ ap (of_shared i) step)

  -- and it leaves as many harts with the same numbers
  pub left_so : (acting : ℕ) (s : HartsScene B L) (t : HartsStepped B L) (around : Around) (h : ArchitecturalState) → AreHarts s.harts → h.number ≡ acting
      → harts_step_of bus logged acting (turn around h) s ≡ t → StayHarts s.harts t.after.harts
  left_so acting s t around h are is e = rw (← e) (harts_step_stays bus logged acting s around h are is)

-- a hart has the number of its place
pub acts_as : (harts : List ArchitecturalState) (i : ℕ) → AreHarts harts → i < length harts → (hart_at harts i).number ≡ i
acts_as harts i are within = numbered_at 0 harts i (reset i 0) are.numbered within ∙ omega arith

-- a hart is set, be it the one that acts or one that waits
pub set_acting : (waiting : List ArchitecturalState) (at i : ℕ) (acting h : ArchitecturalState) → i ≡ at
    → slice_set waiting at h ≡ slice_set (slice_set waiting at acting) i h
set_acting waiting at i acting h same = rw same (sym (set-set waiting at acting h))

pub set_waiting : (waiting : List ArchitecturalState) (at i : ℕ) (acting h : ArchitecturalState) → i ≢ at
    → slice_set (slice_set waiting i h) at acting ≡ slice_set (slice_set waiting at acting) i h
set_waiting waiting at i acting h other = set_comm waiting i at h acting other

-- the harts are still numbered where it has the number of its place
pub set_stays : (harts : List ArchitecturalState) (i : ℕ) (h : ArchitecturalState) → AreHarts harts → h.number ≡ i → AreHarts (slice_set harts i h)
set_stays harts i h are number =
    (stay harts (slice_set harts i h) are (length-set harts i h) (numbered_set 0 harts i h are.numbered (number ∙ omega arith))).are

-- the harts of a machine that starts
pub first_are : (n entry : ℕ) (h : ArchitecturalState) (waiting : List ArchitecturalState) → 1 ≤ n → n ≤ 4 → waiting ≡ stopped_from 0 n entry → h.number ≡ 0
    → (0 < length waiting) × AreHarts (slice_set waiting 0 h)
first_are n entry h waiting some few is number =
    let len : length waiting ≡ n = ap length is ∙ length_stopped 0 n entry in
    let set : length (slice_set waiting 0 h) ≡ length waiting = length-set waiting 0 h in (
      omega arith,
      record {
        some = omega arith;
        few = omega arith;
        numbered = numbered_set 0 waiting 0 h (subst (AreNumberedFrom 0) (sym is) (numbered_stopped 0 n entry)) (number ∙ omega arith);
      },
    )

module _ {B L : Type 0} (bus : BusMeaning B) (logged : L → Event → L) where
  -- What the program finds after a step of one hart and its effect is a step of all harts, which stay as many and numbered.
  pub all_done : (i at : ℕ) (harts : List ArchitecturalState) (whole : B) (h after acted : ArchitecturalState) (waiting : List ArchitecturalState) (memory : B) (stepped_to affected_to : SharedState B) (peers : Peers) (answer : TurnEnd)
      (now : ℕ) (input : List ℕ) (place place' : ℕ) (console console' : List ℕ) (log log' : L)
      → AreHarts harts → i < length harts → slice_set waiting i h ≡ harts → memory ≡ whole → peers ≡ peers_of harts → at ≡ i
      → step_of (shared_meaning bus) logged (turn (around_at (bus.words memory) peers now input place) h) (scene h place console (record { memory = memory; waiting = waiting }) log)
      ≡ stepped answer (scene after place' console' stepped_to log')
      → slice_set affected_to.waiting i acted ≡ effect_applied i answer (slice_set stepped_to.waiting i after)
      → affected_to.memory ≡ stepped_to.memory
      → (harts_step_of bus logged i (turn (around_at (bus.words whole) (peers_of harts) now input place) (hart_at harts i)) (harts_scene harts place console whole log)
      ≡ harts_stepped answer (harts_scene (slice_set affected_to.waiting at acted) place' console' affected_to.memory log'))
      × (at < length affected_to.waiting) × AreHarts (slice_set affected_to.waiting at acted)
  all_done i at harts whole h after acted waiting memory stepped_to affected_to peers answer now input place place' console console' log log' are within is same told place_is step applied kept =
      let set : length (slice_set waiting i h) ≡ length waiting = length-set waiting i h in
      let len : length (slice_set waiting i h) ≡ length harts = ap length is in
      let there : i < length waiting = omega arith in
      let stepped_so : harts_step_of bus logged i (turn (around_at (bus.words whole) (peers_of harts) now input place) (hart_at harts i)) (harts_scene harts place console whole log)
      ≡ harts_stepped answer (harts_scene (slice_set affected_to.waiting i acted) place' console' affected_to.memory log') =
      rw (← is, ← same) (whole_step bus logged i h after acted waiting memory stepped_to affected_to peers answer now input place place' console console' log log' there (told ∙ ap peers_of (sym is)) step applied kept) in
      let left : StayHarts harts (slice_set affected_to.waiting i acted) =
      left_so bus logged i (harts_scene harts place console whole log) _ (around_at (bus.words whole) (peers_of harts) now input place) (hart_at harts i) are (acts_as harts i are within) stepped_so in
      let set' : length (slice_set affected_to.waiting i acted) ≡ length affected_to.waiting = length-set affected_to.waiting i acted in
      let len' : length (slice_set affected_to.waiting i acted) ≡ length harts = left.len in
      let there' : i < length affected_to.waiting = omega arith in
      rw place_is (stepped_so, there', left.are)
