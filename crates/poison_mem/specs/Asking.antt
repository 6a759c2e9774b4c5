-- A computation that asks a bus for words: it is a function of the replies, and all its asks come before its answer.
use Rattle.std.specs.Prelude.{◌≡◌, ℕ, ◌<◌, ◌-◌, List, [], ◌∷◌}
use Rattle.poison_mem.specs.declared.cell.Cell.{Cell}
use Rattle.poison_mem.specs.declared.cell.Cell.TheVariants.{Good, Poison}
use Rattle.poison_mem.specs.declared.cell.UseKind.{UseKind}
use Rattle.poison_mem.specs.declared.event.Event.{Event}
use Rattle.poison_mem.specs.Bus.{BusMeaning, logged_all}

-- it answers, or asks for a word and goes on with the word's value
pub data Asking (X : Type 0) : Type 0 where
  Answer : X → Asking X
  Ask : (w : ℕ) → (use_kind : UseKind) → (ℕ → Asking X) → Asking X

-- first one computation, then another with its answer
infixl 10 ◌>>=◌
abbrev pub ◌>>=◌ : {X Y : Type 0} → Asking X → (X → Asking Y) → Asking Y
(Answer x) >>= f = f x
(Ask w use_kind go_on) >>= f = Ask w use_kind (λ value. go_on value >>= f)

-- one word
abbrev pub asked : ℕ → UseKind → Asking ℕ
asked w use_kind = Ask w use_kind (λ value. Answer value)

-- what is left of a computation after these replies
abbrev pub follow : {X : Type 0} → Asking X → List ℕ → Asking X
follow (Answer x) replies = Answer x
follow (Ask w use_kind go_on) [] = Ask w use_kind go_on
follow (Ask w use_kind go_on) (reply ∷ replies) = follow (go_on reply) replies

-- how a computation over a bus and a log ends: with its answer, or at the first poisoned word and what it was asked for
pub data Played (X B L : Type 0) : Type 0 where
  Ended : X → B → L → Played X B L
  Poisoned : (w : ℕ) → (use_kind : UseKind) → B → L → Played X B L

-- a good cell's value goes on, poison ends
abbrev pub by_cell : {P : Type 0} → Cell → (ℕ → P) → P → P
by_cell (Good value) go_on poisoned = go_on value
by_cell Poison go_on poisoned = poisoned

-- the computation over a bus and a log: each ask is a read, up to the first poison
abbrev pub play : {X B L : Type 0} → BusMeaning B → (L → Event → L) → Asking X → B → L → Played X B L
play bus logged (Answer x) b log = Ended x b log
play bus logged (Ask w use_kind go_on) b log =
    let reading = bus.read b w in
    let log' = logged_all logged log reading.events in
    by_cell reading.cell (λ value. play bus logged (go_on value) reading.after log') (Poisoned w use_kind reading.after log')

-- a play, and then what follows its answer
infixl 10 ◌then◌
abbrev pub ◌then◌ : {X Y B L : Type 0} → Played X B L → (X → B → L → Played Y B L) → Played Y B L
(Ended x b log) then f = f x b log
(Poisoned w use_kind b log) then f = Poisoned w use_kind b log

-- the bus at the end of a play
abbrev pub bus_of : {X B L : Type 0} → Played X B L → B
bus_of (Ended x b log) = b
bus_of (Poisoned w use_kind b log) = b

-- a play whose log is shown by another
abbrev pub with_log : {X B L M : Type 0} → (L → M) → Played X B L → Played X B M
with_log f (Ended x b log) = Ended x b (f log)
with_log f (Poisoned w use_kind b log) = Poisoned w use_kind b (f log)

-- the good replies of a bus to the asks of a computation, in order
abbrev pub replies_of : {X B : Type 0} → BusMeaning B → Asking X → B → List ℕ
replies_of bus (Answer x) b = []
replies_of bus (Ask w use_kind go_on) b =
    let reading = bus.read b w in
    by_cell reading.cell (λ value. value ∷ replies_of bus (go_on value) reading.after) []

-- a play ended with this answer, and the computation asks for nothing more; or it met poison at the next word that the computation asks for
abbrev pub IsEndOf : {X B L : Type 0} → Played X B L → Asking X → Type 0
IsEndOf (Ended x b log) m = m ≡ Answer x
IsEndOf (Poisoned w use_kind b log) m = (go_on : ℕ → Asking _) × (m ≡ Ask w use_kind go_on)

-- whatever the replies are, at most this many words are asked for, each of them is there, and the answer is as this says
abbrev pub AsksWithin : {X : Type 0} → ℕ → ℕ → (X → Type 0) → Asking X → Type 0
AsksWithin words most IsRight (Answer x) = IsRight x
AsksWithin words most IsRight (Ask w use_kind go_on) =
    (w < words) × (0 < most) × ((value : ℕ) → AsksWithin words (most - 1) IsRight (go_on value))
