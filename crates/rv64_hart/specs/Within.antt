-- How much a turn asks for, that all of it is there, and what it leaves as it is.
use Rattle.std.specs.Prelude.{◌≡◌, ◌≢◌, ℕ, ◌<◌, ◌%◌, true, List, [], ◌∷◌, Option, Some, None}
use Rattle.ras_bits.specs.Map.{is_ram}
use Rattle.poison_mem.specs.Asking.{Asking, AsksWithin}
use Rattle.sbi_calls.specs.declared.stop.GuestStop.TheVariants.{ConsoleFull}
use Rattle.rv64_hart.specs.declared.ends.Effect.{Effect}
use Rattle.rv64_hart.specs.declared.ends.Effect.TheVariants.{Start}
use Rattle.rv64_hart.specs.declared.ends.TurnEnd.{TurnEnd}
use Rattle.rv64_hart.specs.declared.ends.TurnEnd.TheVariants as ends
use Rattle.rv64_hart.specs.declared.reservation.Reservation.{Reservation}
use Rattle.rv64_hart.specs.State.{ArchitecturalState, next_pc}
use Rattle.rv64_hart.specs.Outcome.{Outcome, OutcomeEnd, Goes, Stops, Store}
use Rattle.rv64_hart.specs.Step.{end_of}
use Rattle.rv64_hart.specs.Translation.{Location, At, Refused}

-- each word that is stored is there
abbrev pub StoresWithin : ℕ → List Store → Type 0
StoresWithin words [] = Unit {0}
StoresWithin words (s ∷ stores) = (s.w < words) × StoresWithin words stores

-- what is reserved is in RAM
abbrev pub HeldWithin : ℕ → Option Reservation → Type 0
HeldWithin words None = Unit {0}
HeldWithin words (Some r) = is_ram words r.address ≡ true

-- a stop of the machine isn't that of a full console; of the hart the pc alone changes, and nothing is taken, stored or written
abbrev pub StopsAlone : ArchitecturalState → Outcome → OutcomeEnd → Type 0
StopsAlone h o (Goes effect) = Unit {0}
StopsAlone h o (Stops stop) =
    (stop ≢ ConsoleFull) × (o.after ≡ next_pc h) × (o.taken ≡ 0) × (o.stores ≡ []) × (o.bytes ≡ [])

-- a hart is started at a multiple of 4
abbrev pub HasEntry : Effect → Type 0
HasEntry (Start id entry opaque) = entry % 4 ≡ 0
HasEntry _ = Unit {0}

-- what a step does to other harts can be done
abbrev pub CanBeDone : TurnEnd → Type 0
CanBeDone (ends.Went effect) = HasEntry effect
CanBeDone _ = Unit {0}

-- What an outcome of a hart's turn is: its stores are there, a reservation in RAM stays in RAM, the hart keeps its number and
-- is as started as before, a stop changes the pc alone, and an effect can be done.
pub record OutcomeWithin (words : ℕ) (h : ArchitecturalState) (o : Outcome) : Type 0 where
  pub stores : StoresWithin words o.stores
  pub held : HeldWithin words h.reservation → HeldWithin words o.after.reservation
  pub number : o.after.number ≡ h.number
  pub started : o.after.started ≡ h.started
  pub stops : StopsAlone h o o.ending
  pub effect : CanBeDone (end_of o.ending)

-- whatever the replies are, it asks for at most this many words, each of them is there, and its outcome is as this says
abbrev pub TurnWithin : ℕ → ℕ → ArchitecturalState → Asking Outcome → Type 0
TurnWithin words most h m = AsksWithin words most (OutcomeWithin words h) m

-- where an access goes is in RAM, at the same offset in its page
abbrev pub IsInPage : ℕ → ℕ → Location → Type 0
IsInPage words address (At physical) = (is_ram words physical ≡ true) × (physical % 4096 ≡ address % 4096)
IsInPage words address (Refused exception) = Unit {0}
