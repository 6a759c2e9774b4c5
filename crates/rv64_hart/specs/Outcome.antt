-- What a turn of a hart comes to.
use Rattle.std.specs.Prelude.{ℕ, Bool, nat_le, ◌-◌, length, List, [], ◌∷◌}
use Rattle.poison_mem.specs.Asking.{Asking, Answer}
use Rattle.sbi_calls.specs.declared.stop.GuestStop.{GuestStop}
use Rattle.rv64_hart.specs.declared.console.TheConstants.{CONSOLE_ROOM}
use Rattle.rv64_hart.specs.declared.ends.Effect.{Effect}
use Rattle.rv64_hart.specs.declared.ends.Effect.TheVariants.{Nothing}
use Rattle.rv64_hart.specs.State.{ArchitecturalState, next_pc}

-- a store of the bytes of the mask's set bits into word w
pub record Store : Type 0 where
  pub w : ℕ
  pub value : ℕ
  pub mask : ℕ

-- the machine goes on, with an effect on harts; or it stops
pub data OutcomeEnd : Type 0 where
  Goes : Effect → OutcomeEnd
  Stops : GuestStop → OutcomeEnd

-- What a turn comes to once it has its words: the state after it, how many bytes of the input it took, its stores, its
-- bytes for the console, and whether the machine goes on.
pub record Outcome : Type 0 where
  pub after : ArchitecturalState
  pub taken : ℕ
  pub stores : List Store
  pub bytes : List ℕ
  pub ending : OutcomeEnd

-- this state, and nothing else
abbrev pub went : ArchitecturalState → Asking Outcome
went h = Answer (record { after = h; taken = 0; stores = []; bytes = []; ending = Goes Nothing })

-- this state and one store
abbrev pub went_with : ArchitecturalState → Store → Asking Outcome
went_with h store = Answer (record { after = h; taken = 0; stores = store ∷ []; bytes = []; ending = Goes Nothing })

-- this state and bytes for the console
abbrev pub writing : ArchitecturalState → List ℕ → Asking Outcome
writing h bytes = Answer (record { after = h; taken = 0; stores = []; bytes = bytes; ending = Goes Nothing })

-- this state, bytes taken of the input, and stores
abbrev pub taking : ArchitecturalState → ℕ → List Store → Asking Outcome
taking h taken stores = Answer (record { after = h; taken = taken; stores = stores; bytes = []; ending = Goes Nothing })

-- this state and an effect on harts
abbrev pub acting : ArchitecturalState → Effect → Asking Outcome
acting h effect = Answer (record { after = h; taken = 0; stores = []; bytes = []; ending = Goes effect })

-- a call that stops the machine changes the pc alone
abbrev pub stopping : ArchitecturalState → GuestStop → Asking Outcome
stopping h stop = Answer (record { after = next_pc h; taken = 0; stores = []; bytes = []; ending = Stops stop })

-- a console that holds these bytes has room for those
abbrev pub has_room : List ℕ → List ℕ → Bool
has_room console bytes = nat_le (length bytes) (CONSOLE_ROOM - length console)
