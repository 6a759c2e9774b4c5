-- A memory that several harts share, as the bus of the one whose turn it is: a store clears the reservations of the others in
-- its word.
use Rattle.std.specs.Prelude.{List, map}
use Rattle.poison_mem.specs.Bus.{BusMeaning}
use Rattle.rv64_hart.specs.State.{ArchitecturalState, saw_store}

-- the memory, and the harts that wait
pub record SharedState (B : Type 0) : Type 0 where
  pub memory : B
  pub waiting : List ArchitecturalState

-- reads and stores are those of the memory, and each store is seen by the harts that wait
abbrev pub shared_meaning : {B : Type 0} → BusMeaning B → BusMeaning (SharedState B)
shared_meaning bus = record {
  words = λ s. bus.words s.memory;
  read = λ s w.
      let reading = bus.read s.memory w in
      record { cell = reading.cell; after = record s { memory = reading.after }; events = reading.events };
  store = λ s w value mask.
      let storing = bus.store s.memory w value mask in
      record { after = record { memory = storing.after; waiting = map (saw_store w) s.waiting }; events = storing.events };
}
