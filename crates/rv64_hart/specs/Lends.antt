-- What harts and their memory end as, where a `&mut` to the memory is returned.
use Rattle.std.specs.Borrow.{Lends, Fml, RattleType, MutBor}
use Rattle.rv64_hart.specs.Harts.{HartsState}
use Rattle.rv64_hart.specs.Shared.{SharedState}
use Rattle.rv64_hart.specs.contracts.harts.Harts as harts
use Rattle.rv64_hart.specs.contracts.shared.Shared as shared

module _ (B : RattleType) (s : MutBor (SharedState B.Denot)) where
  -- once the borrow r ends, the memory is what r shows last
  abbrev pub lends_shared : MutBor B.Denot → Fml
  lends_shared r = Lends (shared.the_row B) B s r (λ memory. record s.now { memory = memory })

module _ (B : RattleType) (s : MutBor (HartsState B.Denot)) where
  -- once the borrow r ends, the memory is what r shows last
  abbrev pub lends_memory : MutBor B.Denot → Fml
  lends_memory r = Lends (harts.the_row B) B s r (λ memory. record s.now { memory = memory })
