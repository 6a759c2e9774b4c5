-- What a turn is told beside the state of its hart.
use Rattle.std.specs.Prelude.{ℕ, List, drop}
use Rattle.rv64_hart.specs.declared.peers.Peers.{Peers}
use Rattle.rv64_hart.specs.declared.around.Around.{Around as Told}

-- the words of RAM, the harts of the machine, the machine's step, and the bytes of the input that aren't taken yet
pub record Around : Type 0 where
  pub words : ℕ
  pub peers : Peers
  pub now : ℕ
  pub input : List ℕ

-- what the program hands on
abbrev pub around_of : Told → Around
around_of told = record { words = told.words; peers = told.peers; now = told.now; input = told.input.now }

-- what a step is told, with the whole input and its place there
abbrev pub around_at : ℕ → Peers → ℕ → List ℕ → ℕ → Around
around_at words peers now input place = record { words = words; peers = peers; now = now; input = drop place input }
