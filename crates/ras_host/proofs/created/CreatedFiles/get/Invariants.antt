use Rattle.std.proofs.Common.{◌≡◌, drop, map, length, true}
use Rattle.ras_host.specs.Told.{created_of}
use Rattle.ras_host.specs.Pieces.{are_in, file_at}
use Rattle.ras_host.specs.Created.{told_created}
use Rattle.ras_host.proofs.created.CreatedFiles.get.Given as goal

abbrev pub invariant-loop-piece : goal.invariant-loop-piece
invariant-loop-piece l = record {
  within : are_in (length l.self.bytes.items) (drop l.piece-index l.self.named.items) ≡ true;
  rest : created_of (map (file_at l.self.bytes.items) (drop l.piece-index l.self.named.items)) l.name ≡ created_of (told_created l.self) l.name;
}
