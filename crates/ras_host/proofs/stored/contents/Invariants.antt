use Rattle.std.proofs.Common.{◌≡◌, drop, map}
use Rattle.ras_host.specs.Stored.{file_of}
use Rattle.ras_host.specs.Told.{contents}
use Rattle.ras_host.proofs.stored.contents.Given as goal

abbrev pub invariant-loop-file : goal.invariant-loop-file
invariant-loop-file l = contents (map file_of (drop l.file-index l.files)) l.name ≡ contents (map file_of l.files) l.name
