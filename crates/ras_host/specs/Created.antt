-- What a host in memory tells of the files that were created.
use Rattle.std.specs.Prelude.{List}
use Rattle.ras_host.specs.Told.{CreatedFile}
use Rattle.ras_host.specs.Pieces.{files_at}
use Rattle.ras_host.specs.declared.created.CreatedFiles.{CreatedFiles}

-- the created files; the first of a name is the one that stands
abbrev pub told_created : CreatedFiles → List CreatedFile
told_created files = files_at files.bytes.items files.unnamed files.named.items
