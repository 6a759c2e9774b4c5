-- The files that a host in memory reads.
use Rattle.std.specs.Prelude.{List, ◌∷◌, string_bytes}
use Rattle.ras_host.specs.Told.{Bytes, File}
use Rattle.ras_host.specs.declared.stored.StoredFile.{StoredFile}

-- a stored file, as its name and bytes
abbrev pub file_of : StoredFile → File
file_of f = record { name = string_bytes f.name; bytes = f.bytes.items }

-- a file of that name is read from now on
abbrev pub with_file : List File → Bytes → Bytes → List File
with_file files name bytes = record { name = name; bytes = bytes } ∷ files
