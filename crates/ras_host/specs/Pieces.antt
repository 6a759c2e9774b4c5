-- Where created files lie in a buffer.
use Rattle.std.specs.Prelude.{ℕ, ◌+◌, Bool, true, ◌&&◌, nat_le, List, [], ◌∷◌, Option, Some, None, take, drop, map}
use Rattle.ras_host.specs.Told.{Bytes, CreatedFile, Told}
use Rattle.ras_host.specs.declared.created.Piece.{Piece}

-- what is told of the file that a piece of the buffer holds
abbrev pub kept_at : Bytes → Piece → Told ℕ
kept_at bytes p = record { kept = take p.kept (drop (p.start + p.name_len) bytes); total = p.total }

-- the file, with its name
abbrev pub file_at : Bytes → Piece → CreatedFile
file_at bytes p = record { name = take p.name_len (drop p.start bytes); bytes = kept_at bytes p }

-- the file whose name is empty comes first, where there is one
abbrev pub files_at : Bytes → Option Piece → List Piece → List CreatedFile
files_at bytes None ps = map (file_at bytes) ps
files_at bytes (Some p) ps = record { name = []; bytes = kept_at bytes p } ∷ map (file_at bytes) ps

-- the piece lies within a buffer of so many bytes
abbrev pub is_in : ℕ → Piece → Bool
is_in len p = nat_le (p.start + p.name_len + p.kept) len

-- all of them do
abbrev pub are_in : ℕ → List Piece → Bool
are_in len [] = true
are_in len (p ∷ ps) = is_in len p && are_in len ps

-- and so does the piece of the file whose name is empty
abbrev pub all_in : ℕ → Option Piece → List Piece → Bool
all_in len None ps = are_in len ps
all_in len (Some p) ps = is_in len p && are_in len ps
