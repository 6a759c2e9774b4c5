-- A host whose calls never fail, as its callers see it, and what each call makes of it.
use Rattle.std.specs.Prelude.{◌≡◌, ◌+◌, ◌-◌, ◌^◌, ◌≤◌, ◌<◌, min, ℕ, List, [], ◌++◌, length, take, Option, Some, None, MatchOption, option_and_then}
use Rattle.ras_host.specs.Told.{Bytes, File, CreatedFile, HostCall, Outside, Told, created_of}
use Rattle.ras_host.specs.Memory.{IsMade}

-- a host whose calls never fail; `used` counts the bytes of all writes, up to `room`
pub record SteadyState : Type 0 where
  pub files : List File
  pub out : Told ℕ
  pub err : Told ℕ
  pub created : Option (List CreatedFile)
  pub calls : Told HostCall
  pub room : ℕ
  pub used : ℕ

-- what the host tells of the outside: everything, as far as it fits the room
abbrev pub told_steady : SteadyState → Outside
told_steady s = record { files = Some s.files; out = Some s.out; err = Some s.err; created = s.created; calls = Some s.calls }

-- an empty list, told whole
abbrev pub nothing : {A : Type 0} → Told A
nothing = record { kept = []; total = 0 }

-- a host on which nothing was done
abbrev pub fresh_steady : ℕ → SteadyState
fresh_steady room = record { files = []; out = nothing; err = nothing; created = Some []; calls = nothing; room = room; used = 0 }

-- the bytes were written where so much room is free: the front that fits is kept, all are counted
abbrev pub wrote : Told ℕ → ℕ → Bytes → Told ℕ
wrote told free bytes = record { kept = told.kept ++ take free bytes; total = min (told.total + length bytes) (2 ^ 64 - 1) }

-- the bytes of all writes after so many more, up to the room
abbrev pub used_by : SteadyState → ℕ → ℕ
used_by s bytes = min s.room (s.used + bytes)

-- what is told of the created files after one more was made: nothing once a name does not fit
abbrev pub IsMadeSteady : SteadyState → Bytes → Bytes → Option (List CreatedFile) → Type 0
IsMadeSteady s name bytes after = MatchOption s.created (after ≡ None) (λ files.
    MatchOption after (s.room < s.used + length name) (λ made. (s.used + length name ≤ s.room)
    × IsMade files name (record { kept = take (s.room - s.used - length name) bytes; total = length bytes }) made))

-- what is told of the created file of that name
abbrev pub told_file : SteadyState → Bytes → Option (Told ℕ)
told_file s name = option_and_then (λ files. created_of files name) s.created
