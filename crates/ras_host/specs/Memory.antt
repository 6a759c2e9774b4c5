-- A host in memory, as its callers see it, and what each call makes of it.
use Rattle.std.specs.Prelude.{◌≡◌, ◌+◌, ◌-◌, ◌^◌, min, ℕ, List, [], ◌++◌, length, Some, is_none, Bool, cond, ◌||◌, ◌==◌, nat_lt}
use Rattle.std.specs.List.{list_any}
use Rattle.std.specs.Str.{bytes_eq}
use Rattle.ras_host.specs.Told.{Bytes, File, CreatedFile, HostCall, Outside, Told, contents, created_of}
use Rattle.ras_host.specs.Calls.{noted}
use Rattle.ras_host.specs.declared.call_log.CallKind.TheVariants as kind

-- a host in memory; `used` counts the bytes of all writes, `failing` has the numbers of the calls that are to fail
pub record MemoryState : Type 0 where
  pub files : List File
  pub out : Bytes
  pub err : Bytes
  pub created : List CreatedFile
  pub calls : Told HostCall
  pub room : ℕ
  pub used : ℕ
  pub failing : List ℕ
  pub faults : ℕ

-- a list that is kept whole
abbrev pub whole : Bytes → Told ℕ
whole bytes = record { kept = bytes; total = length bytes }

-- what the host tells of the outside: everything
abbrev pub told_memory : MemoryState → Outside
told_memory s = record { files = Some s.files; out = Some (whole s.out); err = Some (whole s.err); created = Some s.created; calls = Some s.calls }

-- a host on which nothing was done
abbrev pub fresh : ℕ → MemoryState
fresh room = record { files = []; out = []; err = []; created = []; calls = record { kept = []; total = 0 }; room = room; used = 0; failing = []; faults = 0 }

-- a call was noted
abbrev pub begun : MemoryState → HostCall → MemoryState
begun s call = record s { calls = noted s.room s.calls call }

-- a fault was counted
abbrev pub failed : MemoryState → MemoryState
failed s = record s { faults = min (s.faults + 1) (2 ^ 64 - 1) }

-- the next call is one that is to fail
abbrev pub is_set_to_fail : MemoryState → Bool
is_set_to_fail s = list_any (λ n. n == s.calls.total) s.failing

-- a read fails: it is to fail, or the file is missing
abbrev pub read_fails : MemoryState → Bytes → Bool
read_fails s name = is_set_to_fail s || is_none (contents s.files name)

-- a write of so many bytes fails: it is to fail, or would bring the bytes of all writes above the room
abbrev pub write_fails : MemoryState → ℕ → Bool
write_fails s bytes = is_set_to_fail s || nat_lt s.room (s.used + bytes)

-- the host after a call that fails or does not
abbrev pub after : Bool → HostCall → MemoryState → (MemoryState → MemoryState) → MemoryState
after fails call s does = cond fails (failed (begun s call)) (does (begun s call))

-- the host after a call that reads a file
abbrev pub after_read : MemoryState → Bytes → ℕ → MemoryState
after_read s name limit = after (read_fails s name) (record { kind = kind.Read; name = name; limit = limit }) s (λ t. t)

-- the host after a call that writes to standard output
abbrev pub after_out : MemoryState → Bytes → MemoryState
after_out s bytes = after (write_fails s (length bytes)) (record { kind = kind.Out; name = []; limit = 0 }) s
    (λ t. record t { out = t.out ++ bytes; used = t.used + length bytes })

-- the host after a call that writes to standard error
abbrev pub after_err : MemoryState → Bytes → MemoryState
after_err s bytes = after (write_fails s (length bytes)) (record { kind = kind.Err; name = []; limit = 0 }) s
    (λ t. record t { err = t.err ++ bytes; used = t.used + length bytes })

-- the host after a call that makes a file; `created` is what it then tells of the created files
abbrev pub after_create : MemoryState → Bytes → ℕ → List CreatedFile → MemoryState
after_create s name bytes created = after (write_fails s (length name + bytes)) (record { kind = kind.Create; name = name; limit = 0 }) s
    (λ t. record t { created = created; used = t.used + (length name + bytes) })

-- the file of that name is the one made, and those of other names stay
abbrev pub IsMade : List CreatedFile → Bytes → Told ℕ → List CreatedFile → Type 0
IsMade before name told after = (other : Bytes) → created_of after other ≡ cond (bytes_eq name other) (Some told) (created_of before other)
