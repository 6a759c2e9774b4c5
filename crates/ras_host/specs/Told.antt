-- What a host tells of the outside, and what a list of host calls does to it.
use Rattle.std.specs.Prelude.{◌≡◌, ℕ, ◌+◌, ◌-◌, ◌^◌, min, cond, unwrap_or, List, [], ◌∷◌, ◌++◌, length, Option, Some, None, MatchOption, IfSome, IsSomeAnd}
use Rattle.std.specs.List.{flat_map}
use Rattle.std.specs.Str.{bytes_eq}
use Rattle.ras_host.specs.declared.call_log.CallKind.{CallKind}
use Rattle.ras_host.specs.declared.call_log.CallKind.TheVariants as kind

-- a text or a name, as its bytes
abbrev pub Bytes : Type 0
Bytes = List ℕ

-- a list of which the first elements are kept, with the number of all
pub record Told (A : Type 0) : Type 0 where
  pub kept : List A
  pub total : ℕ

-- all elements are kept
pub record IsWhole {A : Type 0} (told : Told A) : Type 0 where
  pub all : length told.kept ≡ told.total

-- a file that is read
pub record File : Type 0 where
  pub name : Bytes
  pub bytes : Bytes

-- a file that was made, and what is told of its bytes
pub record CreatedFile : Type 0 where
  pub name : Bytes
  pub bytes : Told ℕ

-- a host call, as it was made; a call without a name or a limit has none there, and 0
pub record HostCall : Type 0 where
  pub kind : CallKind
  pub name : Bytes
  pub limit : ℕ

-- everything that a host tells; None where it does not tell
pub record Outside : Type 0 where
  pub files : Option (List File)
  pub out : Option (Told ℕ)
  pub err : Option (Told ℕ)
  pub created : Option (List CreatedFile)
  pub calls : Option (Told HostCall)

-- the bytes of the first file of that name
abbrev pub contents : List File → Bytes → Option Bytes
contents [] name = None
contents (file ∷ files) name = cond (bytes_eq file.name name) (Some file.bytes) (contents files name)

-- what a read sees of that name: a file that the list lacks is empty
abbrev pub bytes_of : List File → Bytes → Bytes
bytes_of files name = unwrap_or (contents files name) []

-- what is told of the created file of that name
abbrev pub created_of : List CreatedFile → Bytes → Option (Told ℕ)
created_of [] name = None
created_of (file ∷ files) name = cond (bytes_eq file.name name) (Some file.bytes) (created_of files name)

-- a host call with what it did: a call that failed wrote a part of its bytes, or made no file
pub data HostAction : Type 0 where
  Read : (name : Bytes) → (limit : ℕ) → HostAction
  Create : (name : Bytes) → (bytes : Bytes) → HostAction
  MissCreate : (name : Bytes) → HostAction
  Out : (bytes : Bytes) → HostAction
  Err : (bytes : Bytes) → HostAction

-- the call that an action is
abbrev pub host_call_of : HostAction → HostCall
host_call_of (Read name limit) = record { kind = kind.Read; name = name; limit = limit }
host_call_of (Create name bytes) = record { kind = kind.Create; name = name; limit = 0 }
host_call_of (MissCreate name) = record { kind = kind.Create; name = name; limit = 0 }
host_call_of (Out bytes) = record { kind = kind.Out; name = []; limit = 0 }
host_call_of (Err bytes) = record { kind = kind.Err; name = []; limit = 0 }

-- the calls that actions are
abbrev pub calls_of : List HostAction → List HostCall
calls_of [] = []
calls_of (action ∷ actions) = host_call_of action ∷ calls_of actions

-- what an action writes to standard output
abbrev pub out_by : HostAction → Bytes
out_by (Out bytes) = bytes
out_by _ = []

-- what actions write to standard output, in order
abbrev pub out_of : List HostAction → Bytes
out_of actions = flat_map out_by actions

-- what an action writes to standard error
abbrev pub err_by : HostAction → Bytes
err_by (Err bytes) = bytes
err_by _ = []

-- what actions write to standard error, in order
abbrev pub err_of : List HostAction → Bytes
err_of actions = flat_map err_by actions

-- the bytes of the file of that name, if the action makes it
abbrev pub made_by : HostAction → Bytes → Option Bytes
made_by (Create made bytes) name = cond (bytes_eq made name) (Some bytes) None
made_by _ name = None

-- the later one, where there is one
abbrev pub later_of : Option Bytes → Option Bytes → Option Bytes
later_of None earlier = earlier
later_of (Some bytes) earlier = Some bytes

-- the bytes of the last file of the name that the actions make
abbrev pub made_of : List HostAction → Bytes → Option Bytes
made_of [] name = None
made_of (action ∷ actions) name = later_of (made_of actions name) (made_by action name)

-- the elements were appended; a count stands at its last value
pub record Appended {A : Type 0} (before after : Told A) (added : List A) : Type 0 where
  pub total : after.total ≡ min (before.total + length added) (2 ^ 64 - 1)
  pub whole : IsWhole after → IsWhole before
  pub kept : IsWhole after → after.kept ≡ before.kept ++ added

-- the same of what a host tells optionally: it tells as much as before
abbrev pub Appends : {A : Type 0} → Option (Told A) → Option (Told A) → List A → Type 0
Appends before after added =
    MatchOption before (after ≡ None) (λ b. IsSomeAnd after (λ a. Appended b a added))

-- what is told of a file with these bytes
pub record IsFileOf (told : Told ℕ) (bytes : Bytes) : Type 0 where
  pub total : told.total ≡ length bytes
  pub kept : IsWhole told → told.kept ≡ bytes

-- each file is the last one made of its name, or as before; a host may cease to tell
abbrev pub Creates : Option (List CreatedFile) → Option (List CreatedFile) → List HostAction → Type 0
Creates before after actions =
    MatchOption before (after ≡ None) (λ b. IfSome after (λ a. (name : Bytes) →
    MatchOption (made_of actions name) (created_of a name ≡ created_of b name)
    (λ bytes. IsSomeAnd (created_of a name) (λ told. IsFileOf told bytes))))

-- the actions and nothing else were done
pub record Performs (before after : Outside) (actions : List HostAction) : Type 0 where
  pub files : after.files ≡ before.files
  pub out : Appends before.out after.out (out_of actions)
  pub err : Appends before.err after.err (err_of actions)
  pub created : Creates before.created after.created actions
  pub calls : Appends before.calls after.calls (calls_of actions)

-- a host that tells nothing
abbrev pub untold : Outside
untold = record { files = None; out = None; err = None; created = None; calls = None }
