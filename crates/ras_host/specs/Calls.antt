-- What a log tells of the calls that were made.
use Rattle.std.specs.Prelude.{ℕ, ◌+◌, ◌-◌, ◌^◌, min, Bool, cond, ◌&&◌, nat_lt, nat_le, List, [], ◌∷◌, ◌++◌, length}
use Rattle.ras_host.specs.Told.{HostCall, Told}
use Rattle.ras_host.specs.Names.{kept_calls}
use Rattle.ras_host.specs.declared.call_log.CallLog.{CallLog}

-- what a log tells of the calls
abbrev pub told_calls : CallLog → Told HostCall
told_calls log = record { kept = kept_calls log.made.items log.names.items; total = log.count }

-- the length of all names of the calls
abbrev pub names_of : List HostCall → ℕ
names_of [] = 0
names_of (call ∷ calls) = length call.name + names_of calls

-- fewer than 64 calls are kept, and the name fits the room beside theirs
abbrev pub is_kept : ℕ → List HostCall → HostCall → Bool
is_kept room calls call = nat_lt (length calls) 64 && nat_le (names_of calls + length call.name) room

-- one more call was made: it is kept where it fits, and counted
abbrev pub noted : ℕ → Told HostCall → HostCall → Told HostCall
noted room calls call = record {
  kept = cond (is_kept room calls.kept call) (calls.kept ++ call ∷ []) calls.kept;
  total = min (calls.total + 1) (2 ^ 64 - 1);
}
