-- Calls that are kept with their names one after the other in one buffer.
use Rattle.std.specs.Prelude.{ℕ, ◌+◌, List, [], ◌∷◌, take, drop}
use Rattle.ras_host.specs.Told.{Bytes, HostCall}
use Rattle.ras_host.specs.declared.call_log.MadeCall.{MadeCall}

-- the calls, each with its part of the buffer
abbrev pub kept_calls : List MadeCall → Bytes → List HostCall
kept_calls [] names = []
kept_calls (m ∷ ms) names =
    record { kind = m.kind; name = take m.name_len names; limit = m.limit } ∷ kept_calls ms (drop m.name_len names)

-- the length of all names
abbrev pub names_len : List MadeCall → ℕ
names_len [] = 0
names_len (m ∷ ms) = m.name_len + names_len ms
