-- How a host whose calls never fail is kept.
use Rattle.std.specs.Prelude.{◌≤◌, map, vec_len, Some, None, cond}
use Rattle.ras_host.specs.Calls.{told_calls}
use Rattle.ras_host.specs.Created.{told_created}
use Rattle.ras_host.specs.Held.{IsHeld}
use Rattle.ras_host.specs.Steady.{SteadyState}
use Rattle.ras_host.specs.Stored.{file_of}
use Rattle.ras_host.specs.declared.steady.SteadyHost.TheInside.{Inside}

-- the state that the fields keep
abbrev pub steady_of : Inside → SteadyState
steady_of h = record {
  files = map file_of h.files.items;
  out = record { kept = h.out.items; total = h.out_total };
  err = record { kept = h.err.items; total = h.err_total };
  created = cond h.tells_created (Some (told_created h.created)) None;
  calls = told_calls h.log;
  room = h.room;
  used = h.used;
}

-- the buffers have the room that is left, and no more is kept than counted
pub record IsSteadyHeld (h : Inside) : Type 0 where
  pub held : IsHeld h.room h.used h.out h.err h.created h.log
  pub out_counted : vec_len h.out ≤ h.out_total
  pub err_counted : vec_len h.err ≤ h.err_total
